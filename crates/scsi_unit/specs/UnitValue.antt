-- A logical unit over its store.
use Rattle.std.specs.Prelude.{◌≡◌, ◌≤◌, ℕ, List, take, Result, Ok, Err}
use Rattle.medium.specs.{Medium.State, Moments.IsUnchanged}
use Rattle.logical_blocks.specs.Book.{Book}
use Rattle.scsi.specs.{Sense.Sense, Rules.{Intention, UnitState, intention_by}}
use Rattle.blocks.specs.StoreValue.{FitsBook, blocks_of, transfer_limit, is_dead}
use Rattle.scsi_unit.specs.declared.unit.Unit.{Unit}

-- what is seen of a unit over a medium: its fields
abbrev pub UnitValue : Type 0 → Type 0
UnitValue M = Unit M

-- the most blocks of one READ or WRITE of a unit
abbrev pub unit_limit : {M : Type 0} → UnitValue M → ℕ
unit_limit unit = transfer_limit unit.store.cached

-- how many blocks a unit tells that one READ or WRITE moves at most
pub record TellsLimit {M : Type 0} (unit : UnitValue M) (limit : ℕ) : Type 0 where
  pub is : limit ≡ unit_limit unit
  pub least : 48 ≤ limit
  pub most : limit ≤ 240

-- the state of a unit, with a book of its life; it is faulted where its store is dead
abbrev pub state_of : {M : Type 0} → UnitValue M → Book → UnitState
state_of unit book = record {
  book = book;
  limit = unit_limit unit;
  identity = unit.identity;
  kept = unit.kept;
  write_cache = unit.write_cache;
  faulted = is_dead unit.store.cached;
}

-- the unit over a medium in this state fits a book of its life
abbrev pub FitsUnit : {M : Type 0} → State → UnitValue M → Book → Type 0
FitsUnit m unit book = FitsBook m unit.store.cached book

-- The book has as many blocks as the unit, as each has that it fits. What a unit intends, and
-- whether it promises, depends on no more of a book.
abbrev pub IsOfSize : {M : Type 0} → UnitValue M → Book → Type 0
IsOfSize unit book = blocks_of unit.store.cached ≡ book.blocks

-- what a command block is about to move; that is the intention of the unit with any book that fits
abbrev pub intention_of : {M : Type 0} → UnitValue M → List ℕ → Intention
intention_of unit block =
    let cached = unit.store.cached in
    intention_by (blocks_of cached) (unit_limit unit) unit.kept.attention (is_dead cached) block

-- what a call told, and wrote to the front of a buffer, as the answer to a command
abbrev pub answer_of : Result ℕ Sense → List ℕ → Result (List ℕ) Sense
answer_of (Ok sent) out = Ok (take sent out)
answer_of (Err sense) out = Err sense

-- the medium is armed so: nothing else of the unit changes, and it fits what it fitted before
pub record ArmsUnit {M : Type 0} (state : M → State) (Arms : M → M → Type 0)
    (old new : UnitValue M) : Type 0 where
  pub armed : Arms old.store.medium new.store.medium
  pub unchanged : IsUnchanged (state old.store.medium) (state new.store.medium)
  pub others : new ≡ record old { store = record old.store { medium = new.store.medium } }
  pub fits : (book : Book) → FitsUnit (state old.store.medium) old book
      → FitsUnit (state new.store.medium) new book
