-- What the calls of a store do to the books that it fits.
use Rattle.std.specs.Prelude.{◌≡◌, ◌⊎◌, ◌+◌, ◌*◌, ◌≤◌, ◌<◌, Bool, true, false, if◌then◌else◌}
use Rattle.medium.specs.{Medium.State, Moments.{LeavesOnly, SparesFrom}}
use Rattle.medium.specs.declared.fault.MediumFault.TheVariants.{Read}
use Rattle.logical_blocks.specs.{Blocks.Write, Book.{Book, with_write, StampsOut}}
use Rattle.journal.specs.Places.{sectors_of}
use Rattle.blocks.specs.declared.fault.StoreFault.{TheVariants.{ReadFault, Dead}, StoreFault}
use Rattle.blocks.specs.{Finding.{MayFind, Found}, StoreValue.{Cached, layout_of, blocks_of}}
use Rattle.blocks.specs.StoreValue.{is_dead, steps_left, FitsBook}

-- a call of the medium was refused since, or the stamps are out in each book that the store fitted
abbrev pub HasCause : State → State → Cached → Type 0
HasCause before after old = (before.failures < after.failures)
    ⊎ ((book : Book) → FitsBook before old book → StampsOut book)

-- No refusal is forgotten, and the sizes stay, whether the log keeps its blocks, and death. One
-- that dies has a cause. The sectors behind the image are spared, at each moment.
pub record GoesOn (before after : State) (old new : Cached) : Type 0 where
  pub failures_stay : before.failures ≤ after.failures
  pub size_stays : after.size ≡ before.size
  pub layout_stays : layout_of new ≡ layout_of old
  pub keeps_stays : new.log.keeps ≡ old.log.keeps
  pub spares : SparesFrom (sectors_of (layout_of old)) before after
  pub blocks_stay : blocks_of new ≡ blocks_of old
  pub dead_stays : is_dead old ≡ true → is_dead new ≡ true
  pub cause : is_dead old ≡ false → is_dead new ≡ true → HasCause before after old

-- why a read is refused: the medium refused one, or the store was dead
abbrev pub IsReadCause : State → State → Cached → StoreFault → Type 0
IsReadCause before after old ReadFault = (before.failures < after.failures)
    × (before.refused Read < after.refused Read)
IsReadCause before after old Dead = is_dead old ≡ true

-- A turn of a store that accepts no write: it fits the books that it fitted, and a cut at any
-- moment of it leaves what may be found of them.
pub record IsTurn (before after : State) (old new : Cached) : Type 0 where
  pub fits : (book : Book) → FitsBook before old book → FitsBook after new book
  pub cuts : (book : Book) → FitsBook before old book → book.ours ≡ true
      → LeavesOnly (MayFind before.size book) before after
  pub goes_on : GoesOn before after old new

-- A turn that accepts one write, or none: it fits the books with that write last, or as they were,
-- and a cut at any moment leaves what may be found of them, perhaps with the write, whole.
pub record IsWriteTurn (write : Write) (accepted : Bool) (before after : State) (old new : Cached)
    : Type 0 where
  pub fits : (book : Book) → FitsBook before old book
      → FitsBook after new (if accepted then with_write book write else book)
  pub cuts : (book : Book) → FitsBook before old book → book.ours ≡ true
      → LeavesOnly (Found before.size book write) before after
  pub goes_on : GoesOn before after old new

-- each background step makes at most two calls of the medium, and what it makes is no longer left
pub record IsPaid (before after : State) (old new : Cached) : Type 0 where
  pub most : after.calls ≤ before.calls + 2 * steps_left old
  pub rest : is_dead new ≡ false
      → after.calls + 2 * steps_left new ≤ before.calls + 2 * steps_left old
