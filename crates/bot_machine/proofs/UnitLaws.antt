-- What the laws of the unit say of the commands and steps that a disk has it do, and how it proceeds by these.
use Rattle.std.proofs.Common.{◌≡◌, ℕ, List, None, true, ap, ◌∙◌, refl, subst}
use Rattle.std.specs.Prelude.{Result, Option, None}
use Rattle.logical_blocks.specs.{Book.Book, Blocks.Write}
use Rattle.scsi.specs.{Sense.Sense, Rules.UnitState}
pub use Rattle.scsi_unit.proofs.UnitLaws.{keeps_writes, ticks_only, stays_faulted, between_calls}
pub use Rattle.scsi_unit.proofs.UnitLaws.{limit_between_calls, start_keeps_limit, fits_size, knows_images, few_ticks, intends_by_book}
pub use Rattle.scsi_unit.proofs.UnitLaws.{none_made, step_made}
use Rattle.medium.specs.{Medium.{State, IsSound}, Moments.LeavesOnly}
use Rattle.scsi_unit.specs.{Background.is_dead, Serving.IsSparing, UnitValue.{UnitValue, state_of, FitsUnit}, Books.{MayFind, FoundWith}}
use Rattle.scsi_unit.proofs.FaultedUnit.{wants_none}
use Rattle.bot_machine.specs.Disk.{Proceeds}
use Rattle.medium.proofs.Moments.{started}

-- a faulted unit carries out a command without a call of the medium
pub faulted_rests : {M : Type 0} (state : M → State) (block taken : List ℕ) (old : UnitValue M) (answer : Result (List ℕ) Sense)
    (new : UnitValue M) → IsSparing (state old.store.medium) (state new.store.medium) block taken old answer new
    → is_dead old.store.cached ≡ true
    → ((state new.store.medium).calls ≡ (state old.store.medium).calls) × (is_dead new.store.cached ≡ true)
faulted_rests state block taken old answer new sparing dead =
    let same = sparing.untouched (wants_none old block taken dead) in (
      ap (λ store. (state store.medium).calls) same,
      ap (λ store. is_dead store.cached) same ∙ dead,
    )

-- a unit that goes from one book to another
pub proceeding : {M : Type 0} (before after : State) (old new : UnitValue M)
    (Moves : UnitState → UnitState → Type 0) (write : Option Write) (book later : Book)
    → Moves (state_of old book) (state_of new later) → FitsUnit after new later → later.ours ≡ book.ours
    → (book.ours ≡ true → LeavesOnly (FoundWith before.size book write) before after) → Proceeds before after old new Moves write book
proceeding before after old new Moves write book later moves fits same cuts = record {
  later = later;
  moves = moves;
  fits = fits;
  ours = same;
  cuts = cuts;
  at_exit = λ ours. between_calls after new later fits (same ∙ ours);
}

-- where a unit proceeds in one way it proceeds in each that this one is
pub proceeding_so : {M : Type 0} (before after : State) (old new : UnitValue M)
    (Moves Others : UnitState → UnitState → Type 0) (write other : Option Write) (book : Book)
    → Proceeds before after old new Moves write book → write ≡ other
    → ((later : Book) → Moves (state_of old book) (state_of new later) → Others (state_of old book) (state_of new later))
    → Proceeds before after old new Others other book
proceeding_so before after old new Moves Others write other book p same so = record {
  later = p.later;
  moves = so p.later p.moves;
  fits = p.fits;
  ours = p.ours;
  cuts = λ ours. subst (λ w. LeavesOnly (FoundWith before.size book w) before after) same (p.cuts ours);
  at_exit = p.at_exit;
}

-- a unit that does nothing stays with its book, where the write in progress is none
pub staying_so : {M : Type 0} (m : State) (unit : UnitValue M) (Moves : UnitState → UnitState → Type 0)
    (write : Option Write) (book : Book) → IsSound m → FitsUnit m unit book → None ≡ write
    → Moves (state_of unit book) (state_of unit book) → Proceeds m m unit unit Moves write book
staying_so m unit Moves write book sound fits none moves =
    rw (← none) (proceeding m m unit unit Moves None book book moves fits refl
    (λ ours. started (MayFind m.size book) m sound (between_calls m unit book fits ours)))
