-- The proofs for the layers above: of what the contract of `unit_laws` says, and of what those of `Unit::medium` and `Unit::intend`
-- say of each book that a unit fits.
pub use Rattle.scsi_unit.proofs.Intentions.{keeps_intentions, writes_are_writes}
pub use Rattle.scsi_unit.proofs.Outcomes.{is_function, keeps_writes, stays_faulted, ticks_only, keeps_limit}
pub use Rattle.scsi_unit.proofs.CommandCalls.{none_made, step_made, few_ticks}
use Rattle.std.proofs.Common.{◌≡◌, ℕ, List, true, ap}
use Rattle.logical_blocks.specs.Book.{Book}
use Rattle.scsi.specs.Rules.{intention, intention_by}
use Rattle.medium.specs.{Medium.State, Moments.EachCut}
use Rattle.blocks.specs.{Finding.MayFind, StoreValue.is_dead, Limit.HasLimit}
use Rattle.blocks.proofs.{TurnsJoined.exits, ImageLimit.{some_limit, one_limit, cut_keeps_limit}}
use Rattle.blocks.proofs.KnownImages.{found_ours, ours_for_opening, stands_for_opening, stands_for_some}
pub use Rattle.blocks.proofs.ImageLimit.{start_keeps_limit}
use Rattle.scsi_unit.specs.{UnitValue.{UnitValue, unit_limit, state_of, FitsUnit, IsOfSize, intention_of}, Laws.KnowsImages}

pub knows_images : KnowsImages
knows_images = record {
  found_ours = found_ours;
  ours_for = ours_for_opening;
  stands_for = stands_for_opening;
  stands = stands_for_some;
  some_limit = some_limit;
  one_limit = one_limit;
}

-- between two calls a cut leaves what may be found of each book that the unit fits
pub between_calls : {M : Type 0} (m : State) (unit : UnitValue M) (book : Book) → FitsUnit m unit book
    → book.ours ≡ true → EachCut (MayFind m.size book) m
between_calls m unit book fits ours = exits m unit.store.cached book fits ours

-- such a cut leaves what has the limit of the unit
pub limit_between_calls : {M : Type 0} (m : State) (unit : UnitValue M) (book : Book) → FitsUnit m unit book
    → book.ours ≡ true → EachCut (HasLimit m.size (unit_limit unit)) m
limit_between_calls m unit book fits ours = cut_keeps_limit m unit.store.cached book fits ours

-- a book that a unit fits has as many blocks
pub fits_size : {M : Type 0} (m : State) (unit : UnitValue M) (book : Book) → FitsUnit m unit book → IsOfSize unit book
fits_size m unit book fits = fits.blocks

-- what a unit intends is what its state with such a book intends
pub intends_by_book : {M : Type 0} (unit : UnitValue M) (book : Book) (block : List ℕ)
    → IsOfSize unit book → intention_of unit block ≡ intention (state_of unit book) block
intends_by_book unit book block size = ap (λ n. intention_by n (unit_limit unit) unit.kept.attention (is_dead unit.store.cached) block) size
