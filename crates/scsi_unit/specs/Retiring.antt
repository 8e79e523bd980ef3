-- When a unit sends the oldest record of its log home: the policy that its start asks for.
use Rattle.std.specs.Prelude.{◌≡◌, Bool, false}
use Rattle.theorems.specs.Ahead.{may_go_by}
use Rattle.blocks.specs.{Opening.Shape, StoreValue.layout_of, Started.{keeps_by, ring_by}}
use Rattle.blocks.specs.declared.start.Keeping.{Keeping}
use Rattle.scsi_unit.specs.declared.retiring.Retiring.{TheVariants.{Late, Ahead, Kept}, Retiring}
use Rattle.scsi_unit.specs.UnitValue.{UnitValue}
-- handed on to the layers above: a log of which shapes allows a unit to go ahead
pub use Rattle.theorems.specs.Ahead.{may_go_ahead}
use Rattle.blocks.specs.declared.start.Keeping.TheVariants as keeping

-- what becomes of the blocks of its records: they are read back, or those of so many are kept
abbrev pub keeping_of : Retiring → Keeping
keeping_of Late = keeping.ReadBack
keeping_of Ahead = keeping.ReadBack
keeping_of (Kept count) = keeping.Kept count

-- whether a unit goes ahead of which a start asked for this, over a log of this shape
abbrev pub goes_ahead_by : Retiring → Shape → Bool
goes_ahead_by Late shape = false
goes_ahead_by Ahead shape = may_go_ahead shape
goes_ahead_by (Kept count) shape =
    may_go_by shape.format (ring_by (keeping_of (Kept count)) shape.slots)

-- A unit retires as a start asked: it goes ahead exactly where that asked for it and its log allows
-- it, and its log keeps blocks exactly where that asked for it.
pub record RetiresBy {M : Type 0} (retiring : Retiring) (unit : UnitValue M) : Type 0 where
  pub ahead : unit.store.goes_ahead ≡ goes_ahead_by retiring (layout_of unit.store.cached)
  pub keeps : unit.store.cached.log.keeps ≡ keeps_by (keeping_of retiring)
