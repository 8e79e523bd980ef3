-- The device behind the medium refused a call that it had taken, and the unit is told so.
use Rattle.std.specs.Prelude.{◌≡◌, ℕ, Bool, true, false, List}
use Rattle.scsi.specs.{SenseCodes.write_error, Waiting.{Waiting, after_failure}, Rules.UnitState}
use Rattle.blocks.specs.Stopping.{stopped_store}
use Rattle.scsi.specs.declared.intent.Intent.TheVariants as intent
use Rattle.scsi_unit.specs.UnitValue.{UnitValue, intention_of}

-- where a good status is taken back that was not yet sent, its write error is kept for REQUEST
-- SENSE
abbrev pub kept_behind : Bool → Waiting → Waiting
kept_behind true kept = after_failure write_error kept
kept_behind false kept = kept

-- By the rules: the unit is faulted, as by a step in the background. What was accepted stays, and
-- how much of it is promised.
abbrev pub faulted_state : Bool → UnitState → UnitState
faulted_state taken_back unit = record unit {
  kept = kept_behind taken_back unit.kept;
  faulted = true;
}

-- the unit itself: its store is dead
abbrev pub faulted_unit : {M : Type 0} → Bool → UnitValue M → UnitValue M
faulted_unit taken_back unit = record unit {
  store = stopped_store unit.store;
  kept = kept_behind taken_back unit.kept;
}

-- no command comes to take data, or other data, by it; nor to send any
pub record IsSteady {M : Type 0} (old new : UnitValue M) : Type 0 where
  pub takes : (block : List ℕ) (n : ℕ) → intention_of new block ≡ intent.Out n
      → intention_of old block ≡ intent.Out n
  pub sends : (block : List ℕ) (n : ℕ) → intention_of new block ≡ intent.In n
      → intention_of old block ≡ intent.In n
