-- A unit that is told of a refusal of the device, and a faulted one.
use Rattle.std.{proofs.{Common.{◌≡◌, ℕ, Bool, true, false, List, arith}, lemmas.Bool.Decides.nat_tests}, specs.Prelude.{◌&&◌, IfOk}}
use Rattle.blocks.specs.StoreValue.{is_dead}
use Rattle.scsi.specs.Rules.{needs_medium, intention_by, command_by}
use Rattle.scsi_unit.specs.{Serving.{command_for, wants_medium}, UnitValue.UnitValue, Faulting.{faulted_unit, IsSteady}}

-- what a faulted unit carries out needs no medium
pub passed : (blocks limit : ℕ) (attention faulted : Bool) (block : List ℕ)
    → IfOk (command_by blocks limit attention faulted block) (λ command. (faulted && needs_medium command) ≡ false)
unfolding command_by
passed blocks limit attention faulted block = grind (arith)

-- and wants none
pub wants_none : {M : Type 0} (unit : UnitValue M) (block taken : List ℕ) → is_dead unit.store.cached ≡ true
    → wants_medium (command_for unit block) taken unit.write_cache ≡ false
unfolding command_by
wants_none unit block taken dead = grind (arith, nat_tests, dead)

-- what a unit moves that is told of a refusal it moved before
pub faulted_steady : {M : Type 0} (taken_back : Bool) (old : UnitValue M) → IsSteady old (faulted_unit taken_back old)
unfolding intention_by command_by
faulted_steady taken_back old = grind (arith)
