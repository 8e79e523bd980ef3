-- The steps that write what is before a write or a sync.
use Rattle.std.specs.Prelude.{◌≡◌, ◌≢◌, ◌⊎◌, ℕ, ◌+◌, ◌≤◌, false, []}
use Rattle.window.specs.{Window.state_of}
use Rattle.blocks.specs.{Headroom.IsSparing, StoreValue.{is_dead, steps_left}, Written.IsWritten}
use Rattle.blocks.specs.{declared.work.Work.TheVariants.WriteBack}
use Rattle.store_calls.specs.{Idling.{AreSteps, Before, IsShort}, Rooms.{Appends, IsRoomy}}
use Rattle.store_calls.specs.{Stores.Store}
use Rattle.store_calls.specs.{declared.writing_back.Aim.Aim}
use Rattle.store_calls.specs.declared.writing_back.Aim.TheVariants as aim

-- Before a write the frozen batch of a live store holds blocks; before a sync a record is left to
-- write.
abbrev pub IsLeft : Aim → Store → Type 0
IsLeft aim.Batch s = (is_dead s.cached ≡ false) × (s.cached.frozen.numbers ≢ [])
IsLeft aim.Records s = ¬ IsWritten s.cached

-- and few calls wait
pub record MayWriteBack (aim : Aim) (s : Store) : Type 0 where
  pub left : IsLeft aim s
  pub short : IsShort s

-- At most 256 steps that write back, and fewer only where nothing is left to write or many calls
-- wait. Each leaves fewer steps, so that nothing is left in the end. Where the store retires ahead
-- and has headroom, they make one flush for each record that becomes durable. None of their calls
-- is refused in an outbox that had the room when nothing waited.
pub record WritesBack (aim : Aim) (old new : Store) : Type 0 where
  pub count : ℕ
  pub few : count ≤ 256
  pub made : AreSteps (Before (MayWriteBack aim)) WriteBack count old new
  pub ends : (count ≡ 256) ⊎ (¬ MayWriteBack aim new)
  pub fewer : is_dead new.cached ≡ false → steps_left new.cached + count ≤ steps_left old.cached
  pub sparing : IsSparing state_of old new
  pub appends : Appends (IsRoomy old) old new
