-- Why a start on a medium was refused.
use Rattle.std.specs.Prelude.{◌≡◌, ◌≢◌, ◌⊎◌, ℕ, ◌+◌, ◌*◌, ◌%◌, ◌<◌, List, length}
use Rattle.medium.specs.Sent.{sent}
use Rattle.logical_blocks.specs.Book.{Book}
use Rattle.recovery.specs.declared.start_fault.StartFault.{StartFault}
use Rattle.window.specs.Window.{Window, state_of, ComesAfter}
use Rattle.blocks.specs.{Opening.{OpensOn, IsCauseFor}, Started.{IsStartCause, StartLeaves}}
use Rattle.blocks.specs.{Started.LeavesMedium}
use Rattle.store_calls.specs.{Rooms.{StartRefusesNothing, SeesStart}}
use Rattle.recovery.specs.declared.start_fault.StartFault.TheVariants as start

-- these bytes are no first sectors of a device of `sectors` sectors
abbrev pub IsNoLength : List ℕ → ℕ → Type 0
IsNoLength near sectors = (length near ≡ 0) ⊎ (length near % 512 ≢ 0)
    ⊎ (512 * sectors < length near)

-- A start on this medium was refused, and left that one. Where a write or a flush was refused, the
-- writes and flushes of this very start had no room together; no read was where the start sees
-- whatever it reads.
pub record EndsIn (first after : Window) (why : StartFault) : Type 0 where
  pub cause : IsStartCause (state_of first) (state_of after) why
  pub possible : (book : Book) → OpensOn (state_of first) book
      → IsCauseFor book (state_of first) (state_of after) why
  pub leaves : StartLeaves (state_of first) (state_of after)
  pub medium : LeavesMedium state_of ComesAfter first after
  pub refuses : StartRefusesNothing first after
  pub full : (why ≡ start.Write) ⊎ (why ≡ start.Flush)
      → sent (state_of first) + first.room < sent (state_of after)
  pub sighted : SeesStart first → why ≢ start.Read
