-- A store and the device behind it, which may be behind: it is still carrying out calls that it was
-- told.
use Rattle.std.specs.Prelude.{◌≡◌, ℕ, ◌+◌, ◌-◌, ◌≤◌, Bool, true, false, List, [], length, take}
use Rattle.std.specs.{Prelude.if◌then◌else◌}
use Rattle.medium.specs.Medium.{Image, CutLeaves}
use Rattle.window.specs.{Device.{durable, after}, OutboxMedium.sent, Parts.AreCarriedOut}
use Rattle.window.specs.{declared.call.DeviceCall.DeviceCall, Window.mirror_of}
use Rattle.window.specs.{declared.state.MachineState.MachineState, declared.asked.Asked.Asked}
use Rattle.logical_blocks.specs.Book.{Book}
use Rattle.blocks.specs.{Finding.MayFind, StoreValue.FitsBook}
use Rattle.store_calls.specs.{Stores.Store, declared.machine.StoreMachine.StoreMachine}
use Rattle.window.specs.Window as window
use Rattle.window.specs.declared.state.MachineState.TheVariants as state
use Rattle.window.specs.declared.asked.Asked.TheVariants as asked
use Rattle.store_calls.specs.declared.lack.Lack.TheVariants as lack

-- a store, what the device was asked for last and has not told done, the sectors that a read lacks,
-- and whether a write or a sync was told to come again, and none was taken since
abbrev pub Machine : Type 0
Machine = StoreMachine

-- a machine over a store that has just started
abbrev pub begun : Store → Machine
begun store = record {
  store = store;
  asked = asked.Nothing;
  lack = lack.Nothing;
  put_off = false;
}

-- ---- the device

-- how many of the calls that left the outbox the device has not told done
abbrev pub under_way : Asked → ℕ
under_way asked.Nothing = 0
under_way (asked.Calls count) = count
under_way (asked.Read home) = 0
under_way (asked.Refused count behind) = count + behind

-- it refused a call
abbrev pub has_refused : Asked → Bool
has_refused asked.Nothing = false
has_refused (asked.Calls count) = false
has_refused (asked.Read home) = false
has_refused (asked.Refused count behind) = true

-- how many calls it has told done, since the beginning
abbrev pub carried : Machine → ℕ
carried s = length s.store.medium.seen.told.taken - under_way s.asked

-- it is at no call, and none waits: it has carried out all that it was told
pub record IsCaughtUp (s : Machine) : Type 0 where
  pub at_none : s.asked ≡ asked.Nothing
  pub none_waits : s.store.medium.outbox ≡ []

-- What a loss of power may leave of a device that held these bytes and was sent these calls, of
-- which it has told the first `told` done: it has carried out these, and of the others any first
-- part, of whose writes behind the last flush any may be missing.
pub record LeavesOf (opening : List ℕ) (calls : List DeviceCall) (told : ℕ) (image : Image)
    : Type 0 where
  pub count : ℕ
  pub done : List DeviceCall
  pub reaches : told ≤ count
  pub are : AreCarriedOut (take count calls) done
  pub cut : CutLeaves (after (durable opening) done).may_leave image

-- a device that carries out all that it was sent leaves what it holds
abbrev pub DeviceLeaves : Type 0
DeviceLeaves = (opening : List ℕ) (calls : List DeviceCall) (told : ℕ) → told ≤ length calls
    → LeavesOf opening calls told (after (durable opening) calls).content

-- the same of the device behind a machine, wherever it is
abbrev pub MayLeave : Machine → Image → Type 0
MayLeave s image =
    LeavesOf s.store.medium.seen.told.opening (sent (mirror_of s.store.medium)) (carried s) image

-- ---- what a machine is at

abbrev pub stage_of : Machine → MachineState
stage_of s = if has_refused s.asked then state.Refused else state.Serving

-- ---- the promise

-- Whatever a loss of power leaves, wherever the device is, a start finds the first some of the
-- accepted writes, and the promised ones are among them.
abbrev pub Keeps : Machine → Book → Type 0
Keeps s book = book.ours ≡ true → (image : Image) → MayLeave s image
    → MayFind (window.state_of s.store.medium).size book image

-- The machine serves a life with this book, of accepted writes and of promised ones.
pub record Serves (s : Machine) (book : Book) : Type 0 where
  pub fits : FitsBook (window.state_of s.store.medium) s.store.cached book
  pub keeps : Keeps s book
