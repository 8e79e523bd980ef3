-- Calls of a machine, one after the other: what they keep of a life, and what is said in them.
use Rattle.std.specs.Prelude.{◌≡◌, ℕ, ◌≤◌, Bool, List, [], ◌∷◌, ◌++◌, length, Result}
use Rattle.logical_blocks.specs.Book.{Book}
use Rattle.scsi.specs.Rules.{UnitState}
use Rattle.spec.specs.Lagging.{Lagging}
use Rattle.window.specs.declared.{ask.DeviceAsk.DeviceAsk, done_fault.DoneFault.DoneFault}
use Rattle.window.specs.{Device.{durable, after}, declared.call.DeviceCall.DeviceCall}
use Rattle.disk_machine.specs.Ahead.{LooksAhead}
use Rattle.disk_machine.specs.Asking.{AsksFor, HearsSafely, IsHonest, turns_told}
use Rattle.disk_machine.specs.{Idling.{Idles, WorksAhead, steps_ahead, steps_idle}}
use Rattle.disk_machine.specs.Machine.{Machine, Serves, LeavesOf, IsCaughtUp}
use Rattle.disk_machine.specs.Moves.{ServesLater, StaysSafe, Turn, begun, played, ticks}
use Rattle.disk_machine.specs.{Packets.{TakesOut, SendsIn, AnswersSetup}, Plays.{Prompt}}
use Rattle.disk_machine.specs.Transfers.{SendsInto, TakesTransfer, turns_in, turns_into, turns_out}
use Rattle.disk_machine.specs.Transfers.{turns_of_taking}
use Rattle.spec.specs.declared.event.Event.TheVariants as event

-- a call, with what it is given
pub data Call : Type 0 where
  next : List ℕ → Call
  done : Bool → List ℕ → Call
  bulk_out : List ℕ → Call
  bulk_in : List ℕ → Call
  take_transfer : List ℕ → Call
  send_transfer : List ℕ → Call
  setup : List ℕ → List ℕ → Call
  idle : Call
  work_ahead : Call
  look_ahead : ℕ → ℕ → Call

-- the call is made, as its contract says; what the device read is told as it is
abbrev pub IsMade : Call → Machine → Machine → Type 0
IsMade (next room) old new = (what : DeviceAsk) × (filled : List ℕ)
    × AsksFor old room what new filled × StaysSafe old new
IsMade (done ok bytes) old new = IsHonest old ok bytes
    × ((result : Result (Unit {0}) DoneFault) × HearsSafely old ok bytes result new)
IsMade (bulk_out packet) old new = (code : ℕ) × TakesOut old packet new code
IsMade (bulk_in room) old new = (filled : List ℕ) × (size : ℕ) × (code : ℕ)
    × SendsIn old room new filled size code
IsMade (take_transfer bytes) old new = (taken : ℕ) × (code : ℕ)
    × TakesTransfer old bytes new taken code
IsMade (send_transfer room) old new = (was : ℕ) × (filled : List ℕ) × (given : ℕ) × (code : ℕ)
    × SendsInto old room was new filled given code
IsMade (setup packet room) old new = (filled : List ℕ) × (size : ℕ) × (code : ℕ)
    × AnswersSetup old packet room new filled size code
IsMade idle old new = (left : Bool) × Idles old new left
IsMade work_ahead old new = WorksAhead old new
IsMade (look_ahead first count) old new = (reads : Bool) × LooksAhead old first count new reads

abbrev pub AreMade : List Call → Machine → Machine → Type 0
AreMade [] old new = new ≡ old
AreMade (call ∷ calls) old new = (mid : Machine) × IsMade call old mid × AreMade calls mid new

-- what the host and the disk say to each other in a call
abbrev pub turns_of : (call : Call) (old new : Machine) → IsMade call old new → List Turn
turns_of (next room) old new made = []
turns_of (done ok bytes) old new made =
    turns_told old.asked ok ++ ticks made.1.1.hears.goes.count
turns_of (bulk_out packet) old new (code, takes) = turns_out old packet new code takes
turns_of (bulk_in room) old new (filled, size, code, sends) =
    turns_in old room new filled size code sends
turns_of (take_transfer bytes) old new (taken, code, takes) =
    turns_of_taking old bytes new taken code takes
turns_of (send_transfer room) old new (was, filled, given, code, sends) =
    turns_into old room was new filled given code sends
turns_of (setup packet room) old new (filled, size, code, answers) =
    played (event.Setup packet) answers.answer ∷ []
turns_of idle old new (left, idles) = ticks (steps_idle old new idles.stepped)
turns_of work_ahead old new works = ticks (steps_ahead old new works.gone)
turns_of (look_ahead first count) old new made = []

abbrev pub turns_in_all : (calls : List Call) (old new : Machine) → AreMade calls old new
    → List Turn
turns_in_all [] old new same = []
turns_in_all (call ∷ calls) old new (mid, made, rest) =
    turns_of call old mid made ++ turns_in_all calls mid new rest

-- whatever calls of a machine come, in any order
abbrev pub ServesThroughout : Type 0
ServesThroughout = (calls : List Call) (old new : Machine) (made : AreMade calls old new)
    (book : Book) (c : Lagging UnitState) → Serves old book c
    → ServesLater book c (turns_in_all calls old new made) new

-- what the laws suppose of a device is met
pub record DeviceWitness : Type 0 where
  -- one that carries out all that it was sent leaves what it holds
  pub leaves : (opening : List ℕ) (calls : List DeviceCall) (told : ℕ) → told ≤ length calls
      → LeavesOf opening calls told (after (durable opening) calls).content
  -- where a start left no call, it is caught up
  pub caught_up : (disk : Prompt) (most : ℕ) → disk.unit.store.medium.outbox ≡ []
      → IsCaughtUp (begun disk most)
