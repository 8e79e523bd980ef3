-- A disk and the device behind it, which may be behind: it is still carrying out calls that it was
-- handed while packets come.
use Rattle.std.specs.Prelude.{◌≡◌, ◌⊎◌, ℕ, ◌+◌, ◌-◌, ◌≤◌, Bool, true, false, List, [], length, take}
use Rattle.medium.specs.Medium.{Image, CutLeaves}
use Rattle.logical_blocks.specs.{Blocks.Write, Book.{Book, with_write}}
use Rattle.scsi.specs.Rules.{UnitState}
use Rattle.spec.specs.Lagging.{Lagging}
use Rattle.window.specs.{Device.{durable, after}, OutboxMedium.sent, Parts.AreCarriedOut}
use Rattle.window.specs.{declared.{call.DeviceCall.DeviceCall, asked.Asked.Asked}, Window.state_of}
use Rattle.window.specs.Window.{mirror_of}
use Rattle.scsi_unit.specs.Books.{MayFind}
use Rattle.bot_machine.specs.LaggingDisk.{StandsFor, held_book}
use Rattle.disk_machine.specs.Seen.{is_faulted, medium_of}
use Rattle.disk_machine.specs.declared.machine.DiskMachine.{DiskMachine}
use Rattle.window.specs.declared.asked.Asked.TheVariants as asked

-- a disk, how many calls may wait in its outbox when a step is made, what the device was asked for
-- last and has not told done, and the sectors that it is to read ahead
abbrev pub Machine : Type 0
Machine = DiskMachine

-- ---- the device

-- how many of the calls that left the outbox the device has not told done
abbrev pub under_way : Asked → ℕ
under_way (asked.Calls count) = count
under_way (asked.Refused count behind) = count + behind
under_way _ = 0

-- it refused a call
abbrev pub has_refused : Asked → Bool
has_refused (asked.Refused count behind) = true
has_refused _ = false

-- how many calls it has told done, since the beginning
abbrev pub carried : Machine → ℕ
carried s = length (medium_of s.disk).seen.told.taken - under_way s.asked

-- it has told each call done that the disk ever made
pub record IsCaughtUp (s : Machine) : Type 0 where
  pub none_waits : (medium_of s.disk).outbox ≡ []
  pub none_under_way : under_way s.asked ≡ 0
  pub none_refused : has_refused s.asked ≡ false

-- What a loss of power may leave of a device that held these bytes and was sent these calls, of
-- which it has told the first `told` done: it has carried out these, and of the others any first
-- part, of whose writes behind the last flush any may be missing.
pub record LeavesOf (opening : List ℕ) (calls : List DeviceCall) (told : ℕ) (image : Image)
    : Type 0 where
  pub count : ℕ
  pub done : List DeviceCall
  pub reaches : told ≤ count
  pub are : AreCarriedOut (take count calls) done
  pub cut : CutLeaves (after (durable opening) done).may_leave image

-- the same of the device behind a machine, wherever it is
abbrev pub MayLeave : Machine → Image → Type 0
MayLeave s image = LeavesOf (medium_of s.disk).seen.told.opening
    (sent (mirror_of (medium_of s.disk))) (carried s) image

-- ---- the promise

-- A start finds the first k of the writes of this book, the promised ones among them. A unit that
-- an error faulted may have had a write in progress: k may count it too.
abbrev pub Finds : ℕ → Bool → Book → Image → Type 0
Finds size faulted book image = MayFind size book image
    ⊎ ((faulted ≡ true) × ((write : Write) × MayFind size (with_write book write) image))

-- Whatever a loss of power leaves, wherever the device is, a start finds the promised writes of the
-- life, and of those behind them the first some, none in part. That of a command that is pending,
-- where a batch has it, is the last of them.
abbrev pub Keeps : Machine → Book → Type 0
Keeps s book = book.ours ≡ true → (image : Image) → MayLeave s image
    → Finds (state_of (medium_of s.disk)).size (is_faulted s.disk) (held_book s.disk book) image

-- The machine serves a life with this book, of which the host and the disk have come so far.
pub record Serves (s : Machine) (book : Book) (c : Lagging UnitState) : Type 0 where
  pub stands : StandsFor (state_of (medium_of s.disk)) s.disk book c
  pub keeps : Keeps s book
  -- where the device refused a call the unit is faulted
  pub faulted : has_refused s.asked ≡ true → is_faulted s.disk ≡ true
