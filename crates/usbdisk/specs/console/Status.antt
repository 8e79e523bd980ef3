-- The exit status of a command that was refused.
use Rattle.std.specs.{Prelude.{◌≡◌, ◌≢◌, ℕ}, declared.io.ErrorKind.ErrorKind}
use Rattle.medium.specs.declared.file.FileError.{FileError}
use Rattle.device_file.specs.{declared.fault.FileCall.FileCall, declared.fault.FileFault.FileFault}
use Rattle.device_file.specs.declared.opening.OpenFault.{OpenFault}
use Rattle.recovery.specs.declared.start_fault.StartFault.{StartFault}
use Rattle.usbdisk.specs.declared.console.refusal.Refusal.{Refusal}
use Rattle.usbdisk.specs.declared.console.words.ArgumentFault.{ArgumentFault}
use Rattle.std.specs.declared.io.ErrorKind.TheVariants as cause
use Rattle.medium.specs.declared.file.FileError.TheVariants as whole
use Rattle.device_file.specs.declared.fault.FileCall.TheVariants as call
use Rattle.device_file.specs.declared.opening.OpenFault.TheVariants as opening
use Rattle.recovery.specs.declared.start_fault.StartFault.TheVariants as start
use Rattle.usbdisk.specs.declared.console.refusal.Refusal.TheVariants as refused
use Rattle.usbdisk.specs.declared.console.words.ArgumentFault.TheVariants as argument

-- a file of no whole sectors is no image; else it refused a call
abbrev pub status_at : FileCall → ErrorKind → ℕ
status_at call.Length cause.InvalidData = 3
status_at _ _ = 4

abbrev pub status_of_fault : FileFault → ℕ
status_of_fault fault = status_at fault.call fault.cause

-- a start that is refused: for want of memory, for its medium, or for a fault of the image
abbrev pub status_of_start : StartFault → ℕ
status_of_start start.NoMemory = 5
status_of_start start.Read = 4
status_of_start start.Write = 4
status_of_start start.Flush = 4
status_of_start _ = 3

abbrev pub status_of : Refusal → ℕ
status_of (refused.Line number) = 1
status_of refused.TooLong = 1
status_of refused.Words = 2
status_of refused.ImageLength = 3
status_of refused.ImageSize = 3
status_of refused.Sizes = 3
status_of refused.Align = 3
status_of (refused.ImageFault fault) = status_of_start fault
status_of (refused.Image fault) = status_of_start fault
status_of (refused.File fault) = status_of_fault fault
status_of (refused.Target fault) = status_of_fault fault
status_of (refused.Plain fault) = 4
status_of refused.FileFailed = 4
status_of refused.Streams = 4
status_of refused.NullDevice = 4
status_of refused.Input = 4
status_of refused.Output = 4
status_of refused.NoMemory = 5

-- a command that was not done was refused for such a reason, and its status is that of the reason
abbrev pub EndsFor : ℕ → (Refusal → Type 0) → Type 0
EndsFor status Why = status ≢ 0 → (refusal : Refusal) × (status ≡ status_of refusal) × Why refusal

-- an argument that is no text is no word of a command
abbrev pub refusal_of_argument : ArgumentFault → Refusal
refusal_of_argument argument.NoText = refused.Words
refusal_of_argument argument.NoMemory = refused.NoMemory

-- an image file that is no medium
abbrev pub refusal_of_file : FileError → Refusal
refusal_of_file whole.File = refused.FileFailed
refusal_of_file whole.BadLength = refused.ImageLength
refusal_of_file whole.TooLong = refused.ImageLength
refusal_of_file whole.NoMemory = refused.NoMemory

-- a file of which no first sectors were had
abbrev pub refusal_of_open : OpenFault → Refusal
refusal_of_open (opening.File why) = refused.File why
refusal_of_open opening.NoMemory = refused.NoMemory
