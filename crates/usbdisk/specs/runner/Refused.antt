-- Why a script is refused, and how far one was read that was not read whole.
use Rattle.std.specs.Prelude.{◌<◌, ◌≤◌, ℕ, List, length, Option}
use Rattle.std.specs.Io.KnownBytes.{Consumes}
use Rattle.usbdisk.specs.declared.console.refusal.Refusal.{Refusal}
use Rattle.usbdisk.specs.declared.console.refusal.Refusal.TheVariants as refused
use Rattle.usbdisk.specs.declared.runner.read.ReadFault.{ReadFault}
use Rattle.usbdisk.specs.declared.runner.read.ReadFault.TheVariants as read
use Rattle.usbdisk.specs.declared.runner.fault.ScriptFault.{ScriptFault}
use Rattle.usbdisk.specs.declared.runner.fault.ScriptFault.TheVariants.{Line, TooLong, Start}
use Rattle.usbdisk.specs.declared.runner.fault.ScriptFault.TheVariants.{NoMemory}
use Rattle.usbdisk.specs.declared.runner.fault.ScriptFault.TheVariants.{Reader, Writer}

abbrev pub read_fault : ReadFault → ScriptFault
read_fault read.TooLong = TooLong
read_fault read.NoMemory = NoMemory
read_fault read.Reader = Reader

-- a command whose script was not played to its end is refused for this
abbrev pub refusal_of_fault : ScriptFault → Refusal
refusal_of_fault (Line number) = refused.Line number
refusal_of_fault TooLong = refused.TooLong
refusal_of_fault (Start fault) = refused.ImageFault fault
refusal_of_fault NoMemory = refused.NoMemory
refusal_of_fault Reader = refused.FileFailed
refusal_of_fault Writer = refused.FileFailed

-- How far a reader was read that was not read to its end within a limit: by more bytes than the
-- limit, or by no more; and where memory ran out by at least one.
abbrev pub IsReadSoFar : ReadFault → ℕ → Option (List ℕ) → Option (List ℕ) → Type 0
IsReadSoFar read.TooLong limit was now =
    (bytes : List ℕ) × Consumes was now bytes × (limit < length bytes)
IsReadSoFar read.NoMemory limit was now =
    (bytes : List ℕ) × Consumes was now bytes × (length bytes ≤ limit) × (0 < length bytes)
IsReadSoFar read.Reader limit was now =
    (bytes : List ℕ) × Consumes was now bytes × (length bytes ≤ limit)
