-- The numbers that C sees.
use Rattle.std.specs.Prelude.{ℕ, List, [], ◌∷◌}
use Rattle.spec.specs.declared.event.Answer.{Answer}
use Rattle.scsi_unit.specs.StartFaults.{StartFault}
use Rattle.spec.specs.declared.event.Answer.TheVariants as answer
use Rattle.recovery.specs.declared.start_fault.StartFault.TheVariants as fault

-- what the host is answered
abbrev pub code_of : Answer → ℕ
code_of answer.Nak = 1
code_of answer.Stall = 2
code_of answer.Off = 2
code_of _ = 0

-- the bytes that go to the host
abbrev pub bytes_of : Answer → List ℕ
bytes_of (answer.Data packet) = packet.items
bytes_of (answer.Byte byte) = byte ∷ []
bytes_of (answer.Two bytes) = bytes
bytes_of _ = []

-- why a start is refused
abbrev pub number_of : StartFault → ℕ
number_of fault.NoMemory = 1
number_of fault.Read = 2
number_of fault.Write = 3
number_of fault.Flush = 4
number_of fault.BadSuper = 5
number_of fault.BadVersion = 6
number_of fault.BadSize = 7
number_of fault.BadHead = 8
number_of fault.StampsUsedUp = 9
number_of fault.LogTooSmall = 10

-- what is wrong with the arguments
abbrev pub EMPTY : ℕ
EMPTY = 16

abbrev pub STARTED : ℕ
STARTED = 17

abbrev pub TOO_LONG : ℕ
TOO_LONG = 18

abbrev pub BAD_IDENTITY : ℕ
BAD_IDENTITY = 19

abbrev pub BAD_PACKET_SIZE : ℕ
BAD_PACKET_SIZE = 20

abbrev pub BAD_LENGTH : ℕ
BAD_LENGTH = 21

abbrev pub BAD_SIZES : ℕ
BAD_SIZES = 22
