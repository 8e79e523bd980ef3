-- The command block that an initiator writes for a command: all numbers big-endian, all bits that
-- say nothing of the command 0.
use Rattle.std.specs.Prelude.{◌+◌, ◌*◌, ◌<◌, ◌^◌, ℕ, Bool, List, [], ◌∷◌, ◌++◌, Some, None, ⊤}
use Rattle.std.specs.Prelude.{if◌then◌else◌}
use Rattle.byteorder.specs.Endian.{big_bytes}
use Rattle.scsi.specs.declared.command.Command.{Command, TheVariants.{TestUnitReady, RequestSense}}
use Rattle.scsi.specs.declared.command.Command.TheVariants.{Inquiry, ModeSelect, ModeSense}
use Rattle.scsi.specs.declared.command.Command.TheVariants.{ReadCapacity10, Read10, Write10}
use Rattle.scsi.specs.declared.command.Command.TheVariants.{SynchronizeCache10, Read16, Write16}
use Rattle.scsi.specs.declared.command.Command.TheVariants.{SynchronizeCache16, ReadCapacity16}

-- each number fits its field
abbrev pub FitsFields : Command → Type 0
FitsFields TestUnitReady = ⊤
FitsFields (RequestSense allocation) = allocation < 2 ^ 8
FitsFields (Inquiry page allocation) = allocation < 2 ^ 16
FitsFields (ModeSelect length) = length < 2 ^ 8
FitsFields (ModeSense control page subpage allocation) = allocation < 2 ^ 8
FitsFields ReadCapacity10 = ⊤
FitsFields (Read10 transfer) = (transfer.address < 2 ^ 32) × (transfer.count < 2 ^ 16)
FitsFields (Write10 transfer) = (transfer.address < 2 ^ 32) × (transfer.count < 2 ^ 16)
FitsFields (SynchronizeCache10 range) = (range.address < 2 ^ 32) × (range.count < 2 ^ 16)
FitsFields (Read16 transfer) = (transfer.address < 2 ^ 64) × (transfer.count < 2 ^ 32)
FitsFields (Write16 transfer) = (transfer.address < 2 ^ 64) × (transfer.count < 2 ^ 32)
FitsFields (SynchronizeCache16 range) = (range.address < 2 ^ 64) × (range.count < 2 ^ 32)
FitsFields (ReadCapacity16 allocation) = allocation < 2 ^ 32

-- FUA in byte 1 of READ and WRITE
abbrev pub fua_bit : Bool → ℕ
fua_bit fua = if fua then 0x08 else 0x00

-- 10 bytes: operation code, byte 1, address, group number, count, control byte
abbrev pub ten_bytes : ℕ → ℕ → ℕ → ℕ → List ℕ
ten_bytes code flags address count =
    (code ∷ flags ∷ []) ++ big_bytes 4 address ++ (0 ∷ []) ++ big_bytes 2 count ++ (0 ∷ [])

-- 16 bytes: operation code, byte 1, address, count, group number, control byte
abbrev pub sixteen_bytes : ℕ → ℕ → ℕ → ℕ → List ℕ
sixteen_bytes code flags address count =
    (code ∷ flags ∷ []) ++ big_bytes 8 address ++ big_bytes 4 count ++ (0 ∷ 0 ∷ [])

-- the command block of a command
unfoldable pub block_of : Command → List ℕ
block_of TestUnitReady = 0x00 ∷ 0 ∷ 0 ∷ 0 ∷ 0 ∷ 0 ∷ []
block_of (RequestSense allocation) = 0x03 ∷ 0 ∷ 0 ∷ 0 ∷ allocation ∷ 0 ∷ []
block_of (Inquiry None allocation) = (0x12 ∷ 0x00 ∷ 0x00 ∷ []) ++ big_bytes 2 allocation ++ (0 ∷ [])
block_of (Inquiry (Some page) allocation) =
    (0x12 ∷ 0x01 ∷ page ∷ []) ++ big_bytes 2 allocation ++ (0 ∷ [])
block_of (ModeSelect length) = 0x15 ∷ 0x10 ∷ 0 ∷ 0 ∷ length ∷ 0 ∷ []
block_of (ModeSense control page subpage allocation) =
    0x1a ∷ 0x00 ∷ (control * 64 + page) ∷ subpage ∷ allocation ∷ 0 ∷ []
block_of ReadCapacity10 = ten_bytes 0x25 0x00 0 0
block_of (Read10 transfer) = ten_bytes 0x28 (fua_bit transfer.fua) transfer.address transfer.count
block_of (Write10 transfer) = ten_bytes 0x2a (fua_bit transfer.fua) transfer.address transfer.count
block_of (SynchronizeCache10 range) = ten_bytes 0x35 0x00 range.address range.count
block_of (Read16 transfer) =
    sixteen_bytes 0x88 (fua_bit transfer.fua) transfer.address transfer.count
block_of (Write16 transfer) =
    sixteen_bytes 0x8a (fua_bit transfer.fua) transfer.address transfer.count
block_of (SynchronizeCache16 range) = sixteen_bytes 0x91 0x00 range.address range.count
block_of (ReadCapacity16 allocation) = sixteen_bytes 0x9e 0x10 0 allocation
