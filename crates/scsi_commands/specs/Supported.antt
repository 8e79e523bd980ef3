-- What the device carries out of what a command may ask, and how a command is refused.
use Rattle.std.specs.Prelude.{◌≡◌, ◌+◌, ◌<◌, ◌≤◌, ◌⊎◌, ℕ, [], ◌∷◌, Some, None, IsTrue, ⊤}
use Rattle.std.specs.Prelude.{if◌then◌else◌, nat_lt}
use Rattle.scsi.specs.{Sense.Sense, SenseCodes.invalid_command_operation_code}
use Rattle.scsi.specs.SenseCodes.{invalid_field_in_cdb, logical_block_address_out_of_range}
use Rattle.scsi.specs.SenseCodes.{parameter_list_length_error, saving_parameters_not_supported}
use Rattle.scsi.specs.declared.command.{Transfer.Transfer, Command.Command}
use Rattle.scsi.specs.declared.command.Command.TheVariants.{TestUnitReady, RequestSense, Inquiry}
use Rattle.scsi.specs.declared.command.Command.TheVariants.{ModeSelect, ModeSense, ReadCapacity10}
use Rattle.scsi.specs.declared.command.Command.TheVariants.{Read10, Write10, SynchronizeCache10}
use Rattle.scsi.specs.declared.command.Command.TheVariants.{Read16, Write16, SynchronizeCache16}
use Rattle.scsi.specs.{declared.command.Command.TheVariants.ReadCapacity16, Commands.is_one_of}
use Rattle.scsi.specs.Inquiry.{page_codes}

-- a READ or WRITE that moves at most `limit` blocks, all of them on a medium of n blocks
pub record IsWithin (n limit : ℕ) (transfer : Transfer) : Type 0 where
  pub few : transfer.count ≤ limit
  pub on_medium : transfer.address + transfer.count ≤ n

-- a MODE SENSE for values that there are, of the caching page or of all pages
pub record HasModePage (control page subpage : ℕ) : Type 0 where
  pub not_saved : control < 3
  pub served : IsTrue (is_one_of (0x08 ∷ 0x3f ∷ []) page)
  pub whole : subpage ≡ 0x00

-- a command that the device carries out, on a medium of n blocks and with at most `limit` blocks in
-- a transfer
abbrev pub IsSupported : ℕ → ℕ → Command → Type 0
IsSupported n limit TestUnitReady = ⊤
IsSupported n limit (RequestSense allocation) = ⊤
IsSupported n limit (Inquiry None allocation) = ⊤
IsSupported n limit (Inquiry (Some page) allocation) = IsTrue (is_one_of page_codes page)
IsSupported n limit (ModeSelect length) = IsTrue (is_one_of (0 ∷ 4 ∷ 24 ∷ []) length)
IsSupported n limit (ModeSense control page subpage allocation) = HasModePage control page subpage
IsSupported n limit ReadCapacity10 = ⊤
IsSupported n limit (Read10 transfer) = IsWithin n limit transfer
IsSupported n limit (Write10 transfer) = IsWithin n limit transfer
IsSupported n limit (SynchronizeCache10 range) = range.address + range.count ≤ n
IsSupported n limit (Read16 transfer) = IsWithin n limit transfer
IsSupported n limit (Write16 transfer) = IsWithin n limit transfer
IsSupported n limit (SynchronizeCache16 range) = range.address + range.count ≤ n
IsSupported n limit (ReadCapacity16 allocation) = ⊤

-- the senses with which command blocks are refused
abbrev pub IsRefusal : Sense → Type 0
IsRefusal sense =
    (sense ≡ invalid_command_operation_code)
    ⊎ (sense ≡ invalid_field_in_cdb)
    ⊎ (sense ≡ logical_block_address_out_of_range)
    ⊎ (sense ≡ parameter_list_length_error)
    ⊎ (sense ≡ saving_parameters_not_supported)

-- how many bytes a command has, by the group in the highest three bits of its operation code
-- (SPC-4 4.2.5.1); 0 in the groups that are reserved or a vendor's own
abbrev pub command_size : ℕ → ℕ
command_size code =
    if nat_lt code 0x20 then 6
    else if nat_lt code 0x60 then 10
    else if nat_lt code 0x80 then 0
    else if nat_lt code 0xa0 then 16
    else if nat_lt code 0xc0 then 12
    else 0
