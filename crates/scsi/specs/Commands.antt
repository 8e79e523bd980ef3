-- The commands of a direct access block device as a table: SPC-4 and SBC-3 lay out a command
-- descriptor block for each operation code. Numbers are big-endian.
use Rattle.std.specs.Prelude.{◌==◌, ◌+◌, ◌-◌, ◌/◌, ◌%◌, ◌&&◌, ℕ, Bool, List, [], ◌∷◌, ◌++◌, Option}
use Rattle.std.specs.Prelude.{Some, None, Result, Err, if◌then◌else◌, drop, find, length, nat_le}
use Rattle.std.specs.Prelude.{nat_lt, slice_index}
use Rattle.std.specs.List.{list_any}
use Rattle.std.specs.Int.{bit_at}
use Rattle.byteorder.specs.Endian.{big_number}
use Rattle.scsi.specs.Sense.{Sense}
use Rattle.scsi.specs.SenseCodes.{invalid_command_operation_code, invalid_field_in_cdb}
use Rattle.scsi.specs.SenseCodes.{logical_block_address_out_of_range, parameter_list_length_error}
use Rattle.scsi.specs.SenseCodes.{saving_parameters_not_supported}
use Rattle.scsi.specs.declared.command.BlockRange.{BlockRange}
use Rattle.scsi.specs.declared.command.Transfer.{Transfer}
use Rattle.scsi.specs.declared.command.Command.{Command}
use Rattle.scsi.specs.declared.command.Command.TheVariants.{TestUnitReady, RequestSense, Inquiry}
use Rattle.scsi.specs.declared.command.Command.TheVariants.{ModeSelect, ModeSense, ReadCapacity10}
use Rattle.scsi.specs.declared.command.Command.TheVariants.{Read10, Write10, SynchronizeCache10}
use Rattle.scsi.specs.declared.command.Command.TheVariants.{Read16, Write16, SynchronizeCache16}
use Rattle.scsi.specs.declared.command.Command.TheVariants.{ReadCapacity16}
use Rattle.scsi.specs.Inquiry.{page_codes}
use Rattle.scsi.specs.Judging.{Test, must, judged}

-- a row: operation code, length in bytes, the values that byte 1 may have, the tests of the other
-- fields in their order, and the command
pub record Row : Type 0 where
  pub code : ℕ
  pub size : ℕ
  pub byte_1 : List ℕ
  pub fields : List Test
  pub command : Command

-- a number is one of these
abbrev pub is_one_of : List ℕ → ℕ → Bool
is_one_of values number = list_any (λ value. value == number) values

-- the byte at a place
abbrev pub byte_at : ℕ → List ℕ → ℕ
byte_at place block = slice_index block place

-- the number in `bytes` bytes from a place on
unfoldable pub number_at : ℕ → ℕ → List ℕ → ℕ
number_at place bytes block = big_number bytes (drop place block)

-- a bit of byte 1
abbrev pub flag_at : ℕ → List ℕ → Bool
flag_at bit block = bit_at (byte_at 1 block) bit == 1

-- ---- commands of the device (SPC-4)

-- TEST UNIT READY
abbrev pub test_unit_ready : Row
test_unit_ready =
    record { code = 0x00; size = 6; byte_1 = 0x00 ∷ []; fields = []; command = TestUnitReady }

-- REQUEST SENSE: in byte 1 DESC, for descriptor-format sense data, is 0; byte 4 is the allocation
-- length
abbrev pub request_sense : List ℕ → Row
request_sense block = record {
  code = 0x03;
  size = 6;
  byte_1 = 0x00 ∷ [];
  fields = [];
  command = RequestSense (byte_at 4 block);
}

-- INQUIRY: bit 0 of byte 1 is EVPD, byte 2 the page code, bytes 3 and 4 the allocation length.
-- With EVPD 1 the page code is that of a vital product data page; with EVPD 0 it is 0, for
-- standard data
abbrev pub inquiry_page : List ℕ → Option ℕ
inquiry_page block = if flag_at 0 block then Some (byte_at 2 block) else None

abbrev pub inquiry_tests : List ℕ → List Test
inquiry_tests block =
    must (is_one_of (if flag_at 0 block then page_codes else 0x00 ∷ []) (byte_at 2 block))
    invalid_field_in_cdb ∷ []

abbrev pub inquiry : List ℕ → Row
inquiry block = record {
  code = 0x12;
  size = 6;
  byte_1 = 0x00 ∷ 0x01 ∷ [];
  fields = inquiry_tests block;
  command = Inquiry (inquiry_page block) (number_at 3 2 block);
}

-- MODE SELECT (6): in byte 1 PF is 1 and SP is 0; byte 4 is the parameter list length: nothing, a
-- mode parameter header alone, or one with the caching mode page
abbrev pub mode_select : List ℕ → Row
mode_select block = record {
  code = 0x15;
  size = 6;
  byte_1 = 0x10 ∷ [];
  fields = must (is_one_of (0 ∷ 4 ∷ 24 ∷ []) (byte_at 4 block)) parameter_list_length_error ∷ [];
  command = ModeSelect (byte_at 4 block);
}

-- MODE SENSE (6): bit 3 of byte 1 is DBD, which is ignored; byte 2 has the page control in bits 7
-- and 6 and the page code in bits 5 to 0, byte 3 is the subpage code, byte 4 the allocation length.
-- The page is the caching mode page or all pages; page control 3 would ask for saved values
abbrev pub mode_sense_tests : ℕ → ℕ → ℕ → List Test
mode_sense_tests control page subpage =
    must (is_one_of (0x08 ∷ 0x3f ∷ []) page && subpage == 0x00) invalid_field_in_cdb
    ∷ must (nat_lt control 3) saving_parameters_not_supported ∷ []

abbrev pub mode_sense : List ℕ → Row
mode_sense block =
    let control = byte_at 2 block / 64 in
    let page = byte_at 2 block % 64 in
    record {
      code = 0x1a;
      size = 6;
      byte_1 = 0x00 ∷ 0x08 ∷ [];
      fields = mode_sense_tests control page (byte_at 3 block);
      command = ModeSense control page (byte_at 3 block) (byte_at 4 block);
    }

-- ---- commands of its blocks (SBC-3)

-- the address and the count end on a medium of n blocks
abbrev pub ends_within : ℕ → ℕ → ℕ → Bool
ends_within n address count = nat_le (address + count) n

-- READ CAPACITY (10): the address and PMI are ignored
abbrev pub read_capacity_10 : Row
read_capacity_10 =
    record { code = 0x25; size = 10; byte_1 = 0x00 ∷ []; fields = []; command = ReadCapacity10 }

-- READ CAPACITY (16): byte 1 is the service action, bytes 10 to 13 the allocation length; the
-- address and PMI are ignored
abbrev pub read_capacity_16 : List ℕ → Row
read_capacity_16 block = record {
  code = 0x9e;
  size = 16;
  byte_1 = 0x10 ∷ [];
  fields = [];
  command = ReadCapacity16 (number_at 10 4 block);
}

-- READ and WRITE: in byte 1 bit 3 is FUA, bit 4 is DPO, which is ignored, and all others are 0.
-- No more blocks than the limit, and none past the end of the medium
abbrev pub transfer_flags : List ℕ
transfer_flags = 0x00 ∷ 0x08 ∷ 0x10 ∷ 0x18 ∷ []

abbrev pub transfer_tests : ℕ → ℕ → Transfer → List Test
transfer_tests n limit transfer =
    must (nat_le transfer.count limit) invalid_field_in_cdb
    ∷ must (ends_within n transfer.address transfer.count) logical_block_address_out_of_range ∷ []

-- 10 bytes: the address in bytes 2 to 5, the count in bytes 7 and 8
abbrev pub transfer_10 : List ℕ → Transfer
transfer_10 block =
    record { address = number_at 2 4 block; count = number_at 7 2 block; fua = flag_at 3 block }

-- 16 bytes: the address in bytes 2 to 9, the count in bytes 10 to 13
abbrev pub transfer_16 : List ℕ → Transfer
transfer_16 block =
    record { address = number_at 2 8 block; count = number_at 10 4 block; fua = flag_at 3 block }

abbrev pub transfer_row : ℕ → ℕ → ℕ → ℕ → Transfer → (Transfer → Command) → Row
transfer_row code size n limit transfer command = record {
  code = code;
  size = size;
  byte_1 = transfer_flags;
  fields = transfer_tests n limit transfer;
  command = command transfer;
}

abbrev pub read_10 : ℕ → ℕ → List ℕ → Row
read_10 n limit block = transfer_row 0x28 10 n limit (transfer_10 block) Read10

abbrev pub write_10 : ℕ → ℕ → List ℕ → Row
write_10 n limit block = transfer_row 0x2a 10 n limit (transfer_10 block) Write10

abbrev pub read_16 : ℕ → ℕ → List ℕ → Row
read_16 n limit block = transfer_row 0x88 16 n limit (transfer_16 block) Read16

abbrev pub write_16 : ℕ → ℕ → List ℕ → Row
write_16 n limit block = transfer_row 0x8a 16 n limit (transfer_16 block) Write16

-- SYNCHRONIZE CACHE: in byte 1 bit 1 is IMMED, which is ignored, and all others are 0.
-- No block past the end of the medium; the limit of a transfer is none of it
abbrev pub synchronize_flags : List ℕ
synchronize_flags = 0x00 ∷ 0x02 ∷ []

abbrev pub range_tests : ℕ → BlockRange → List Test
range_tests n range =
    must (ends_within n range.address range.count) logical_block_address_out_of_range ∷ []

-- 10 bytes: the address in bytes 2 to 5, the count in bytes 7 and 8
abbrev pub range_10 : List ℕ → BlockRange
range_10 block = record { address = number_at 2 4 block; count = number_at 7 2 block }

-- 16 bytes: the address in bytes 2 to 9, the count in bytes 10 to 13
abbrev pub range_16 : List ℕ → BlockRange
range_16 block = record { address = number_at 2 8 block; count = number_at 10 4 block }

abbrev pub range_row : ℕ → ℕ → ℕ → BlockRange → (BlockRange → Command) → Row
range_row code size n range command = record {
  code = code;
  size = size;
  byte_1 = synchronize_flags;
  fields = range_tests n range;
  command = command range;
}

abbrev pub synchronize_cache_10 : ℕ → List ℕ → Row
synchronize_cache_10 n block = range_row 0x35 10 n (range_10 block) SynchronizeCache10

abbrev pub synchronize_cache_16 : ℕ → List ℕ → Row
synchronize_cache_16 n block = range_row 0x91 16 n (range_16 block) SynchronizeCache16

-- ---- the table, and what a block says

-- the table, for a medium of n blocks and transfers of at most `limit` blocks
abbrev pub table : ℕ → ℕ → List ℕ → List Row
table n limit block =
    test_unit_ready
    ∷ request_sense block
    ∷ inquiry block
    ∷ mode_select block
    ∷ mode_sense block
    ∷ read_capacity_10
    ∷ read_10 n limit block
    ∷ write_10 n limit block
    ∷ synchronize_cache_10 n block
    ∷ read_16 n limit block
    ∷ write_16 n limit block
    ∷ synchronize_cache_16 n block
    ∷ read_capacity_16 block
    ∷ []

-- the tests of every command: the block has all its bytes, the last of them, the control byte, is
-- 0, and byte 1 has one of the values allowed
unfoldable pub form_tests : ℕ → List ℕ → List ℕ → List Test
form_tests size allowed block =
    must (nat_le size (length block)) invalid_field_in_cdb
    ∷ must (byte_at (size - 1) block == 0) invalid_field_in_cdb
    ∷ must (is_one_of allowed (byte_at 1 block)) invalid_field_in_cdb ∷ []

-- what a block says by a row: the command, or the sense of the first test that it does not pass
abbrev pub judged_by : List ℕ → Row → Result Command Sense
judged_by block row = judged (form_tests row.size row.byte_1 block ++ row.fields) row.command

-- what a block says by the row of its operation code, if there is one
abbrev pub judged_by_row : List ℕ → Option Row → Result Command Sense
judged_by_row block None = Err invalid_command_operation_code
judged_by_row block (Some row) = judged_by block row

-- the command that a block says, or the sense with which it is refused
unfoldable pub command_of : ℕ → ℕ → List ℕ → Result Command Sense
command_of n limit block =
    judged_by_row block (find (λ row. row.code == byte_at 0 block) (table n limit block))
