use Rattle.std.proofs.Common.{◌≡◌, ◌≤◌, ◌<◌, ◌+◌, ◌*◌, ◌/◌, ◌%◌, ◌^◌, ℕ, List, [], ◌∷◌, ◌++◌, Bool, true, false, Some, None, Ok}
use Rattle.std.proofs.{Common.{refl, ap, ◌∙◌, length, drop, arith}, lemmas.Bool.{le-leb}}
use Rattle.std.proofs.{lemmas.Bool.Decides.nat_tests, lemmas.Nat.{shr_high, mod_low}}
use Rattle.byteorder.specs.{Endian.{big_number, big_bytes}, Numbers.big_number-reads_back}
use Rattle.scsi.specs.declared.command.Command.{Command, TheVariants.{TestUnitReady, RequestSense, Inquiry, ModeSelect, ModeSense}}
use Rattle.scsi.specs.declared.command.Command.TheVariants.{ReadCapacity10, Read10, Write10, SynchronizeCache10, Read16, Write16}
use Rattle.scsi.specs.declared.command.{Command.TheVariants.{SynchronizeCache16, ReadCapacity16}, Transfer.Transfer, BlockRange.BlockRange}
use Rattle.scsi.specs.Commands.{Row, number_at, is_one_of, form_tests, transfer_flags, transfer_tests, range_tests, transfer_10}
use Rattle.scsi.specs.Commands.{transfer_16, range_10, range_16, synchronize_flags, mode_sense_tests, judged_by, command_of, inquiry}
use Rattle.scsi.specs.Commands.{mode_select, mode_sense, read_capacity_16}
use Rattle.scsi_commands.specs.Supported.{IsWithin, HasModePage, IsSupported}
use Rattle.scsi_commands.specs.Written.{FitsFields, block_of, fua_bit, ten_bytes, sixteen_bytes}
use Rattle.scsi_commands.proofs.Judged.{AllPassed, AllPassed-append, judged_all}

-- a number that was written at a place is read there
number_written : (place bytes x : ℕ) (block rest : List ℕ) → drop place block ≡ big_bytes bytes x ++ rest → x < 256 ^ bytes
    → number_at place bytes block ≡ x
unfolding number_at
number_written place bytes x block rest there fits = ap (big_number bytes) there ∙ big_number-reads_back bytes x rest fits

-- a block that passes its tests says the command that they were made for
row_written : (block : List ℕ) (row : Row) (command : Command) → AllPassed (form_tests row.size row.byte_1 block) → AllPassed row.fields
    → row.command ≡ command → judged_by block row ≡ Ok command
row_written block row command form fields same =
    let tests = form_tests row.size row.byte_1 block in
    judged_all (tests ++ row.fields) row.command (AllPassed-append tests row.fields form fields)
    ∙ ap (λ (c : Command). Ok c) same

within_passed : (n limit : ℕ) (transfer : Transfer) → IsWithin n limit transfer → AllPassed (transfer_tests n limit transfer)
within_passed n limit transfer within = (
  le-leb transfer.count limit within.few,
  (le-leb (transfer.address + transfer.count) n within.on_medium, tt),
)

range_passed : (n : ℕ) (range : BlockRange) → range.address + range.count ≤ n → AllPassed (range_tests n range)
range_passed n range within = (le-leb (range.address + range.count) n within, tt)

-- READ and WRITE of 10 bytes
transfer_10_written : (code address count : ℕ) (fua : Bool) → address < 2 ^ 32 → count < 2 ^ 16
    → transfer_10 (ten_bytes code (fua_bit fua) address count) ≡ record { address = address; count = count; fua = fua }
transfer_10_written code address count fua a c =
    let block = ten_bytes code (fua_bit fua) address count in
    let at = number_written 2 4 address block ((0 ∷ []) ++ big_bytes 2 count ++ (0 ∷ [])) refl a in
    let many = number_written 7 2 count block (0 ∷ []) refl c in grind (arith, at, many)

form_10_written : (code address count : ℕ) (fua : Bool)
    → AllPassed (form_tests 10 transfer_flags (ten_bytes code (fua_bit fua) address count))
unfolding form_tests
form_10_written code address count true = (refl, (refl, (refl, tt)))
form_10_written code address count false = (refl, (refl, (refl, tt)))

-- READ and WRITE of 16 bytes
transfer_16_written : (code address count : ℕ) (fua : Bool) → address < 2 ^ 64 → count < 2 ^ 32
    → transfer_16 (sixteen_bytes code (fua_bit fua) address count) ≡ record { address = address; count = count; fua = fua }
transfer_16_written code address count fua a c =
    let block = sixteen_bytes code (fua_bit fua) address count in
    let at = number_written 2 8 address block (big_bytes 4 count ++ (0 ∷ 0 ∷ [])) refl a in
    let many = number_written 10 4 count block (0 ∷ 0 ∷ []) refl c in grind (arith, at, many)

form_16_written : (code address count : ℕ) (fua : Bool)
    → AllPassed (form_tests 16 transfer_flags (sixteen_bytes code (fua_bit fua) address count))
unfolding form_tests
form_16_written code address count true = (refl, (refl, (refl, tt)))
form_16_written code address count false = (refl, (refl, (refl, tt)))

-- the rows of the commands that move blocks, and of SYNCHRONIZE CACHE
abbrev transfers : ℕ → ℕ → ℕ → ℕ → (Transfer → Command) → Transfer → Row
transfers code size n limit make found =
    record { code = code; size = size; byte_1 = transfer_flags; fields = transfer_tests n limit found; command = make found }

abbrev ranges : ℕ → ℕ → ℕ → (BlockRange → Command) → BlockRange → Row
ranges code size n make found =
    record { code = code; size = size; byte_1 = synchronize_flags; fields = range_tests n found; command = make found }

-- a transfer that was written is supported where the one that was meant is
transfer_row : (code size n limit : ℕ) (make : Transfer → Command) (block : List ℕ) (found meant : Transfer) → found ≡ meant
    → AllPassed (form_tests size transfer_flags block) → IsWithin n limit meant
    → judged_by block (transfers code size n limit make found) ≡ Ok (make meant)
transfer_row code size n limit make block found meant same form within =
    row_written block (transfers code size n limit make found) (make meant) form (rw same (within_passed n limit meant within))
    (ap make same)

-- the same of SYNCHRONIZE CACHE
range_row : (code size n : ℕ) (make : BlockRange → Command) (block : List ℕ) (found meant : BlockRange) → found ≡ meant
    → AllPassed (form_tests size synchronize_flags block) → meant.address + meant.count ≤ n
    → judged_by block (ranges code size n make found) ≡ Ok (make meant)
range_row code size n make block found meant same form within =
    row_written block (ranges code size n make found) (make meant) form (rw same (range_passed n meant within)) (ap make same)

-- the same of each command that moves blocks
transfer_10_row : (code n limit : ℕ) (make : Transfer → Command) (t : Transfer) → IsWithin n limit t
    → (t.address < 2 ^ 32) × (t.count < 2 ^ 16) →
    let block = ten_bytes code (fua_bit t.fua) t.address t.count in
    judged_by block (transfers code 10 n limit make (transfer_10 block)) ≡ Ok (make t)
transfer_10_row code n limit make t within fits =
    let block = ten_bytes code (fua_bit t.fua) t.address t.count in
    transfer_row code 10 n limit make block (transfer_10 block) t
    (transfer_10_written code t.address t.count t.fua fits.0 fits.1)
    (form_10_written code t.address t.count t.fua) within

transfer_16_row : (code n limit : ℕ) (make : Transfer → Command) (t : Transfer) → IsWithin n limit t
    → (t.address < 2 ^ 64) × (t.count < 2 ^ 32) →
    let block = sixteen_bytes code (fua_bit t.fua) t.address t.count in
    judged_by block (transfers code 16 n limit make (transfer_16 block)) ≡ Ok (make t)
transfer_16_row code n limit make t within fits =
    let block = sixteen_bytes code (fua_bit t.fua) t.address t.count in
    transfer_row code 16 n limit make block (transfer_16 block) t
    (transfer_16_written code t.address t.count t.fua fits.0 fits.1)
    (form_16_written code t.address t.count t.fua) within

range_10_written : (r : BlockRange) → (r.address < 2 ^ 32) × (r.count < 2 ^ 16) → range_10 (ten_bytes 0x35 0x00 r.address r.count) ≡ r
range_10_written r fits =
    let block = ten_bytes 0x35 0x00 r.address r.count in
    rw (
      number_written 2 4 r.address block ((0 ∷ []) ++ big_bytes 2 r.count ++ (0 ∷ [])) refl
          fits.0,
      number_written 7 2 r.count block (0 ∷ []) refl fits.1,
    ) refl

range_16_written : (r : BlockRange) → (r.address < 2 ^ 64) × (r.count < 2 ^ 32) → range_16 (sixteen_bytes 0x91 0x00 r.address r.count) ≡ r
range_16_written r fits =
    let block = sixteen_bytes 0x91 0x00 r.address r.count in
    rw (
      number_written 2 8 r.address block (big_bytes 4 r.count ++ (0 ∷ 0 ∷ [])) refl fits.0,
      number_written 10 4 r.count block (0 ∷ 0 ∷ []) refl fits.1,
    ) refl

-- the page control and the page code share a byte
page_below : (page : ℕ) → is_one_of (0x08 ∷ 0x3f ∷ []) page ≡ true → page < 64
page_below page served = grind (arith, nat_tests)

mode_passed : (control page subpage : ℕ) → HasModePage control page subpage → AllPassed (mode_sense_tests control page subpage)
mode_passed control page subpage has = grind (arith, nat_tests, has)

mode_sense_written : (control page subpage allocation : ℕ) → HasModePage control page subpage
    → judged_by (block_of (ModeSense control page subpage allocation))
    (mode_sense (block_of (ModeSense control page subpage allocation))) ≡ Ok (ModeSense control page subpage allocation)
unfolding block_of form_tests
mode_sense_written control page subpage allocation has =
    let block = block_of (ModeSense control page subpage allocation) in
    let below : page < 2 ^ 6 = page_below page has.served in
    let high : (control * 64 + page) / 64 ≡ control = shr_high control 6 page below in
    let low : (control * 64 + page) % 64 ≡ page = mod_low control 6 page below in
    let fields : AllPassed
    (mode_sense_tests ((control * 64 + page) / 64) ((control * 64 + page) % 64) subpage) =
    rw (high, low) (mode_passed control page subpage has) in
    row_written block (mode_sense block) (ModeSense control page subpage allocation)
    (refl, (refl, (refl, tt))) fields (rw (high, low) refl)

-- a command block as an initiator writes it says its command
pub written : (n limit : ℕ) (command : Command) → IsSupported n limit command → FitsFields command
    → command_of n limit (block_of command) ≡ Ok command
unfolding command_of block_of form_tests
written n limit TestUnitReady supported fits = refl
written n limit (RequestSense allocation) supported fits = refl
written n limit (Inquiry None allocation) supported fits =
    let block = block_of (Inquiry None allocation) in
    row_written block (inquiry block) (Inquiry None allocation) (refl, (refl, (refl, tt)))
    (refl, tt) (ap (Inquiry None) (number_written 3 2 allocation block (0 ∷ []) refl fits))
written n limit (Inquiry (Some page) allocation) supported fits =
    let block = block_of (Inquiry (Some page) allocation) in
    row_written block (inquiry block) (Inquiry (Some page) allocation) (refl, (refl, (refl, tt)))
    (supported, tt)
    (ap (Inquiry (Some page)) (number_written 3 2 allocation block (0 ∷ []) refl fits))
written n limit (ModeSelect length) supported fits =
    let block = block_of (ModeSelect length) in
    row_written block (mode_select block) (ModeSelect length) (refl, (refl, (refl, tt)))
    (supported, tt) refl
written n limit (ModeSense control page subpage allocation) supported fits = mode_sense_written control page subpage allocation supported
written n limit ReadCapacity10 supported fits = refl
written n limit (Read10 transfer) supported fits = transfer_10_row 0x28 n limit Read10 transfer supported fits
written n limit (Write10 transfer) supported fits = transfer_10_row 0x2a n limit Write10 transfer supported fits
written n limit (SynchronizeCache10 range) supported fits =
    let block = ten_bytes 0x35 0x00 range.address range.count in
    range_row 0x35 10 n SynchronizeCache10 block (range_10 block) range
    (range_10_written range fits) (refl, (refl, (refl, tt))) supported
written n limit (Read16 transfer) supported fits = transfer_16_row 0x88 n limit Read16 transfer supported fits
written n limit (Write16 transfer) supported fits = transfer_16_row 0x8a n limit Write16 transfer supported fits
written n limit (SynchronizeCache16 range) supported fits =
    let block = sixteen_bytes 0x91 0x00 range.address range.count in
    range_row 0x91 16 n SynchronizeCache16 block (range_16 block) range
    (range_16_written range fits) (refl, (refl, (refl, tt))) supported
written n limit (ReadCapacity16 allocation) supported fits =
    let block = block_of (ReadCapacity16 allocation) in
    row_written block (read_capacity_16 block) (ReadCapacity16 allocation)
    (refl, (refl, (refl, tt))) tt
    (ap ReadCapacity16 (number_written 10 4 allocation block (0 ∷ 0 ∷ []) refl fits))
