use Rattle.std.proofs.Common.{◌≡◌, ◌≤◌, ◌+◌, ℕ, List, [], ◌∷◌, ◌++◌, Bool, true, Some, None, Result, refl, inl, rules, arith}
use Rattle.std.proofs.{Common.inr, lemmas.Bool.Decides.nat_tests}
use Rattle.std.specs.Prelude.{IfOk, IfErr, if◌then◌else◌}
use Rattle.scsi.specs.{Sense.Sense, Judging.{Test, judged}, SenseCodes.{invalid_field_in_cdb, logical_block_address_out_of_range}}
use Rattle.scsi.specs.{SenseCodes.{parameter_list_length_error, saving_parameters_not_supported}, declared.command.Command.Command}
use Rattle.scsi.specs.{declared.command.{Command.TheVariants.Inquiry, Transfer.Transfer, BlockRange.BlockRange}, Commands.byte_at}
use Rattle.scsi.specs.Commands.{is_one_of, form_tests, command_of, table, transfer_tests, range_tests, mode_sense_tests}
use Rattle.scsi.specs.Inquiry.{page_codes}
use Rattle.scsi_commands.specs.Supported.{IsWithin, HasModePage, IsSupported, IsRefusal}
use Rattle.scsi_commands.proofs.{Judged.{AllPassed, AllRefuse, AllPassed-last, AllRefuse-append, IfOk-judged, IfErr-judged}, Rows.by_rows}

-- the command of a row is supported where the tests of its fields say so
row_supported : (n limit size : ℕ) (byte_1 block : List ℕ) (fields : List Test) (command : Command)
    → (AllPassed fields → IsSupported n limit command)
    → IfOk (judged (form_tests size byte_1 block ++ fields) command) (IsSupported n limit)
row_supported n limit size byte_1 block fields command by_fields =
    let tests = form_tests size byte_1 block in
    IfOk-judged (IsSupported n limit) (tests ++ fields) command (λ passed. by_fields (AllPassed-last tests fields passed))

within : (n limit : ℕ) (transfer : Transfer) → AllPassed (transfer_tests n limit transfer) → IsWithin n limit transfer
within n limit transfer passed = grind (arith, nat_tests, passed)

on_medium : (n : ℕ) (range : BlockRange) → AllPassed (range_tests n range) → range.address + range.count ≤ n
on_medium n range passed = grind (arith, nat_tests, passed)

served_page : (n limit page allocation : ℕ) (vital : Bool) → is_one_of (if vital then page_codes else 0x00 ∷ []) page ≡ true
    → IsSupported n limit (Inquiry (if vital then Some page else None) allocation)
served_page n limit page allocation vital passed = grind (arith, passed)

mode_page : (control page subpage : ℕ) → AllPassed (mode_sense_tests control page subpage) → HasModePage control page subpage
mode_page control page subpage passed = grind (arith, nat_tests, passed)

-- an accepted command is supported
pub supported : (n limit : ℕ) (block : List ℕ) → IfOk (command_of n limit block) (IsSupported n limit)
unfolding command_of form_tests
supported n limit block =
    by_rows (λ (outcome : Result Command Sense). IfOk outcome (IsSupported n limit)) block (byte_at 0 block) (table n limit block) tt
    (search (rules, row_supported, served_page, mode_page, within, on_medium))

invalid_field : IsRefusal invalid_field_in_cdb
invalid_field = inr (inl refl)

out_of_range : IsRefusal logical_block_address_out_of_range
out_of_range = inr (inr (inl refl))

length_error : IsRefusal parameter_list_length_error
length_error = inr (inr (inr (inl refl)))

saved_pages : IsRefusal saving_parameters_not_supported
saved_pages = inr (inr (inr (inr refl)))

row_refused : (size : ℕ) (byte_1 block : List ℕ) (fields : List Test) (command : Command) → AllRefuse IsRefusal fields
    → IfErr (judged (form_tests size byte_1 block ++ fields) command) IsRefusal
unfolding form_tests
row_refused size byte_1 block fields command by_fields =
    let tests = form_tests size byte_1 block in
    IfErr-judged IsRefusal (tests ++ fields) command
    (AllRefuse-append IsRefusal tests fields (invalid_field, (invalid_field, (invalid_field, tt))) by_fields)

-- a refused command has one of the senses for refusals
pub refused : (n limit : ℕ) (block : List ℕ) → IfErr (command_of n limit block) IsRefusal
unfolding command_of
refused n limit block =
    by_rows (λ (outcome : Result Command Sense). IfErr outcome IsRefusal) block (byte_at 0 block) (table n limit block) (inl refl)
    (search (rules, row_refused, invalid_field, out_of_range, length_error, saved_pages))
