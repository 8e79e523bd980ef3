use Rattle.std.proofs.{Common.{rules, arith, ◌≡◌, List, [], ◌∷◌, ℕ, ◌/◌, ◌%◌, slice_index_or}, lemmas.Grind.common_steps}
use Rattle.std.specs.Prelude.{Ok, Err}
use Rattle.scsi.specs.{Judging.{Test, judged}, Commands.{mode_sense, mode_sense_tests, form_tests}}
use Rattle.scsi_commands.proofs.Judged.{judged_behind}
use Rattle.scsi_commands.proofs.device.mode_sense.Goals as goal

-- the form is that of the command, and its page is refused
pub returns-in_err-check_mode_page : goal.returns-in_err-check_mode_page
returns-in_err-check_mode_page c =
    let block : List ℕ = c.args.block.now in
    let form : List Test = form_tests 6 (0 ∷ 8 ∷ []) block in
    let page : List Test = mode_sense_tests (slice_index_or block 2 0 / 64)
    (slice_index_or block 2 0 % 64) (slice_index_or block 3 0) in
    let passed : judged form (tt {0}) ≡ Ok (tt {0}) = search rules in
    let refused : judged page (tt {0}) ≡ Err c.in_err-check_mode_page.field-0.0 = grind (arith, common_steps) in
    let is : c.from_residual-in_err-check_mode_page.result ≡ Err c.in_err-check_mode_page.field-0.0 =
    search rules in
    judged_behind form page (tt {0}) (tt {0}) (tt {0}) (mode_sense block).command c.in_err-check_mode_page.field-0.0
    c.from_residual-in_err-check_mode_page.result passed refused is
