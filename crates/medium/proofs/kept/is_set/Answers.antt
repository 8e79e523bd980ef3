use Rattle.std.proofs.Common.{◌==◌, ℕ, ◌<◌, ◌≤◌, sym, ◌∙◌, ap, arith}
use Rattle.std.proofs.lemmas.Nat.Bits.{shr_and_one}
use Rattle.std.proofs.lemmas.Bool.Decides.{nat_tests}
use Rattle.medium.proofs.Masks.{kept_below, lost_behind}
use Rattle.medium.proofs.kept.is_set.Goals as goal

pub returns-then-number-lt64 : goal.returns-then-number-lt64
returns-then-number-lt64 c =
    let below : c.args.number < 64 = grind (arith, nat_tests, c.if-number-lt64.true) in
    ap (λ (n : ℕ). n == 1) (shr_and_one c.args.mask c.args.number) ∙ sym (kept_below c.args.mask c.args.number below)

pub returns-else-number-lt64 : goal.returns-else-number-lt64
returns-else-number-lt64 c =
    let behind : 64 ≤ c.args.number = grind (arith, nat_tests, c.if-number-lt64.false) in
    grind (nat_tests, arith, behind, sym (lost_behind c.args.mask c.args.number behind))
