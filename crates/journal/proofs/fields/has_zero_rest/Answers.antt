use Rattle.std.proofs.Common.{rules, refl, ◌≡◌, ◌-◌, ◌∙◌, sym, length, take, drop, arith, length-drop, replicate, take_all}
use Rattle.journal.proofs.fields.has_zero_rest.Goals as goal

pub returns-then-eq : goal.returns-then-eq
returns-then-eq c =
    let xs = c.args.sector.now in
    let eq : take (length xs - 48) (drop 48 xs) ≡ replicate 464 0 = search rules in
    (λ _. sym (take_all (length xs - 48) (drop 48 xs) (omega (arith, length-drop 48 xs))) ∙ eq, λ _. refl)
