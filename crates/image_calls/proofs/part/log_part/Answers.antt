use Rattle.std.proofs.Common.{◌≡◌, ℕ, sym, ap, subst, arith}
use Rattle.journal.specs.{Places.{Shape, first_home}, Formats.shape_of, Record.home_of}
use Rattle.image_calls.specs.Parts.{IsLaying, IsLaidAnew}
use Rattle.image_calls.proofs.OnWay.{cleared, made}
use Rattle.image_calls.specs.declared.plan.Aim.TheVariants as aim
use Rattle.image_calls.proofs.part.log_part.Goals as goal

pub returns-clause-ok : goal.returns-clause-ok
returns-clause-ok g c aim.Format shape first (mid, under, same, laying) =
    let state = g.M.Medium.state in
    let clears = c.clear.ensures.clears in
    let home = ap (λ (s : Shape). first_home s) same in (
      mid,
      under,
      same,
      cleared shape (home_of shape (state mid).content) 1 (first_home shape) c.args.plan.at c.in-Some.to (state mid)
          (state c.args.medium.now) (state c.clear.new.m) laying (g.met.M.Medium.sound c.clear.new.m)
          (omega arith) (omega (arith, c.in-Some.ensures.0)) (omega (arith, c.in-Some.ensures.1, home))
          c.in_ok-clear.ensures.zeros clears.elsewhere clears.moments c.in_ok-clear.ensures.clears.exact
          c.clear.ensures.follows.looks.looked_stays,
    )
returns-clause-ok g c aim.Laying shape first (same, laying) =
    let state = g.M.Medium.state in
    let clears = c.clear.ensures.clears in
    let home = ap (λ (s : Shape). first_home s) same in (
      same,
      cleared shape (home_of shape (state first).content) 1 (first_home shape) c.args.plan.at c.in-Some.to (state first)
          (state c.args.medium.now) (state c.clear.new.m) laying (g.met.M.Medium.sound c.clear.new.m)
          (omega arith) (omega (arith, c.in-Some.ensures.0)) (omega (arith, c.in-Some.ensures.1, home))
          c.in_ok-clear.ensures.zeros clears.elsewhere clears.moments c.in_ok-clear.ensures.clears.exact
          c.clear.ensures.follows.looks.looked_stays,
    )

-- all before home is cleared, and the rest comes behind it
laid : (g : _) (c : goal.In_ok-lay_rest g) (shape : Shape) (first : _) → shape ≡ shape_of c.args.plan.sizes
    → IsLaying shape c.args.plan.at (g.M.Medium.state first) (g.M.Medium.state c.args.medium.now)
    → IsLaidAnew shape (g.M.Medium.state first) (g.M.Medium.state c.lay_rest.new.m)
laid g c shape first same laying =
    let state = g.M.Medium.state in
    let at : c.args.plan.at ≡ first_home shape =
    omega (arith, c.in_default.ensures, c.args.plan.before_home, ap (λ (s : Shape). first_home s) same) in
    let full = subst (λ (n : ℕ). IsLaying shape n (state first) (state c.args.medium.now)) at laying in
    subst (λ (s : Shape). IsLaidAnew s (state first) (state c.lay_rest.new.m)) (sym same)
    (c.in_ok-lay_rest.ensures.ok first
    (subst (λ (s : Shape). IsLaying s (first_home s) (state first) (state c.args.medium.now)) same full))

pub returns-in_default-clause-ok : goal.returns-in_default-clause-ok
returns-in_default-clause-ok g c aim.Format shape first (mid, under, same, laying) =
    made shape (g.M.Medium.state first) (g.M.Medium.state mid) (g.M.Medium.state c.lay_rest.new.m) under
    (laid g c shape mid same laying)
returns-in_default-clause-ok g c aim.Laying shape first (same, laying) = laid g c shape first same laying
