use Rattle.std.proofs.Common.{ℕ, ◌≡◌, length, take, drop, ◌++◌, ◌∙◌, ap, arith}
use Rattle.std.proofs.Math.Seq.{take-append_seam}
use Rattle.page.proofs.picture.read_all.Goals as goal

pub returns-then-read_first : goal.returns-then-read_first
returns-then-read_first c = λ book fits.
    let size : c.in-Ok.bytes.len ≡ length c.read_first.new.to = omega (arith, c.deref_mut.ensures.len, c.read_first.auto.to) in
    ap (λ (n : ℕ). take n (c.read_first.new.to ++ drop (length c.read_first.new.to) c.in-Ok.bytes.items)) size
    ∙ take-append_seam c.read_first.new.to (drop (length c.read_first.new.to) c.in-Ok.bytes.items)
    ∙ c.read_first.ensures book fits c.if-read_first.true
