use Rattle.std.proofs.Common.{◌≡◌, ◌+◌, refl, arith}
use Rattle.image_calls.proofs.carried.Carried.put.Goals as goal

pub returns : goal.returns
returns g c =
    let at : c.in-Some-Write.place ≡ c.args.first + c.args.count =
    omega (arith, c.if-place-first.false, c.if-place-first-2.false) in (
      rw at at (rw c.in-Some-Write.field-0-is at c.in-Some-Write.ensures),
      c.made.ensures,
      c.is_sector.ensures,
      refl,
      rw at at c.let_go.ensures,
    )
