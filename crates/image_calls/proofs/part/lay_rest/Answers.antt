use Rattle.std.proofs.Common.{ℕ, ◌∙◌, subst, arith}
use Rattle.image_calls.proofs.OnWay.{laid}
use Rattle.journal.specs.{Formats.shape_of, Sectors.IsHead}
use Rattle.image_calls.proofs.part.lay_rest.Goals as goal

pub returns-clause-ok : goal.returns-clause-ok
returns-clause-ok g c first under =
    let state = g.M.Medium.state in
    let sound = g.met.M.Medium.sound in
    let head = c.write_through.ensures in
    let super = c.write_through-2.ensures in
    let put = c.in_ok-write_through.ensures in
    let end = c.in_ok-write_through-2.ensures in
    let is_head = subst (λ (n : ℕ). IsHead n c.encode.result) c.new.ensures c.encode.ensures in
    laid (shape_of c.args.sizes.now) (state first) (state c.args.m.now) (state c.write_through.new.m) (state c.write_through-2.new.m)
    under _ _ (sound c.args.m.now) (sound c.write_through.new.m) (sound c.write_through-2.new.m) is_head c.encode-2.ensures
    put.done.0 put.done.1 head.writes.moments end.done.0 end.done.1 super.writes.moments
    (omega (arith, put.writes.exact, end.writes.exact)) (super.follows.looks.looked_stays ∙ head.follows.looks.looked_stays)
