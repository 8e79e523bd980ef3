use Rattle.std.proofs.Common.{◌+◌, arith, OnOk}
use Rattle.journal.specs.{Places.first_home, Formats.shape_of}
use Rattle.recovery.{specs.Calls.{IsLaid, LayingLeaves}, proofs.JoinedCalls.image_made}
use Rattle.recovery.proofs.laying.lay_log.Goals as goal
use Rattle.recovery.proofs.laying.lay_log.Goals.{After-write_image}

-- an image is made around what home held
made : (g : _) (c : After-write_image g) → let shape = shape_of c.args.sizes.now in
    OnOk c.write_image.result (IsLaid shape (g.M.Medium.state c.args.m.now) (g.M.Medium.state c.write_image.new.m))
    × LayingLeaves shape (g.M.Medium.state c.args.m.now) (g.M.Medium.state c.write_image.new.m)
made g c =
    let shape = shape_of c.args.sizes.now in
    image_made _ c.write_image.ensures.image (omega (arith, c.sectors.ensures, c.sectors-2.ensures, c.if-sectors.false)) (omega arith)
    (λ image is b below. is.behind (first_home shape + b) (omega arith))

pub returns-clause-ok : goal.returns-clause-ok
returns-clause-ok g c = rw c.in_ok-write_image.was at (made g (goal.at.returns-clause-ok g c).After-write_image).0

pub returns-clause-leaves : goal.returns-clause-leaves
returns-clause-leaves g c = (made g (goal.at.returns-clause-leaves g c).After-write_image).1

pub returns-in_err-write_image-clause-leaves : goal.returns-in_err-write_image-clause-leaves
returns-in_err-write_image-clause-leaves g c = (made g (goal.at.returns-in_err-write_image-clause-leaves g c).After-write_image).1
