use Rattle.std.proofs.Common.{◌+◌, ◌∙◌, arith, rules, ap, replicate, OnOk}
use Rattle.journal.specs.Places.{new_shape, sectors_of, first_home}
use Rattle.recovery.{specs.Calls.{IsMade, FormatLeaves, WritesImage}, proofs.JoinedCalls.image_made}
use Rattle.recovery.proofs.formatting.make.Goals.{After-write_image}
use Rattle.recovery.proofs.formatting.make.Goals as goal

-- an image of the sizes that were wanted is made, with blocks of zeros
made : (g : _) (c : After-write_image g) → let shape = new_shape c.args.format c.args.blocks c.args.slots in
    WritesImage shape (sectors_of shape) (g.M.Medium.state c.args.m.now) (g.M.Medium.state c.write_image.new.m) c.write_image.result
    × OnOk c.write_image.result (IsMade shape (λ b. replicate 512 0) (sectors_of shape) (g.M.Medium.state c.args.m.now)
    (g.M.Medium.state c.write_image.new.m))
    × FormatLeaves shape (g.M.Medium.state c.args.m.now) (g.M.Medium.state c.write_image.new.m)
made g c =
    let shape = new_shape c.args.format c.args.blocks c.args.slots in
    let sized = rw c.in_ok-sizes.ensures.ok_part at c.sizes_of.ensures in
    let wrote = rw (sized.0, c.sectors-2.ensures ∙ ap sectors_of sized.0) at c.write_image.ensures.image in
    let all = image_made (λ b. replicate 512 0) wrote (rw c.sectors.ensures at sized.1.fits) (omega arith)
    (λ image is b below. is.zeros (first_home shape + b) (omega arith) (omega (arith, below))) in
    (wrote, all.0, all.1)

pub returns-in_err-write_image : goal.returns-in_err-write_image
returns-in_err-write_image g c =
    let sized = rw c.in_ok-sizes.ensures.ok_part at c.sizes_of.ensures in
    search (rules, sized.1, made g (goal.at.returns-in_err-write_image g c).After-write_image)

pub returns : goal.returns
returns g c =
    let all = made g (goal.at.returns g c).After-write_image in
    let is = rw c.in_ok-write_image.was at all.1 in
    search (rules, all, is, is.zeros, rw c.in_ok-write_image.was at all.0.writes.exact)
