use Rattle.std.proofs.{Common.refl}
use Rattle.image_calls.specs.{Formats.BeginsMaking, Plans.{shape_by, medium_by}}
use Rattle.image_calls.proofs.{AtRest.begins}
use Rattle.image_calls.proofs.machine.ImageMachine.make.Goals as goal

pub returns : goal.returns
returns c =
    let first = medium_by c.args.near.items c.args.device.now.bytes c.args.plan.now in
    let over = c.over.ensures in
    begins (BeginsMaking c.args.aim (shape_by c.args.plan.now) first) first c.in_ok-work.work c.over.result over.is c.in_ok-work.ensures
    (over.since first refl c.in_ok-work.ensures.waits) over.rest
