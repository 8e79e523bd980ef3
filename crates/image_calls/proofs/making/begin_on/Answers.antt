use Rattle.std.proofs.Common.{refl, subst, arith, Some}
use Rattle.journal.specs.{Places.Shape, Formats.shape_of}
use Rattle.image_calls.specs.{Plans.medium_by, Formats.BeginsMaking, declared.work.Work.Work}
use Rattle.image_calls.proofs.{Laid.begins, LayFaults.never_fails}
use Rattle.image_calls.proofs.making.begin_on.Goals as goal

pub returns-in-Ok : goal.returns-in-Ok
returns-in-Ok c =
    let first = medium_by c.args.near.items c.args.device.now.bytes c.args.plan.now in
    let same = (rw c.in_ok-sizes.ensures.ok_part at c.sizes.ensures).0 in
    let new = c.begin.new.m in
    let follows = c.begin.ensures.goes.follows in
    let work : Work = record { medium = new; left = Some c.in-Ok.left } in
    subst (λ (s : Shape). BeginsMaking c.args.aim s first work) same
    (begins c.args.aim (shape_of c.in_ok-sizes.sizes) first c.in_ok-medium.medium new c.in-Ok.left work c.in_ok-medium.ensures.ok refl
    refl c.in-Ok.ensures.ok follows (c.waiting-waiting.ensures.device new follows))

pub returns-in-Err : goal.returns-in-Err
returns-in-Err c =
    let told = rw c.in_ok-sizes.ensures.ok_part at c.sizes.ensures in
    let goes = c.begin.ensures.goes in
    λ sizes. never_fails c.args.near.items c.args.device.now.bytes c.args.plan.now (shape_of c.in_ok-sizes.sizes)
    c.in_ok-medium.medium c.begin.new.m _ 2 c.in_ok-medium.ensures.ok told.0 sizes goes.follows goes.sends (omega arith)
    c.in-Err.ensures.err
