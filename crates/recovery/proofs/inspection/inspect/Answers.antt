-- An inspection is a look whose reads are made.
use Rattle.std.proofs.Common.{arith}
use Rattle.recovery.{specs.{Starting.look_at, HoldsStart.HoldsLook}, proofs.Looks.at_end}
use Rattle.recovery.proofs.inspection.inspect.Goals as goal
use Rattle.recovery.proofs.inspection.inspect.Goals.{After-drive}

held : (g : _) (c : After-drive g) → HoldsLook g.M.Medium.state 0 (look_at c.drive.new.machine.stage c.drive.new.machine.survey)
    c.drive.new.sector c.args.m.now c.drive.new.m
held g c = (c.drive.ensures.driven.runs c.args.m.now (c.begin-inspecting.ensures.held c.args.m.now _ c.sectors.ensures)).1

pub end-requires : goal.end-requires
end-requires g c = at_end _ c.drive.result c.drive.ensures.driven.tallied c.drive.ensures.done
    (grind arith) (held g (goal.at.end-requires g c).After-drive).well

pub returns : goal.returns
returns g c =
    let ends = c.end.ensures c.args.m.now c.drive.new.m _ (held g (goal.at.returns g c).After-drive) in
    record { ok = ends.ok; err = ends.err; looks = ends.looks; follows = c.drive.ensures.follows }
