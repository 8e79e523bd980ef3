-- A recovery is a start whose calls are made.
use Rattle.std.proofs.Common.{arith}
use Rattle.recovery.{specs.HoldsStart.HoldsStart, proofs.Looks.{stage_of, at_end}}
use Rattle.recovery.proofs.recovery.recover_at_least.Goals as goal
use Rattle.recovery.proofs.recovery.recover_at_least.Goals.{After-drive}

-- it began before the first call
held : (g : _) (c : After-drive g) → HoldsStart g.M.Medium.state c.args.least (stage_of c.drive.new.machine) c.drive.new.sector c.args.m.now
    c.drive.new.m
held g c = ((c.drive.ensures.driven.runs (record { start = c.args.m.now; least = c.args.least })
    (c.begin_at_least-starting.ensures.of.1, c.begin_at_least-starting.ensures.held c.args.m.now _)).1).1

pub end-requires : goal.end-requires
end-requires g c = at_end _ c.drive.result c.drive.ensures.driven.tallied c.drive.ensures.done (grind arith)
    (held g (goal.at.end-requires g c).After-drive).well

pub returns : goal.returns
returns g c =
    let so_far = held g (goal.at.returns g c).After-drive in
    record { ends = c.end.ensures.ends _ _ _ _ so_far; looks = so_far.looks; follows = c.drive.ensures.follows }
