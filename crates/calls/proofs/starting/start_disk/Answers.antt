use Rattle.std.proofs.Common.{inr}
use Rattle.calls.proofs.starting.start_disk.Goals as goal

pub returns : goal.returns
returns c =
    let none = c.holds_any.ensures.none c.if-holds_any.false in
    let identity = c.in-Some-read_identity.ensures in
    let recovers = rw (c.holds_any.ensures.stays, none, c.kept_by-kept.ensures, identity.1) at c.recover.ensures in
    rw none (inr (c.in-Some.size, c.in-Some.ensures, inr (identity.0, recovers)))
