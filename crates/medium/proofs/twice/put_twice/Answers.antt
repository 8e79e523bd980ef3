use Rattle.medium.proofs.RememberedMoments.{after_good, at_each_moment, left_between}
use Rattle.medium.proofs.SparedSectors.{HasSpared, spared_joined}
use Rattle.medium.specs.History.{state_of}
use Rattle.medium.proofs.twice.put_twice.Goals as goal

pub returns-clause-spares : goal.returns-clause-spares
returns-clause-spares c =
    spared_joined 1 (state_of c.args.m.now) (state_of c.put.new.m) (state_of c.put-2.new.m) c.in_ok-put.ensures.spares
    c.put-2.ensures.spares

pub returns-clause-first : goal.returns-clause-first
returns-clause-first c =
    after_good c.put-2.result
    (left_between c.args.m.now c.put.new.m c.put-2.new.m 0 c.args.first.now c.in_ok-put.ensures.content c.in_ok-put.ensures.follows
    c.put-2.ensures.follows)

pub returns-clause-each : goal.returns-clause-each
returns-clause-each c =
    at_each_moment (HasSpared 1 (state_of c.args.m.now)) c.args.m.now c.put-2.new.m
    (spared_joined 1 (state_of c.args.m.now) (state_of c.put.new.m) (state_of c.put-2.new.m) c.in_ok-put.ensures.spares
    c.put-2.ensures.spares).moments

pub returns-in_err-put-clause-each : goal.returns-in_err-put-clause-each
returns-in_err-put-clause-each c =
    at_each_moment (HasSpared 1 (state_of c.args.m.now)) c.args.m.now c.put.new.m c.put.ensures.spares.moments
