use Rattle.std.proofs.{Common.{◌≡◌, ◌<◌, arith, length, true}, lemmas.Bool.Decides.nat_tests}
use Rattle.blocks.proofs.{EmptyBatches.go_falls, TurnsJoined.kept_then}
use Rattle.blocks.proofs.store.Store.make_way.Goals as goal

pub returns-then-may_go : goal.returns-then-may_go
returns-then-may_go g c =
    let on : c.args.self.now.goes_ahead ≡ true = rw (← c.self.view_is) c.if-not-self.false in
    let is = c.count_flush.ensures.is in
    let may = rw is at (c.may_go.ensures.0 c.if-may_go.true) in
    let goes = rw is at c.step_ahead.ensures.goes in
    let passes = kept_then c.count_flush.ensures.keeps c.step_ahead.ensures.passes in
    grind (arith, on, may, goes, passes, go_falls _ _ _ _ goes may, (rw is at c.count_flush.ensures).fewer)

pub returns : goal.returns
returns g c =
    let on : c.args.self.now.goes_ahead ≡ true = rw (← c.self.view_is) c.if-not-self.false in
    let counts = c.count_flush.ensures in
    let waits : 0 < length c.count_flush.new.self.cached.log.waiting = rw counts.is (grind (arith, nat_tests, c.requires.waits)) in
    let passes = kept_then counts.keeps c.retire-2.ensures.passes in
    let no = rw counts.is at c.may_go.ensures.1 in
    let retires = rw counts.is at c.retire-2.ensures in
    grind (arith, on, c.if-may_go.false, no, retires.retiring, c.retire-2.ensures.falls waits, passes, counts.fewer)
