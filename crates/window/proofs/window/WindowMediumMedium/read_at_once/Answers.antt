use Rattle.std.proofs.Common.{◌-◌, ◌/◌, length, arith, rules}
use Rattle.window.specs.{OutboxMedium.device_of, Seen.read_from}
use Rattle.window.proofs.{OneCall.seen_on, RangeRead.{held_is, alone, range_read, range_follows}}
use Rattle.window.proofs.window.WindowMediumMedium.read_at_once.Goals as goal

pub invariant_of-self : goal.invariant_of-self
invariant_of-self c =
    let same = alone c.self.inside.story.seen c.args.sector (length c.args.to.now / 512) in
    let is = c.of-self-inside.ensures in
    search (rules, is, same)

pub returns-clause-reads : goal.returns-clause-reads
returns-clause-reads c =
    let count = length c.args.to.now / 512 in
    let pane = c.self.inside.pane in
    let shown = c.if-not-has_from.ensures in
    let e = seen_on (λ t. read_from t c.args.sector count) _ c.args.self.now _ c.of-self-inside.ensures c.self.view_is in
    let held = held_is (device_of c.self.inside.story.seen.told).content pane.sectors.bytes.items pane.from pane.held
    (c.args.sector - pane.from) c.args.sector count c.self.invariant.pane (omega arith) (omega arith) in
    let read = range_read c.args.self.now c.args.sector count in
    let follows = range_follows c.args.self.now c.args.sector count in
    search (rules, e, held, read, follows)
