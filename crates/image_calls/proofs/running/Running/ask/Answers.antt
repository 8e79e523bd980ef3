use Rattle.std.proofs.{Common.refl}
use Rattle.image_calls.proofs.Stepped.{asked_nothing, hands_same, first_write, gathered_in, hands_flush, hands_read}
use Rattle.image_calls.proofs.running.Running.ask.Goals as goal

pub returns-in-Nothing-clause-hands : goal.returns-in-Nothing-clause-hands
returns-in-Nothing-clause-hands g c = let laws = g.met.T.Machine in
    hands_same _ _ _ _ _ _ _ _ _ _ laws.leaves laws.goes_on c.args.self.now _
    (asked_nothing _ _ _ _ _ _ _ _ _ _ laws.leaves laws.goes_on c.args.self.now.carried.asked c.args.self.now.carried
    c.next.new.self c.args.buffer.now c.next.new.buffer c.in-Nothing.ensures.asks) refl

pub returns-in-Write-clause-asks : goal.returns-in-Write-clause-asks
returns-in-Write-clause-asks g c = let laws = g.met.T.Machine in
    let asks = rw c.requires.rests at c.in-Write.ensures.asks in (
      (c.next.new.self, (refl, asks.0.1, asks.0.2, asks.0.3)),
      gathered_in _ _ _ _ _ _ _ _ _ _ laws.leaves laws.goes_on c.in-Write.first c.gather-count.result c.args.buffer.now
          c.next.new.buffer c.gather-count.new.buffer c.next.new.self.sector c.gather-count.new.self c.next.auto.buffer asks.1
          c.gather-count.ensures.gathers,
    )

pub returns-in-Write-clause-hands : goal.returns-in-Write-clause-hands
returns-in-Write-clause-hands g c first began m n is = let laws = g.met.T.Machine in
    let asks = rw c.requires.rests at c.in-Write.ensures.asks in
    c.gather-count.ensures.hands first began m n
    (first_write _ _ _ _ _ _ _ _ _ _ laws.leaves laws.goes_on c.in-Write.first c.args.buffer.now c.next.new.buffer
    c.args.self.now _ c.in-Write.ensures.carried asks.1 c.let_go.ensures first began m n is)

pub returns-in-Flush-clause-hands : goal.returns-in-Flush-clause-hands
returns-in-Flush-clause-hands g c = let laws = g.met.T.Machine in
    hands_flush _ _ _ _ _ _ _ _ _ _ laws.leaves laws.goes_on c.args.self.now _ c.in-Flush.ensures.carried refl

pub returns-in-Read-clause-hands : goal.returns-in-Read-clause-hands
returns-in-Read-clause-hands g c = let laws = g.met.T.Machine in
    hands_read _ _ _ _ _ _ _ _ _ _ laws.leaves laws.goes_on c.args.self.now c.read_from.new.self c.next.new.self
    c.in-Read.ensures.carried c.read_from.ensures.carried_stays c.read_from.ensures.run_stays
