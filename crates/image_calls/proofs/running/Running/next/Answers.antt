use Rattle.image_calls.proofs.Stepped.{asks_next, asks_nothing, hands_none}
use Rattle.image_calls.proofs.running.Running.next.Goals as goal

pub returns-in_default : goal.returns-in_default
returns-in_default g c = let laws = g.met.T.Machine in record {
  asks = asks_nothing _ _ _ _ _ _ _ _ _ _ laws.leaves laws.goes_on c.args.until c.args.self.now.carried.asked c.args.self.now
      c.args.buffer.now c.in_default.not-Nothing;
  hands = hands_none _ _ _ _ _ _ _ _ _ _ laws.leaves laws.goes_on c.args.self.now;
}

pub returns-clause-asks : goal.returns-clause-asks
returns-clause-asks g c =
    let laws = g.met.T.Machine in
    let b = g.T.Machine in
    asks_next b.fits b.holds b.may b.reads b.ends b.cost b.exact b.due b.after b.gone laws.leaves laws.goes_on c.args.until
    c.args.self.now.carried.asked c.args.self.now c.ask.new.self c.args.buffer.now c.ask.new.buffer c.ask.result c.in-Nothing.is
    c.ask.ensures.asks
