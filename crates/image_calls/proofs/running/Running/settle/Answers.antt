use Rattle.std.proofs.{Common.refl}
use Rattle.image_calls.proofs.Stepped.{hands_none, settled}
use Rattle.image_calls.proofs.running.Running.settle.Goals as goal

pub returns-in-At : goal.returns-in-At
returns-in-At g c =
    let laws = g.met.T.Machine in
    let b = g.T.Machine in (
      settled b.fits b.holds b.may b.reads b.ends b.cost b.exact b.due b.after b.gone laws.leaves laws.goes_on
          c.args.self.now.carried.asked _ c.args.self.now c.in-At.is refl,
      hands_none _ _ _ _ _ _ _ _ _ _ laws.leaves laws.goes_on c.args.self.now,
    )

pub returns-in-Refused : goal.returns-in-Refused
returns-in-Refused g c =
    let laws = g.met.T.Machine in
    let b = g.T.Machine in (
      settled b.fits b.holds b.may b.reads b.ends b.cost b.exact b.due b.after b.gone laws.leaves laws.goes_on
          c.args.self.now.carried.asked _ c.args.self.now c.in-Refused.is refl,
      hands_none _ _ _ _ _ _ _ _ _ _ laws.leaves laws.goes_on c.args.self.now,
    )
