use Rattle.std.proofs.{Common.refl}
use Rattle.image_calls.proofs.Stepped.{run_on, none_read}
use Rattle.image_calls.proofs.running.Running.end_call.Goals as goal

pub returns-in-Read-2-clause-goes_on : goal.returns-in-Read-2-clause-goes_on
returns-in-Read-2-clause-goes_on g c =
    let laws = g.met.T.Machine in
    let b = g.T.Machine in
    rw c.if-ok.false (run_on _ _ _ _ _ _ _ _ _ _ laws.leaves laws.goes_on c.args.self.now _ _ c.args.bytes.now _
    (none_read b.fits b.holds b.may b.reads b.ends b.cost b.exact b.due b.after b.gone laws.leaves laws.goes_on
    c.args.self.now.carried.asked c.args.bytes.now) refl c.done.ensures.carried)
