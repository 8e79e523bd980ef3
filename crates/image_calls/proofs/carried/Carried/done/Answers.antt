use Rattle.std.proofs.Common.{◌∙◌, ap}
use Rattle.image_calls.proofs.{Carrying.read_heard}
use Rattle.image_calls.specs.declared.asked.Asked.TheVariants as asked
use Rattle.image_calls.proofs.carried.Carried.done.Goals as goal

pub returns-in-Read-clause-carried : goal.returns-in-Read-clause-carried
returns-in-Read-clause-carried g c = read_heard _ _ _ _ _ _ _ _ _ _ g.met.T.Machine.leaves g.met.T.Machine.goes_on c.args.self.now
    c.take.new.self c.args.ok c.args.bytes.now c.take.result c.in-Read.field-0 (c.in-At.is ∙ ap asked.At c.in-Read.is) c.take.ensures.hears
