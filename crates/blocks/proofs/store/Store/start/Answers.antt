use Rattle.std.proofs.lemmas.Result.{IfErr-weaker}
use Rattle.blocks.proofs.store.Store.start.Goals as goal

pub returns-clause-served : goal.returns-clause-served
returns-clause-served g c shape array next stands left =
    IfErr-weaker c.started.result _ _ (λ error refused. refused.served shape array next stands left) c.started.ensures.refused
