use Rattle.std.proofs.Common.{ℕ, List, ◌∙◌, ap}
use Rattle.device_file.specs.Asked.{writes_of}
use Rattle.device_file.proofs.Runs.{writes_of-more}
use Rattle.device_file.proofs.run.Run.take.Goals as goal

pub returns-clause-taken : goal.returns-clause-taken
returns-clause-taken c =
    ap (λ (blocks : List (List ℕ)). writes_of c.in-Some.first blocks) c.push_reserved.ensures.items
    ∙ writes_of-more c.args.self.now.first c.in-Some.first c.args.self.now.blocks.items c.args.write.now
    c.in-Some.ensures.some
