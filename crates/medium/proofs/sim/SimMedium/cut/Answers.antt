use Rattle.std.proofs.Common.{◌∙◌, ap}
use Rattle.medium.specs.Sim.{Sim}
use Rattle.medium.specs.Writes.{sector_of, applied, kept_writes, keeps}
use Rattle.medium.proofs.Flushed.{cut_allowed}
use Rattle.medium.proofs.sim.SimMedium.cut.Goals as goal

pub returns-clause-allowed : goal.returns-clause-allowed
returns-clause-allowed c =
    let keep = keeps c.args.kept.now in
    cut_allowed keep c.args.self.now c.settle.new.bytes.items c.settle.new.writes.items
    (λ s. c.settle.ensures.sectors s ∙ ap (λ (m : Sim). applied (kept_writes keep 0 m.unflushed) (sector_of m.flushed) s) c.self.view_is)
    c.settle.ensures.none
