use Rattle.std.{proofs.Common.{ap, refl, []}, specs.Prelude.{Ok, Err}}
use Rattle.redo_log.specs.declared.progress.Progress.TheVariants.{More, Durable}
use Rattle.blocks.proofs.TurnsJoined.{passes_step}
use Rattle.blocks.proofs.LogSteps.{is_kept}
use Rattle.blocks.proofs.store.Store.step.Goals as goal

pub returns-in-Ok-More-clause-passes : goal.returns-in-Ok-More-clause-passes
returns-in-Ok-More-clause-passes g c = rw (← c.self.view_is) (passes_step c.self.inside.goes_ahead (Ok More) _ c.step.new.self
    (record { room = 0; numbers = []; bytes = [] }) refl (rw (← c.self.view_is) at c.requires.under_way)
    (rw (← c.self.view_is) at c.requires.live) (is_kept c.self.invariant (rw (← c.self.view_is) at c.requires))
    (rw (c.in-Ok-More.field-0-is, c.numbers-numbers.ensures.value, c.bytes.ensures.value) at c.in-Ok-More.ensures))

pub returns-in-Ok-Durable-clause-passes : goal.returns-in-Ok-Durable-clause-passes
returns-in-Ok-Durable-clause-passes g c = rw (← c.self.view_is) (passes_step c.self.inside.goes_ahead (Ok Durable) _ c.step.new.self
    c.clear.new.self (ap (λ batch. batch.numbers) c.clear.ensures) (rw (← c.self.view_is) at c.requires.under_way)
    (rw (← c.self.view_is) at c.requires.live) (is_kept c.self.invariant (rw (← c.self.view_is) at c.requires))
    (rw (c.in-Ok-Durable.field-0-is, c.numbers-numbers.ensures.value, c.bytes.ensures.value) at c.in-Ok-Durable.ensures))

pub returns-in-Err-clause-passes : goal.returns-in-Err-clause-passes
returns-in-Err-clause-passes g c = rw (← c.self.view_is) (passes_step c.self.inside.goes_ahead (Err c.in-Err.field-0) _ c.step.new.self
    (record { room = 0; numbers = []; bytes = [] }) refl (rw (← c.self.view_is) at c.requires.under_way)
    (rw (← c.self.view_is) at c.requires.live) (is_kept c.self.invariant (rw (← c.self.view_is) at c.requires))
    (rw (c.numbers-numbers.ensures.value, c.bytes.ensures.value) at c.in-Err.ensures))
