use Rattle.std.proofs.Common.{MatchOption, subst}
use Rattle.spec.specs.CommandWrapper.{SpellsNone}
use Rattle.bot_machine.specs.Serving.{IsBegun}
use Rattle.bot_machine.proofs.Wrappers.{nothing_spelled}
use Rattle.bot_machine.proofs.reading.wrapper_reads.Goals as goal

-- src/reading.rt:27:1
pub returns-in-None-clause-exact : goal.returns-in-None-clause-exact
returns-in-None-clause-exact g c =
    nothing_spelled c.args.unit.now c.args.packet.now
    (subst (λ read. MatchOption read (SpellsNone c.args.packet.now) (IsBegun c.args.unit.now c.args.packet.now))
    c.in-None.is c.read_exchange.ensures)
