use Rattle.std.proofs.Common.{[], arith, refl}
use Rattle.bot_machine.proofs.LaggingPackets.{nothing_from}
use Rattle.bot_machine.proofs.LaggingParts.{advances}
use Rattle.bot_machine.proofs.pending.advance_taken.Goals as goal

pub returns : goal.returns
returns g c =
    advances c.args.unit.now c.go_on-progress.new.self c.args.exchange.now c.args.taken.now [] [] c.args.bulk.now
    c.settle.new.bulk c.args.wanted c.requires.pends refl c.go_on-progress.result
    (rw (nothing_from c.go_on-progress.new.out (omega arith)) at c.go_on-progress.ensures) c.settle.ensures.line
    c.settle.result c.settle.ensures.want
