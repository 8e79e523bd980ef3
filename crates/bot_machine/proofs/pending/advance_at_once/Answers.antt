use Rattle.std.proofs.Common.{[], arith}
use Rattle.bot_machine.proofs.LaggingParts.{advances}
use Rattle.bot_machine.proofs.pending.advance_at_once.Goals as goal

pub returns : goal.returns
returns g c =
    advances c.args.unit.now c.go_on-progress.new.self c.args.exchange.now [] c.args.out.now c.go_on-progress.new.out c.args.bulk.now
    c.settle.new.bulk c.args.wanted c.requires.pends (omega arith) c.go_on-progress.result c.go_on-progress.ensures c.settle.ensures.line
    c.settle.result c.settle.ensures.want
