use Rattle.std.proofs.Common.{arith}
use Rattle.device_file.proofs.InRuns.{count_of}
use Rattle.device_file.proofs.Joined.{on_err, took_none}
use Rattle.device_file.proofs.putting.put_rest.Goals as goal

pub returns-clause-some : goal.returns-clause-some
returns-clause-some g c =
    let run = c.args.run.now in
    let some = took_none run.blocks.items c.is_empty.result c.if-is_empty.false c.is_empty.ensures.1 in
    on_err c.write.result (omega (arith, some, count_of run.first run.blocks.items))
