use Rattle.std.proofs.Common.{ℕ, subst, arith}
use Rattle.device_file.specs.Copied.{waiting_in}
use Rattle.device_file.proofs.Copies.{blocks_unread, blocks_taken, blocks_refused}
use Rattle.device_file.proofs.copying.copy_run.Goals as goal

pub returns-in-Err-clause-takes : goal.returns-in-Err-clause-takes
returns-in-Err-clause-takes g c =
    blocks_unread c.args.part.first c.args.part.at c.args.part.count c.args.to.now (waiting_in c.args.run.now) c.in-Err.fault (omega arith)
    (subst (λ (n : ℕ). g.S.DeviceFile.refuses c.args.from.now c.args.part.first n) (omega arith) c.in-Err.ensures.unread)
    c.in-Err.ensures.named

pub returns-in-Ok-put_sectors-clause-takes : goal.returns-in-Ok-put_sectors-clause-takes
returns-in-Ok-put_sectors-clause-takes g c =
    blocks_taken c.args.part.first c.args.part.count c.read.new.to (omega arith) c.in-Ok.ensures.read c.in-Ok-put_sectors.ensures.takes

pub returns-in-Err-put_sectors-clause-takes : goal.returns-in-Err-put_sectors-clause-takes
returns-in-Err-put_sectors-clause-takes g c =
    blocks_refused c.args.part.first c.args.part.count c.read.new.to (omega arith) c.in-Ok.ensures.read c.in-Err-put_sectors.fault
    c.in-Err-put_sectors.ensures.named c.in-Err-put_sectors.ensures.takes
