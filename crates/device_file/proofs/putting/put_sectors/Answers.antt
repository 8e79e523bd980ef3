use Rattle.std.proofs.Common.{◌/◌, length, arith}
use Rattle.device_file.specs.Copied.{waiting_in}
use Rattle.device_file.proofs.Joined.{err_is, sector_takes, sector_refused, takes_none}
use Rattle.device_file.proofs.putting.put_sectors.Goals as goal

pub returns-in_err-put_some : goal.returns-in_err-put_some
returns-in_err-put_some g c = rw (err_is c.from_residual.result c.from_residual.ensures.1) (record {
  takes = sector_refused c.args.first c.sectors.i (length c.args.bytes.now / 512) c.args.bytes.now c.block_at.result (omega arith)
      c.block_at.ensures c.sectors.invariant c.in_err-put_some.ensures.takes;
  named = c.in_err-put_some.ensures.named;
})

pub sectors-preserved : goal.sectors-preserved
sectors-preserved g c =
    sector_takes c.args.first c.sectors.i c.args.bytes.now c.block_at.result c.block_at.ensures c.sectors.invariant
    c.in_ok-put_some.ensures.takes

pub sectors-init : goal.sectors-init
sectors-init g c = takes_none c.args.file.now (waiting_in c.args.run.now)
