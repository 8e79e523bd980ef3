use Rattle.std.proofs.Common.{inr}
use Rattle.usbdisk.proofs.Opened.{opened_ready}
use Rattle.usbdisk.proofs.live.starting.start_on.Goals as goal

pub start_disk-requires : goal.start_disk-requires
start_disk-requires g c = rw c.new.ensures.window_is
    (opened_ready g.D.DeviceFile.holds g.D.DeviceFile.size c.args.options.device.now.bytes c.args.file c.in-Ok.window c.in-Ok.ensures.ok)

pub returns-in-Ok-start_disk-clause-started : goal.returns-in-Ok-start_disk-clause-started
returns-in-Ok-start_disk-clause-started g c = record {
  medium = c.new.result;
  on = record { window = c.in-Ok.window; of = c.in-Ok.ensures.ok; over = c.new.ensures };
  started = rw c.new-in-Ok-start_disk.ensures c.in-Ok-start_disk.ensures.started;
}

pub returns-in-Err-start_disk-clause-refused : goal.returns-in-Err-start_disk-clause-refused
returns-in-Err-start_disk-clause-refused g c = inr (record {
  medium = c.new.result;
  on = record { window = c.in-Ok.window; of = c.in-Ok.ensures.ok; over = c.new.ensures };
  refused = c.in-Err-start_disk.ensures.refused;
})
