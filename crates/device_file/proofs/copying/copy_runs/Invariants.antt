use Rattle.std.proofs.Common.{◌≡◌, ◌≤◌, ◌-◌, [], length, Ok}
use Rattle.device_file.specs.Copied.{TakesBlocks, waiting_in}
use Rattle.device_file.proofs.copying.copy_runs.Given as goal

abbrev pub invariant-runs : goal.invariant-runs
invariant-runs g l = record {
  within : l.done ≤ l.range.count;
  takes : TakesBlocks g.D.DeviceFile.told g.D.DeviceFile.at_once g.D.DeviceFile.size (g.S.DeviceFile.holds l.from)
      (g.S.DeviceFile.refuses l.from) l.range.first l.done l.range.at l.fn.to l.to [] (waiting_in l.run) (Ok tt);
  room : length l.bytes ≡ length l.fn.buffer.bytes.items;
}

abbrev pub decreases-runs : goal.decreases-runs
decreases-runs g l = l.range.count - l.done
