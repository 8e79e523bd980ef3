use Rattle.std.proofs.Common.{◌≡◌}
use Rattle.disk_machine.specs.Transfers.{SendsFirst}
use Rattle.disk_machine.proofs.machine.DiskMachine.fill.Given as goal

-- `count` packets of the greatest size came
abbrev pub invariant-loop-count : goal.invariant-loop-count
invariant-loop-count l = record {
  first : SendsFirst l.fn.self.disk.disk.line.packet_size l.count l.fn.self l.fn.room l.self l.room;
  packets_stay : l.self.disk.disk.line.packet_size ≡ l.fn.self.disk.disk.line.packet_size;
}
