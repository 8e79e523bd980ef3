use Rattle.std.proofs.Common.{◌≡◌}
use Rattle.disk_machine.specs.Transfers.{TakesFirst}
use Rattle.disk_machine.proofs.machine.DiskMachine.take_transfer.Given as goal

-- `number` packets were taken
abbrev pub invariant-loop-number : goal.invariant-loop-number
invariant-loop-number l = record {
  first : TakesFirst l.fn.self.disk.disk.line.packet_size l.bytes l.number l.fn.self l.self;
  packets_stay : l.self.disk.disk.line.packet_size ≡ l.fn.self.disk.disk.line.packet_size;
}
