use Rattle.std.proofs.Common.{refl}
use Rattle.disk_machine.proofs.machine.DiskMachine.play.Goals as goal

pub returns : goal.returns
returns c = record {
  answer = c.play_packet-code.ensures.0;
  code_is = c.play_packet-code.ensures.2;
  mid = record c.args.self.now { disk = c.play_packet-code.new.disk; lack = c.lack_after-self.result };
  plays = c.play_packet-code.ensures.1;
  others = rw c.lack_after-self.ensures refl;
  goes = c.go_on.ensures;
}
