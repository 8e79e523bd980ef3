use Rattle.std.proofs.Common.{arith, sym}
use Rattle.window.specs.Window.{mirror_of}
use Rattle.disk_machine.proofs.play.foresee.Goals as goal

pub returns : goal.returns
returns c =
    let says = c.waiting-waiting.ensures in
    let same = c.medium.ensures.is in
    rw (sym same) (record {
      held = omega (arith, says.is, says.most);
      covers = says.device;
      parts = λ new follows. c.device_laws.ensures (mirror_of c.medium.result.now) (mirror_of new) (says.device new follows);
      served = says.served;
    })
