use Rattle.window.specs.{Window.mirror_of, WindowLaws.comes_after_itself}
use Rattle.store_calls.proofs.{MachineBegun.begins}
use Rattle.store_calls.proofs.machine_behind.begin_behind.Goals as goal

pub returns-in-Ok : goal.returns-in-Ok
returns-in-Ok c =
    let on = c.in_ok-on.ensures.ok in
    let m = c.in_ok-on.on.medium in
    begins c.args.on.now c.args.device.now.bytes c.args.kept m c.in-Ok.store _ (rw c.outbox_room.ensures at on.1)
    (rw on.0 at c.in-Ok.ensures) c.new.ensures
    (c.device_laws.ensures (mirror_of m) (mirror_of m) (c.waiting-waiting.ensures.device m (comes_after_itself m)))
