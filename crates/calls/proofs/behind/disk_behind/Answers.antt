use Rattle.window.specs.{Window.mirror_of, WindowLaws.comes_after_itself}
use Rattle.window.proofs.InFlight.{parts_follow}
use Rattle.calls.specs.Behind.{device_of}
use Rattle.calls.proofs.BegunBehind.{disk_begins}
use Rattle.calls.proofs.behind.disk_behind.Goals as goal
use Rattle.std.proofs.Common.{refl}

pub returns-in-Ok : goal.returns-in-Ok
returns-in-Ok g c =
    let on = rw c.device_holding-device.ensures at c.in_ok-on.ensures.ok in
    let m = c.in_ok-on.on.medium in
    disk_begins c.args.on.now g.content (device_of c.args.plan.now) m (rw c.room_for-room.ensures at on.1) c.in-Ok.disk
    (rw on.0 at c.in-Ok.ensures) (_, refl) _ (rw c.room_for-room.ensures at c.new.ensures.is) c.new.ensures.serves c.new.ensures.starts
    (parts_follow (mirror_of m) (mirror_of m) (c.waiting-waiting.ensures.device m (comes_after_itself m)))
