use Rattle.std.proofs.Common.{inl, inr, refl}
use Rattle.window.specs.{declared.ask.DeviceRead.DeviceRead}
use Rattle.store_calls.proofs.{Doing.wait_safe}
use Rattle.store_calls.proofs.machine.StoreMachine.read.Goals as goal

pub returns-in-Some : goal.returns-in-Some
returns-in-Some c =
    let missing : DeviceRead = record { first = c.in-Some.missing.first; count = c.in-Some.missing.count } in inr (
      c.in_ok-may_move.ensures.ok,
      inl (
        (missing, c.in-Some.ensures.some, c.miss.ensures, wait_safe c.args.self.now _ missing _ c.miss.ensures),
        refl,
      ),
    )
