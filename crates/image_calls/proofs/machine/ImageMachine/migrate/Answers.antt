use Rattle.std.proofs.Common.{◌≤◌, inr, refl, subst, ap, length, arith, rules}
use Rattle.window.specs.Window.{Window, fresh}
use Rattle.image_calls.specs.Images.{IsMigratedOn, IsMigratedNot, IsFinished}
use Rattle.image_calls.proofs.{AtRest.begins, Migrations.{never, no_medium}}
use Rattle.image_calls.proofs.machine.ImageMachine.migrate.Goals as goal

pub returns-in_err-medium : goal.returns-in_err-medium
returns-in_err-medium c =
    let first = fresh c.args.sectors c.args.near.items c.args.device.now.bytes 0 c.room_to_migrate-room.result in
    let why = no_medium c.args.near.items c.args.sectors first _ c.in_err-medium.ensures.err in (
      c.room_to_migrate-room.result,
      rw c.deref.ensures.value at c.room_to_migrate-room.ensures,
      search (rules, why),
    )

pub returns-in-Ok : goal.returns-in-Ok
returns-in-Ok c =
    let first = fresh c.args.sectors c.args.near.items c.args.device.now.bytes 0 c.room_to_migrate-room.result in
    let over = c.over.ensures in
    let made = subst (λ (m : Window). IsFinished (IsMigratedOn m) c.in-Ok.work) c.in_ok-medium.ensures.ok c.in-Ok.ensures.ok in
    let since = over.since first refl made.0.waits in (
      c.room_to_migrate-room.result,
      rw c.deref.ensures.value at c.room_to_migrate-room.ensures,
      begins (IsFinished (IsMigratedOn first)) first c.in-Ok.work c.over.result over.is made since over.rest,
    )

pub returns-in-Err : goal.returns-in-Err
returns-in-Err c =
    let on = c.in_ok-medium.ensures.ok in
    let room = rw c.deref.ensures.value at c.room_to_migrate-room.ensures in
    let is = c.in-Err.ensures.err (ap (λ (m : Window). length m.outbox) on) in
    let not = subst (λ (m : Window). IsMigratedNot m is.0 c.in-Err.fault) on is.1 in
    let some : 512 ≤ length c.args.near.items = omega (arith, c.in_ok-medium.ensures.some) in (
      c.room_to_migrate-room.result,
      room,
      inr (never c.args.near.items c.args.sectors c.args.device.now.bytes c.room_to_migrate-room.result some
          (room some) is.0 c.in-Err.fault not),
    )
