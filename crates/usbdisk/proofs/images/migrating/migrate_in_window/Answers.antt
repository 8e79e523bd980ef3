use Rattle.std.{proofs.Common.{◌≡◌, ◌≤◌, ◌+◌, ℕ, inl, inr, refl, sym, subst}, specs.Prelude.{Option, Some}}
use Rattle.journal.specs.{Places.Shape, Formats.shape_of, declared.super_sector.Super.Super}
use Rattle.recovery.specs.Recovered.{most_migration_sends}
use Rattle.window.specs.Window.{state_of}
use Rattle.usbdisk.{specs.{images.Migrating.migration_room, images.Opened.IsWindowOver}, proofs.Misses.{misses, migration_by_image}}
use Rattle.device_file.proofs.Fresh.{covers_fresh}
use Rattle.usbdisk.proofs.images.migrating.migrate_in_window.Goals as goal

few : (x y : ℕ) (told : Option Super) (sizes : Super) (shape : Shape) → told ≡ Some sizes → shape ≡ shape_of sizes
    → x ≤ y + most_migration_sends shape.format shape.slots → x ≤ y + migration_room told
few x y told sizes shape is same most = subst (λ (z : Option Super). x ≤ y + migration_room z) (sym is)
    (subst (λ (s : Shape). x ≤ y + most_migration_sends s.format s.slots) same most)

pub returns-in-Err-clause-err : goal.returns-in-Err-clause-err
returns-in-Err-clause-err c = λ told.
    let over = subst (λ (room : ℕ). IsWindowOver c.args.first c.args.device.now.bytes room c.in_ok-window.window)
    c.room_to_migrate-room.ensures c.in_ok-window.ensures.ok in
    inr (inl (record {
      window = c.in_ok-window.window;
      over = over;
      after = c.migrate.new.m;
      fault = c.in-Err.fault;
      cause = c.in-Err.ensures.err;
      follows = c.migrate.ensures.follows;
      by_image = λ sizes have. migration_by_image (state_of c.in_ok-window.window) (state_of c.migrate.new.m)
          c.in-Err.fault (misses c.args.first c.args.device.now.bytes sizes (migration_room c.args.first.sizes)
          c.in_ok-window.window c.migrate.new.m over have
          c.migrate.ensures.follows
          c.migrate.ensures.leaves.looks (λ shape same has. few _ _ c.args.first.sizes sizes shape have.sizes_are same
          (c.migrate.ensures.leaves.sends.most shape has))) c.in-Err.ensures.err.cause;
      refused_is = refl;
      unasked = refl;
    }))

pub returns-in-Ok-clause-ok : goal.returns-in-Ok-clause-ok
returns-in-Ok-clause-ok c = record {
  window = c.in_ok-window.window;
  over = subst (λ (room : ℕ). IsWindowOver c.args.first c.args.device.now.bytes room c.in_ok-window.window)
      c.room_to_migrate-room.ensures c.in_ok-window.ensures.ok;
  answer = c.in-Ok.field-0-0;
  migrated = c.in-Ok.ensures.ok;
  leaves = c.migrate.ensures.leaves;
  follows = c.migrate.ensures.follows;
  covers = covers_fresh c.args.first.sectors c.args.first.bytes.items c.args.device.now.bytes 0 _ c.in_ok-window.window
      c.migrate.new.m c.in_ok-window.ensures.ok c.migrate.ensures.follows;
}
