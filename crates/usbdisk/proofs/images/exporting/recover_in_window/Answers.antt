use Rattle.std.{proofs.Common.{◌≡◌, ◌≤◌, ◌+◌, ℕ, inr, refl, sym, subst}, specs.Prelude.{Option, Some}}
use Rattle.journal.specs.{Places.Shape, Formats.shape_of, declared.super_sector.Super.Super}
use Rattle.recovery.specs.Calls.{most_start_sends}
use Rattle.window.specs.Window.{state_of}
use Rattle.usbdisk.{specs.{images.Exporting.recovery_room, images.Opened.IsWindowOver}, proofs.Misses.{misses, by_image}}
use Rattle.usbdisk.proofs.images.exporting.recover_in_window.Goals as goal

few : (x y : ℕ) (told : Option Super) (sizes : Super) (shape : Shape) → told ≡ Some sizes → shape ≡ shape_of sizes
    → x ≤ y + most_start_sends shape.format shape.slots → x ≤ y + recovery_room told
few x y told sizes shape is same most = subst (λ (z : Option Super). x ≤ y + recovery_room z) (sym is)
    (subst (λ (s : Shape). x ≤ y + most_start_sends s.format s.slots) same most)

pub returns-in-Ok-clause-ok : goal.returns-in-Ok-clause-ok
returns-in-Ok-clause-ok c = record {
  window = c.in_ok-window.window;
  over = subst (λ (room : ℕ). IsWindowOver c.args.first c.args.device.now.bytes room c.in_ok-window.window)
      c.room_to_recover-room.ensures c.in_ok-window.ensures.ok;
  answer = c.in-Ok.recovered;
  sizes_are = refl;
  recovered = c.in-Ok.ensures.ok;
  follows = c.recover.ensures.follows;
}

pub returns-in-Err-clause-err : goal.returns-in-Err-clause-err
returns-in-Err-clause-err c =
    let over = subst (λ (room : ℕ). IsWindowOver c.args.first c.args.device.now.bytes room c.in_ok-window.window)
    c.room_to_recover-room.ensures c.in_ok-window.ensures.ok in
    inr (record {
      window = c.in_ok-window.window;
      over = over;
      after = c.recover.new.m;
      fault = c.in-Err.fault;
      cause = c.in-Err.ensures.err;
      follows = c.recover.ensures.follows;
      by_image = λ sizes have. by_image (state_of c.in_ok-window.window) (state_of c.recover.new.m) c.in-Err.fault
          (misses c.args.first c.args.device.now.bytes sizes (recovery_room c.args.first.sizes) c.in_ok-window.window
          c.recover.new.m over have c.recover.ensures.follows
          c.recover.ensures.leaves.looks (λ shape same has. few _ _ c.args.first.sizes sizes shape have.sizes_are same
          (c.recover.ensures.leaves.sends.most shape has))) c.in-Err.ensures.err.cause;
      refused_is = refl;
    })
