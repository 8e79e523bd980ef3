-- A device that has carried out all, or was asked for nothing yet.
use Rattle.std.proofs.Common.{◌≡◌, length, arith, ap, sym, subst, List, [], length-append}
use Rattle.std.specs.{Prelude.Option}
use Rattle.window.specs.{OutboxMedium.sent, Parts.PartsFollow, declared.call.DeviceCall.DeviceCall}
use Rattle.window.specs.{Window.{Window, mirror_of, ComesAfter, CoversDevice}, WindowLaws.{is_sound, comes_after_itself}}
use Rattle.image_calls.specs.{Images.WaitFor, Machines.{Machine, begun, under_way, LeavesSince, LeavesAtRest, Begins}}
use Rattle.image_calls.specs.{declared.work.Work.Work, declared.image_asked.ImageAsked.ImageAsked}

-- it was sent no more than it has carried out
pub rests : (s : Machine) → PartsFollow
    → ((new : Window) → ComesAfter s.work.medium new → CoversDevice s.work.medium new) → LeavesAtRest s
rests s parts device free none image left =
    let m = s.work.medium in
    (is_sound m).only_now image
    (parts (mirror_of m) (mirror_of m) (device m (comes_after_itself m)) left.count left.done image (omega (
      arith,
      left.reaches,
      ap (λ (a : ImageAsked). under_way a) free,
      length-append m.seen.told.taken m.outbox,
      ap (λ (l : List DeviceCall). length l) none,
    )) left.are left.cut)

-- nothing was sent before the work
pub begins_since : (first : Window) (work : Work) → PartsFollow → sent (mirror_of first) ≡ [] → WaitFor first work.medium
    → LeavesSince first (begun work)
begins_since first work parts none waits = record {
  later = omega (
    arith,
    ap (λ (l : List (Option DeviceCall)). length l) waits.follows.asked,
    length-append first.seen.told.asked waits.follows.since,
  );
  left = λ image left. parts (mirror_of first) (mirror_of work.medium) waits.covers left.count left.done image
      (omega (arith, ap (λ (l : List DeviceCall). length l) none)) left.are left.cut;
}

-- work that was begun
pub begins : (Is : Work → Type 0) (first : Window) (work : Work) (s : Machine) → s ≡ begun work → Is work → LeavesSince first s
    → LeavesAtRest s → Begins Is first s
begins Is first work s is has since rest = record {
  work = subst (λ (t : Machine). Is t.work) (sym is) has;
  asked = ap (λ (t : Machine). t.asked) is;
  since = since;
  rest = rest;
}
