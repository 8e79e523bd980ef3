-- What the device was asked for has ended.
use Rattle.std.proofs.Common.{◌≡◌, ◌⊎◌, ◌≤◌, ◌/◌, inl, inr, List, ℕ, Bool, true, false, length, refl, ap, arith}
use Rattle.std.specs.{Prelude.Result}
use Rattle.window.specs.{declared.call.DeviceCall.DeviceCall, Window.{Window, AreOnDevice, moved}, declared.ask.DeviceRead.DeviceRead}
use Rattle.window.specs.{declared.done_fault.DoneFault.DoneFault, declared.asked.Asked.Asked}
use Rattle.blocks.specs.StoreValue.{Cached, layout_of}
use Rattle.store_calls.specs.Asking.{carried_out, read_ended, EndsRefused, IsShownBy, EndsAs, EndsRead, EndsCalls, IsHonest}
use Rattle.store_calls.specs.{Calls.Sees, Serving.StaysSafe}
use Rattle.store_calls.specs.{StoreMachine.{Machine, under_way, carried}, Stores.Store}
use Rattle.store_calls.proofs.Handing.{some_go, taken_by}
use Rattle.store_calls.proofs.Standing.{IsSentStill, Stands, same_sent, stays_safe, store_stays, nothing_changes}
use Rattle.window.specs.declared.asked.Asked.TheVariants as asked

-- ---- calls are carried out

counted_safe : (old : Machine) (count : ℕ) → old.asked ≡ asked.Calls count → StaysSafe old (carried_out old)
counted_safe old count was = stays_safe old (carried_out old) (store_stays old (carried_out old) refl (omega arith))

-- ---- calls are refused

given_up_stands : (old new : Machine) (count : ℕ) → old.asked ≡ asked.Calls count → EndsRefused old count new → Stands old new
given_up_stands old new count was given_up =
    let gone = given_up.refused.emptied.medium in record {
      sent = rw gone (some_go (length old.store.medium.outbox) old.store.medium);
      reaches = omega (
        arith,
        ap (λ (a : Asked). under_way a) was,
        ap (λ (s : Machine). under_way s.asked) given_up.others,
        taken_by (length old.store.medium.outbox) old.store.medium (omega arith),
        ap (λ (w : Window). length w.seen.told.taken) gone,
      );
      fits = given_up.refused.fits;
      layout = ap (λ (s : Store). layout_of s.cached) given_up.refused.others;
      keeps = ap (λ (s : Store). s.cached.log.keeps) given_up.refused.others;
    }

-- ---- a read has ended

-- a device that reads is as far behind as one that is at no call
as_far : (old new : Machine) (home : DeviceRead) → old.asked ≡ asked.Read home → new.asked ≡ asked.Nothing
    → new.store.medium.seen.told.taken ≡ old.store.medium.seen.told.taken → carried old ≤ carried new
as_far old new home was now taken = omega (
  arith,
  ap (λ (a : Asked). under_way a) was,
  ap (λ (a : Asked). under_way a) now,
  ap (λ (l : List DeviceCall). length l) taken,
)

unread_safe : (old new : Machine) (home : DeviceRead) → old.asked ≡ asked.Read home → new ≡ read_ended old home false → StaysSafe old new
unread_safe old new home was is =
    let now : new.asked ≡ asked.Nothing = ap (λ (s : Machine). s.asked) is in
    stays_safe old new (store_stays old new (rw is) (as_far old new home was now (rw is)))

-- the window has moved, or stayed
shown_medium : (old new : Store) (first : ℕ) (bytes : List ℕ) (taken : Bool) → Sees first bytes taken old new
    → AreOnDevice first bytes old.medium
    → (new.medium ≡ old.medium) ⊎ (new.medium ≡ moved old.medium first (length bytes / 512))
shown_medium old new first bytes false sees held = inl (sees.shown.refused refl)
shown_medium old new first bytes true sees held = inr (sees.shown.honest refl held)

abbrev IsSentAlike : Window → Window → Type 0
IsSentAlike old new = IsSentStill old new × (new.seen.told.taken ≡ old.seen.told.taken)

alike : (old new : Window) (first count : ℕ) → (new ≡ old) ⊎ (new ≡ moved old first count) → IsSentAlike old new
alike old new first count (inl same) = rw same (same_sent old, refl)
alike old new first count (inr moves) = rw moves (
  record { opening = refl; sent = refl; size = refl; left = λ t image left. left; room = refl; near = refl },
  refl,
)

shown_safe : (old new : Machine) (home : DeviceRead) (bytes : List ℕ) → old.asked ≡ asked.Read home → IsShownBy old home bytes new
    → AreOnDevice home.first bytes old.store.medium → StaysSafe old new
shown_safe old new home bytes was shown held =
    let now : new.asked ≡ asked.Nothing = ap (λ (s : Machine). s.asked) shown.others in
    let sent = alike old.store.medium new.store.medium home.first (length bytes / 512)
    (shown_medium old.store new.store home.first bytes shown.taken shown.sees held) in
    stays_safe old new (record {
      sent = sent.0;
      reaches = as_far old new home was now sent.1;
      fits = (shown.sees.untouched held).turn.fits;
      layout = ap (λ (s : Cached). layout_of s) shown.sees.cached;
      keeps = ap (λ (s : Cached). s.log.keeps) shown.sees.cached;
    })

-- ---- what the device was asked for last

read_safe : (home : DeviceRead) (ok : Bool) (old new : Machine) (bytes : List ℕ) (result : Result (Unit {0}) DoneFault)
    → old.asked ≡ asked.Read home → EndsRead home ok old bytes result new → IsHonest old ok bytes → StaysSafe old new
read_safe home true old new bytes result was (inl bad) honest = nothing_changes old new bad.1.1
read_safe home true old new bytes result was (inr good) honest = shown_safe old new home bytes was good.2 (honest refl home was)
read_safe home false old new bytes result was read honest = unread_safe old new home was read.1

calls_safe : (count : ℕ) (ok : Bool) (old new : Machine) (result : Result (Unit {0}) DoneFault) → old.asked ≡ asked.Calls count
    → EndsCalls count ok old result new → StaysSafe old new
calls_safe count true old new result was ended = rw ended.1 (counted_safe old count was)
calls_safe count false old new result was ended = stays_safe old new (given_up_stands old new count was ended.1)

pub done_safe : (a : Asked) (ok : Bool) (old new : Machine) (bytes : List ℕ) (result : Result (Unit {0}) DoneFault)
    → old.asked ≡ a → EndsAs a ok old bytes result new → IsHonest old ok bytes → StaysSafe old new
done_safe asked.Nothing ok old new bytes result was done honest = nothing_changes old new done.1
done_safe (asked.Calls count) ok old new bytes result was done honest = calls_safe count ok old new result was done
done_safe (asked.Read home) ok old new bytes result was done honest = read_safe home ok old new bytes result was done honest
done_safe (asked.Refused count behind) ok old new bytes result was done honest = nothing_changes old new done.1
