-- What the device was asked for has ended.
use Rattle.std.proofs.Common.{◌≡◌, ◌≤◌, ◌/◌, ◌∷◌, inl, inr, [], List, ℕ, Bool, true, false, length, refl, sym, ◌∙◌, ap, subst, arith}
use Rattle.std.specs.Prelude.{Result}
use Rattle.medium.specs.Inlet.{AreHeld}
use Rattle.window.specs.declared.{call.DeviceCall.DeviceCall, ask.DeviceRead.DeviceRead, asked.Asked.Asked, done_fault.DoneFault.DoneFault}
use Rattle.window.specs.Window.{Window, state_of, moved, device_so_far}
use Rattle.store_calls.{specs.Outbox.without, proofs.{Handing.{some_go, taken_by}, Standing.IsSentStill}}
use Rattle.disk_machine.specs.Plays.{Disk, Sees, medium_of}
use Rattle.disk_machine.specs.Asking.{counted, read_over, turns_told, IsGivenUp, IsShownTo, IsDone, IsHonest}
use Rattle.disk_machine.specs.{Machine.{Machine, has_refused, under_way, carried}, Refused.KeepsRest}
use Rattle.disk_machine.specs.Moves.{KeepsGoing, StaysSafe, ServesTurns, played}
use Rattle.disk_machine.proofs.{Finding.{found_behind, made}, Onward.served_on}
use Rattle.disk_machine.proofs.Handing.{Stands, leaves_no_more, same_held, same_life, same_safe, sent_stands, stays, stays_safe}
use Rattle.spec.specs.declared.event.Event.TheVariants as event
use Rattle.spec.specs.declared.event.Answer.TheVariants as answer
use Rattle.window.specs.declared.asked.Asked.TheVariants as asked

-- what a call that has ended leaves true
abbrev pub Heard : Asked → Bool → Machine → Machine → Type 0
Heard a ok old new = ServesTurns (turns_told a ok) old new × KeepsGoing old new

by_safe : (old new : Machine) → StaysSafe old new → ServesTurns [] old new × KeepsGoing old new
by_safe old new safe = (served_on old new safe.serves, safe.goes_on)

-- ---- calls are carried out

counted_safe : (old : Machine) (count : ℕ) → old.asked ≡ asked.Calls count → StaysSafe old (counted old)
counted_safe old count was = stays_safe old (counted old) (stays old (counted old) refl (omega arith))
    (sym (ap (λ (a : Asked). has_refused a) was)) refl

-- ---- calls are refused

module _ (old new : Machine) (count : ℕ) (was : old.asked ≡ asked.Calls count) (given_up : IsGivenUp old count new) where
  now : new.asked ≡ asked.Refused count (length (medium_of old.disk).outbox)
  now = ap (λ (s : Machine). s.asked) given_up.others

  gone : medium_of new.disk ≡ without (length (medium_of old.disk).outbox) (medium_of old.disk)
  gone = given_up.refused.medium ∙ given_up.refused.drained.emptied.medium

  same : IsSentStill (medium_of old.disk) (medium_of new.disk)
  same = rw gone (some_go (length (medium_of old.disk).outbox) (medium_of old.disk))

  reaches : carried old ≤ carried new
  reaches = omega (
    arith,
    ap under_way was,
    ap under_way now,
    taken_by (length (medium_of old.disk).outbox) (medium_of old.disk) (omega arith),
    ap (λ (w : Window). length w.seen.told.taken) gone,
  )

  given_up_heard : ServesTurns (played event.Tick answer.Ticked ∷ []) old new × KeepsGoing old new
  given_up_heard = (
    λ book c serves.
        let mid = given_up.refused.mid in
        let rest = given_up.refused.drained.rest in
        let stands = rest.stands book c serves.stands in
        let m = made mid new.disk event.Tick answer.Ticked given_up.refused.step book c stands in record {
          later = m.later;
          next = m.next;
          serves = record {
            stands = m.stands;
            keeps = λ ours image left.
                let size = (state_of (medium_of old.disk)).size in
                let before = serves.keeps (sym m.life.ours ∙ ours) image (leaves_no_more old new same reaches image left) in
                rw same.size (found_behind mid new.disk event.Tick answer.Ticked given_up.refused.step book c stands size image
                (m.mark (λ none. none)) (rw (same_life old.disk mid rest, same_held old.disk mid rest book) before));
            faulted = λ refused. given_up.refused.dead;
          };
          life = m.life;
          since = m.since;
          writes = m.writes;
          promises = m.rises;
          run = (true, m.next, m.step, refl);
        },
    record {
      room = λ fits. record { steps = omega (arith, ap (λ (s : Machine). s.most) given_up.others, same.room, fits.steps) };
      dead = λ dead. (leaves_no_more old new same reaches, given_up.refused.dead);
    },
  )

-- ---- a read has ended

module _ (old new : Machine) (home : DeviceRead) (was : old.asked ≡ asked.Read home) (now : new.asked ≡ asked.Nothing) where
  as_far : (medium_of new.disk).seen.told.taken ≡ (medium_of old.disk).seen.told.taken → carried old ≤ carried new
  as_far taken = omega (arith, ap under_way was, ap under_way now, ap (λ (l : List DeviceCall). length l) taken)

  over_safe : Stands old new → new.most ≡ old.most → StaysSafe old new
  over_safe stands most =
      stays_safe old new stands (ap (λ (a : Asked). has_refused a) now ∙ sym (ap (λ (a : Asked). has_refused a) was)) most

-- the bytes that an honest device read
abbrev AreRead : Machine → DeviceRead → List ℕ → Type 0
AreRead s home bytes = AreHeld (device_so_far (medium_of s.disk)).content home.first (length bytes / 512) bytes

-- where the disk took them the window has moved
same_sent : (old new : Window) (first count : ℕ) → new ≡ moved old first count
    → IsSentStill old new × (new.seen.told.taken ≡ old.seen.told.taken)
same_sent old new first count moves = rw moves
    (record { opening = refl; sent = refl; size = refl; left = λ t image left. left; room = refl; near = refl }, refl)

shown_rest : (old new : Disk) (first : ℕ) (bytes : List ℕ) (taken : Bool) → Sees old first bytes new taken
    → AreHeld (device_so_far (medium_of old)).content first (length bytes / 512) bytes → KeepsRest old new
shown_rest old new first bytes taken sees read =
    record { others = sees.others; pending = sees.pending; stands = sees.stands (inl read) }

-- where it did not take them all is as it was
not_taken : (old new : Window) (first : ℕ) (bytes : List ℕ) → new ≡ old → IsSentStill old new × (new.seen.told.taken ≡ old.seen.told.taken)
not_taken old new first bytes same = rw same
    (record { opening = refl; sent = refl; size = refl; left = λ t image left. left; room = refl; near = refl }, refl)

taken_stands : (old new : Machine) (home : DeviceRead) (bytes : List ℕ) (taken : Bool) → old.asked ≡ asked.Read home
    → new.asked ≡ asked.Nothing → Sees old.disk home.first bytes new.disk taken → AreRead old home bytes → Stands old new
taken_stands old new home bytes false was now sees read =
    let sent = not_taken (medium_of old.disk) (medium_of new.disk) home.first bytes (sees.shown.refused refl) in
    sent_stands old new (shown_rest old.disk new.disk home.first bytes false sees read) sent.0 (as_far old new home was now sent.1)
taken_stands old new home bytes true was now sees read =
    let sent = same_sent (medium_of old.disk) (medium_of new.disk) home.first (length bytes / 512)
    (sees.shown.honest refl (inl read)) in
    sent_stands old new (shown_rest old.disk new.disk home.first bytes true sees read) sent.0 (as_far old new home was now sent.1)

shown_safe : (old new : Machine) (home : DeviceRead) (bytes : List ℕ) → old.asked ≡ asked.Read home → IsShownTo old home bytes new
    → AreRead old home bytes → StaysSafe old new
shown_safe old new home bytes was shown read =
    let now = ap (λ (s : Machine). s.asked) shown.others in
    over_safe old new home was now (taken_stands old new home bytes shown.taken was now shown.sees read)
    (ap (λ (s : Machine). s.most) shown.others)

unread_safe : (old new : Machine) (home : DeviceRead) → old.asked ≡ asked.Read home → new ≡ read_over old home false → StaysSafe old new
unread_safe old new home was is = rw is
    (over_safe old (read_over old home false) home was refl
    (stays old (read_over old home false) refl (as_far old (read_over old home false) home was refl refl)) refl)

-- ---- what the device was asked for last

pub done_safe : (a : Asked) (ok : Bool) (old new : Machine) (bytes : List ℕ) (result : Result (Unit {0}) DoneFault)
    → old.asked ≡ a → IsDone a ok old bytes result new → IsHonest old ok bytes → Heard a ok old new
done_safe (asked.Calls count) true old new bytes result was done honest =
    by_safe old new (subst (λ (s : Machine). StaysSafe old s) (sym done.1) (counted_safe old count was))
done_safe (asked.Calls count) false old new bytes result was done honest = given_up_heard old new count was done.1
done_safe (asked.Read home) true old new bytes result was (inl bad) honest = by_safe old new (same_safe old new bad.1.1)
done_safe (asked.Read home) true old new bytes result was (inr good) honest =
    by_safe old new (shown_safe old new home bytes was good.2 (honest refl home was))
done_safe (asked.Read home) false old new bytes result was done honest = by_safe old new (unread_safe old new home was done.1)
done_safe _ ok old new bytes result was done honest = by_safe old new (same_safe old new done.1)
