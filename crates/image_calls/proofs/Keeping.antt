-- What each call of the work on an image keeps.
use Rattle.std.proofs.Common.{◌≡◌, ◌≤◌, ◌+◌, ℕ, length, List, inl, inr, refl, sym, ◌∙◌, ap, subst, arith, length-append}
use Rattle.std.proofs.{lemmas.Bool.cases_lt}
use Rattle.std.specs.Prelude.{Bool, true, false, take, Option, Result}
use Rattle.medium.specs.Medium.{Image, CutLeaves}
use Rattle.window.specs.{Device.{durable, after}, OutboxMedium.sent, Parts.{AreCarriedOut, PartsFollow}}
use Rattle.window.specs.{declared.call.DeviceCall.DeviceCall, Window.{Window, state_of, mirror_of}, declared.ask.DeviceAsk.DeviceAsk}
use Rattle.window.specs.{declared.done_fault.DoneFault.DoneFault}
use Rattle.journal.specs.{Places.Shape}
use Rattle.store_calls.specs.{Outbox.without}
use Rattle.image_calls.specs.{Formats.{IsMaking, MakesParts}, declared.plan.Aim.Aim}
use Rattle.image_calls.specs.Machines.{Machine, begun, carried, under_way, MayLeave, LeavesSince, LeavesAtRest, CarriesOut, GoesOn, Asks}
use Rattle.image_calls.specs.{Machines.{AsksBy, AsksForNext, IsDone}, declared.work.Work.Work, declared.image_asked.ImageAsked.ImageAsked}
use Rattle.image_calls.specs.{declared.image_asked.ImageCall.ImageCall}
use Rattle.image_calls.proofs.{NextCall.on_way_on, Taken.{IsSentStill, some_go, without_more}}
use Rattle.store_calls.proofs.Handing.{taken_by, some_first, run_waits}
use Rattle.window.specs.declared.ask.DeviceAsk.TheVariants as ask
use Rattle.image_calls.specs.declared.image_asked.ImageAsked.TheVariants as asked
use Rattle.image_calls.specs.declared.image_asked.ImageCall.TheVariants as kind

-- all but what is left at rest
pub record Keeps (old new : Machine) : Type 0 where
  pub makes : (what : Aim) (shape : Shape) (first : Window) → IsMaking what shape first old.work → IsMaking what shape first new.work
  pub carries : (first : Window) → CarriesOut first old → CarriesOut first new
  pub since : (first : Window) → LeavesSince first old → LeavesSince first new

keeps_same : (old new : Machine) → new ≡ old → Keeps old new
keeps_same old new same = subst (λ (s : Machine). Keeps old s) (sym same)
    (record { makes = λ what shape first f. f; carries = λ first c. c; since = λ first s. s })

keeps_through : (a b c : Machine) → Keeps a b → Keeps b c → Keeps a c
keeps_through a b c f g = record {
  makes = λ what shape first is. g.makes what shape first (f.makes what shape first is);
  carries = λ first is. g.carries first (f.carries first is);
  since = λ first is. g.since first (f.since first is);
}

-- a device that told no fewer done leaves no more
leaves_no_more : (old new : Machine) → IsSentStill old.work.medium new.work.medium → carried old ≤ carried new
    → (image : Image) → MayLeave new image → MayLeave old image
leaves_no_more old new same reaches image left = record {
  count = left.count;
  done = left.done;
  reaches = omega (arith, left.reaches, reaches);
  are = subst (λ (calls : List DeviceCall). AreCarriedOut (take left.count calls) left.done) same.sent left.are;
  cut = subst (λ (bytes : List ℕ). CutLeaves (after (durable bytes) left.done).may_leave image) same.opening left.cut;
}

since_still : (first : Window) (old new : Machine) → IsSentStill old.work.medium new.work.medium → carried old ≤ carried new
    → LeavesSince first old → LeavesSince first new
since_still first old new same reaches since = record {
  later = omega (arith, since.later, same.same.calls_stay);
  left = λ image left. same.same.left_grows (state_of first).calls image
      (since.left image (leaves_no_more old new same reaches image left));
}

-- ---- the next part is made

module _ (old : Machine) (mid : Work) (free : old.asked ≡ asked.Nothing) (made : MakesParts old.work mid) (parts : PartsFollow) where
  was : begun old.work ≡ old
  was i = record { work = old.work; asked = sym free i }

  grows : (state_of old.work.medium).calls ≤ (state_of mid.medium).calls
  grows = let follows = made.waits.follows in omega (
    arith,
    ap (λ (l : List (Option DeviceCall)). length l) follows.asked,
    length-append old.work.medium.seen.told.asked follows.since,
  )

  -- nothing waited, and all was told done
  since_made : (first : Window) → length old.work.medium.outbox ≤ 0 → LeavesSince first old → LeavesSince first (begun mid)
  since_made first none since = record {
    later = omega (arith, since.later, grows);
    left = λ image left.
        let all : length (sent (mirror_of old.work.medium)) ≤ left.count = omega (
          arith,
          left.reaches,
          none,
          ap (λ (l : List DeviceCall). length l) made.waits.follows.taken_stays,
          length-append old.work.medium.seen.told.taken old.work.medium.outbox,
        ) in
        let is = parts (mirror_of old.work.medium) (mirror_of mid.medium) made.waits.covers left.count left.done image all left.are
        left.cut in
        record { at = is.at; later = omega (arith, is.later, since.later); past = is.past; cut = is.cut };
  }

  since_mid : (first : Window) → LeavesSince first old → LeavesSince first (begun mid)
  since_mid first since = elim (cases_lt 0 (length old.work.medium.outbox)) [
    | inl some ↦ subst (λ (w : Work). LeavesSince first (begun w)) (sym (made.stays (inl some)))
        (subst (λ (s : Machine). LeavesSince first s) (sym was) since)
    | inr none ↦ since_made first none since
  ]

  carries_mid : (first : Window) → CarriesOut first old → CarriesOut first (begun mid)
  carries_mid first (none, out) =
      subst (λ (w : Work). CarriesOut first (begun w)) (sym (made.stays (inr none))) (none, out)

  pub keeps_mid : Keeps old (begun mid)
  keeps_mid = record { makes = made.keeps; carries = carries_mid; since = since_mid }

-- ---- calls leave what waits

abbrev handed : Work → ImageCall → ℕ → Machine
handed mid call count = record { work = record mid { medium = without count mid.medium }; asked = asked.Calls call count }

module _ (mid : Work) (call : ImageCall) (count : ℕ) (le : count ≤ length mid.medium.outbox) where
  still : IsSentStill mid.medium (without count mid.medium)
  still = some_go count mid.medium

  makes_on : (what : Aim) (shape : Shape) (first : Window) → IsMaking what shape first mid
      → IsMaking what shape first (record mid { medium = without count mid.medium })
  makes_on what shape first making = record {
    on_way = on_way_on what shape first mid.medium (without count mid.medium) still.same still.looked mid.left making.on_way;
    room = omega (arith, still.room, making.room);
  }

  carries_on : (first : Window) → CarriesOut first (begun mid) → CarriesOut first (handed mid call count)
  carries_on first (none, (before, is)) =
      (none, (count + before, ap (λ (w : Window). without count w) is ∙ without_more count before first))

  keeps_handed : Keeps (begun mid) (handed mid call count)
  keeps_handed = record {
    makes = makes_on;
    carries = carries_on;
    since = λ first. since_still first (begun mid) (handed mid call count) still (omega (arith, taken_by count mid.medium le));
  }

next_keeps : (mid : Work) (room : List ℕ) (what : DeviceAsk) (new : Machine) (filled : List ℕ) → AsksForNext mid room what new filled
    → Keeps (begun mid) new
next_keeps mid room ask.Nothing new filled asks = keeps_same (begun mid) new asks.1
next_keeps mid room (ask.Write first count) new filled asks =
    subst (λ (s : Machine). Keeps (begun mid) s) (sym asks.0)
    (keeps_handed mid kind.Write count (run_waits mid.medium new.work.medium first count room filled asks.2.run))
next_keeps mid room ask.Flush new filled asks =
    subst (λ (s : Machine). Keeps (begun mid) s) (sym asks.0)
    (keeps_handed mid kind.Flush 1 (some_first mid.medium.outbox _ asks.1))
next_keeps mid room (ask.Read sectors) new filled asks = absurd asks

goes : (old new : Machine) → Keeps old new → LeavesAtRest new → GoesOn old new
goes old new keeps rest = record { makes = keeps.makes; carries = keeps.carries; since = keeps.since; rest = rest }

asks_keeps : (a : ImageAsked) (old new : Machine) (room : List ℕ) (what : DeviceAsk) (filled : List ℕ) → PartsFollow → old.asked ≡ a
    → AsksBy a old room what new filled → Keeps old new
asks_keeps asked.Nothing old new room what filled parts free (mid, made, asks) =
    keeps_through old (begun mid) new (keeps_mid old mid free made parts) (next_keeps mid room what new filled asks)
asks_keeps (asked.Calls call count) old new room what filled parts is asks = keeps_same old new asks.1
asks_keeps (asked.Refused call count) old new room what filled parts is asks = keeps_same old new asks.1

pub asks_goes : (old new : Machine) (room : List ℕ) (what : DeviceAsk) (filled : List ℕ) → PartsFollow → Asks old room what new filled
    → LeavesAtRest new → GoesOn old new
asks_goes old new room what filled parts asks rest =
    goes old new (asks_keeps old.asked old new room what filled parts refl asks) rest

-- ---- what has ended

-- the work stays
works_on : (old : Machine) (now : ImageAsked) → under_way now ≤ under_way old.asked → Keeps old (record old { asked = now })
works_on old now fewer = record {
  makes = λ what shape first f. f;
  carries = λ first c. c;
  since = λ first. since_still first old (record old { asked = now }) (some_go 0 old.work.medium) (omega (arith, fewer));
}

ended_keeps : (call : ImageCall) (count : ℕ) (ok : Bool) (old new : Machine) (result : Result (Unit {0}) DoneFault)
    → old.asked ≡ asked.Calls call count → IsDone (asked.Calls call count) ok old result new → Keeps old new
ended_keeps call count true old new result was ended =
    subst (λ (s : Machine). Keeps old s) (sym ended.1) (works_on old asked.Nothing (omega arith))
ended_keeps call count false old new result was ended =
    subst (λ (s : Machine). Keeps old s) (sym ended.1)
    (works_on old (asked.Refused call count) (omega (arith, ap under_way was)))

done_keeps : (a : ImageAsked) (ok : Bool) (old new : Machine) (result : Result (Unit {0}) DoneFault) → old.asked ≡ a
    → IsDone a ok old result new → Keeps old new
done_keeps asked.Nothing ok old new result _ done = keeps_same old new done.1
done_keeps (asked.Calls call count) ok old new result was done = ended_keeps call count ok old new result was done
done_keeps (asked.Refused call count) ok old new result _ done = keeps_same old new done.1

pub done_goes : (old new : Machine) (ok : Bool) (result : Result (Unit {0}) DoneFault) → IsDone old.asked ok old result new
    → LeavesAtRest new → GoesOn old new
done_goes old new ok result done rest = goes old new (done_keeps old.asked ok old new result refl done) rest
