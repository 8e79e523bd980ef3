-- A machine whose calls a device carries out is carried on, call by call.
use Rattle.std.proofs.Common.{◌≡◌, ℕ, Bool, true, false, List, [], ◌∷◌, ◌++◌, length, inl, inr, refl, sym, ◌∙◌, ap, subst, arith, Ok}
use Rattle.std.proofs.{Common.{Result, Option, Some, None, append_assoc}, lemmas.List.append-nil}
use Rattle.window.specs.{WindowLaws.is_sound, Story.{given, are_whole, is_whole}}
use Rattle.window.specs.{OutboxMedium.{OutboxMedium, sent, DeviceLeaves, ComesAfter}, declared.call.DeviceCall.DeviceCall}
use Rattle.window.specs.{Window.{Window, state_of, mirror_of, reads, misses, gives}, declared.done_fault.DoneFault.DoneFault}
use Rattle.medium.specs.{Medium.Image, Moments.{EachCut, LeavesOnly}, Tally.{Tally, none}, Machine.GoesOn, declared.medium_call.Call.Call}
use Rattle.medium.proofs.Driving.{driven_call, driven_refused, not_driven}
use Rattle.window.proofs.{OutboxCalls.{given_none, given_some, whole_more}, Devices.covers}
use Rattle.image_calls.specs.{declared.asked.Asked.Asked, declared.carried.Carried.Carried}
use Rattle.image_calls.specs.Carried.{IsCarried, Tells, HearsRead, IsCarriedOn, Reaches, Runs, LeavesWhatItMay, HoldsOn, BeginsCarried}
use Rattle.image_calls.proofs.Performing.{read_performed, read_refused, write_performed, flush_performed}
use Rattle.medium.specs.declared.medium_call.Call.TheVariants as call
use Rattle.medium.specs.declared.fault.MediumFault.TheVariants as kind
use Rattle.window.specs.OutboxMedium as mirror
use Rattle.window.specs.declared.call.DeviceCall.TheVariants as device
use Rattle.image_calls.specs.declared.asked.Asked.TheVariants as asked

-- no call
abbrev pub none_came : (m : OutboxMedium) → ComesAfter m m
none_came m = record { since = []; asked = sym (append-nil m.story.asked); outbox = sym (append-nil m.outbox); taken_stays = refl }

-- a call more that gives the device nothing
abbrev pub asked_more : (old now new : OutboxMedium) → ComesAfter old now → new.story.asked ≡ now.story.asked ++ None ∷ []
    → new.outbox ≡ now.outbox → new.story.taken ≡ now.story.taken → ComesAfter old new
asked_more old now new follows asks outbox taken = record {
  since = follows.since ++ None ∷ [];
  asked = asks ∙ ap (λ (l : List (Option DeviceCall)). l ++ None ∷ []) follows.asked
      ∙ append_assoc old.story.asked follows.since (None ∷ []);
  outbox = outbox ∙ follows.outbox ∙ ap (λ (l : List DeviceCall). old.outbox ++ l) (sym (given_none follows.since));
  taken_stays = taken ∙ follows.taken_stays;
}

-- and one that does
abbrev pub gave_more : (old now : OutboxMedium) (one : DeviceCall) → ComesAfter old now → ComesAfter old (mirror.gives now one)
gave_more old now one follows = record {
  since = follows.since ++ Some one ∷ [];
  asked = ap (λ (l : List (Option DeviceCall)). l ++ Some one ∷ []) follows.asked
      ∙ append_assoc old.story.asked follows.since (Some one ∷ []);
  outbox = ap (λ (l : List DeviceCall). l ++ one ∷ []) follows.outbox ∙ append_assoc old.outbox (given follows.since) (one ∷ [])
      ∙ ap (λ (l : List DeviceCall). old.outbox ++ l) (sym (given_some follows.since one));
  taken_stays = follows.taken_stays;
}

-- bytes of a sector are a whole write
pub whole_write : (place : ℕ) (bytes : List ℕ) → length bytes ≡ 512
    → is_whole (device.Write (record { sector = place; block = bytes })) ≡ true
whole_write place bytes long = rw long refl

module _ {S V : Type 0} (fits : S → ℕ → Type 0) (holds : S → List ℕ → Window → V → Type 0) (may : V → Image → Type 0)
    (reads_to ends : S → ℕ) (cost : S → Tally) (Exact : Type 0) (Due : S → Type 0) (After : S → List ℕ → S → Type 0)
    (Gone : S → S → Type 0)
    (leaves : (s : S) (had : List ℕ) (m : Window) (view : V) → holds s had m view → EachCut (may view) (state_of m))
    (goes : (a b : S) (bytes : List ℕ) → Due a → After a bytes b → GoesOn fits reads_to ends a b) where
  abbrev Is : S → List ℕ → Window → Carried S → Window → Type 0
  Is first began m s n = IsCarried fits holds may reads_to ends cost Exact Due After Gone first began m s n

  abbrev Next : S → List ℕ → Call → List ℕ → Type 0
  Next machine had next bytes = Tells fits holds may reads_to ends cost Exact Due After Gone machine had next bytes

  abbrev At : S → List ℕ → Window → Carried S → Asked → Window → Type 0
  At first began m s at n = Reaches fits holds may reads_to ends cost Exact Due After Gone first began m s.machine s.sector at n

  module _ {first : S} {began : List ℕ} {m n : Window} {s : Carried S} (is : Is first began m s n) (idle : s.asked ≡ asked.Nothing) where
    so_far : Runs fits holds may reads_to ends cost Exact Due After Gone first began m (Ok tt) s.machine s.sector n
    so_far = subst (λ (a : Asked). At first began m s a n) idle is.reaches

    -- a read is asked for
    pub asked_to_read : (place : ℕ) (bytes : List ℕ) → Next s.machine s.sector (call.Read place) bytes
        → Is first began m (record { machine = s.machine; sector = bytes; asked = asked.At (call.Read place) }) n
    asked_to_read place bytes tells = record {
      fit = is.fit;
      reaches = (s.sector, so_far, tells);
      follows = is.follows;
      opening_stays = is.opening_stays;
      whole = is.whole;
    }

    -- a sector is handed to the device
    pub handed_write : (place : ℕ) (bytes : List ℕ) (next : S) → Next s.machine s.sector (call.Write place) bytes
        → After s.machine bytes next → is_whole (device.Write (record { sector = place; block = bytes })) ≡ true
        → Is first began m (record { machine = next; sector = bytes; asked = asked.At (call.Write place) })
        (gives n (device.Write (record { sector = place; block = bytes })))
    handed_write place bytes next tells after one =
        let given_call = device.Write (record { sector = place; block = bytes }) in record {
          fit = is.fit;
          reaches = driven_call leaves is.fit so_far tells (write_performed n place bytes is.whole one) refl next after goes;
          follows = gave_more (mirror_of m) (mirror_of n) given_call is.follows;
          opening_stays = is.opening_stays;
          whole = ap are_whole (given_some n.seen.told.asked given_call) ∙ whole_more (given n.seen.told.asked) given_call is.whole one;
        }

    -- and a flush
    pub handed_flush : (bytes : List ℕ) (next : S) → Next s.machine s.sector call.Flush bytes → After s.machine bytes next
        → Is first began m (record { machine = next; sector = bytes; asked = asked.At call.Flush }) (gives n device.Flush)
    handed_flush bytes next tells after = record {
      fit = is.fit;
      reaches = driven_call leaves is.fit so_far tells (flush_performed n bytes is.whole) refl next after goes;
      follows = gave_more (mirror_of m) (mirror_of n) device.Flush is.follows;
      opening_stays = is.opening_stays;
      whole = ap are_whole (given_some n.seen.told.asked device.Flush)
          ∙ whole_more (given n.seen.told.asked) device.Flush is.whole refl;
    }

  module _ {first : S} {began : List ℕ} {m n : Window} {s : Carried S} (is : Is first began m s n) (place : ℕ)
      (at : s.asked ≡ asked.At (call.Read place)) where
    read_so_far : At first began m s (asked.At (call.Read place)) n
    read_so_far = subst (λ (a : Asked). At first began m s a n) at is.reaches

    -- a machine that is at a read has a call left
    pub has_call : ¬ (cost s.machine ≡ none)
    has_call end =
        let tells = read_so_far.2 in
        absurd (omega (arith, ap (λ (t : Tally). t.reads) (sym end ∙ tells.pays)))

    -- the read has ended good
    pub read_ended : (bytes : List ℕ) (next : S) → bytes ≡ (state_of n).content place → After s.machine bytes next
        → Is first began m (record { machine = next; sector = bytes; asked = asked.Nothing }) (reads n place)
    read_ended bytes next honest after = record {
      fit = is.fit;
      reaches = driven_call leaves is.fit read_so_far.1 read_so_far.2 (read_performed n place s.sector bytes honest) refl next after goes;
      follows = asked_more (mirror_of m) (mirror_of n) (mirror_of (reads n place)) is.follows refl refl refl;
      opening_stays = is.opening_stays;
      whole = ap are_whole (given_none n.seen.told.asked) ∙ is.whole;
    }

    -- the device refused it
    pub read_failed : (sector : List ℕ) (next : S) → Gone s.machine next
        → Is first began m (record { machine = next; sector = sector; asked = asked.Refused kind.Read }) (misses n place)
    read_failed sector next gone = record {
      fit = is.fit;
      reaches = driven_refused leaves is.fit read_so_far.1 read_so_far.2 (read_refused n place s.sector sector) kind.Read refl next gone;
      follows = asked_more (mirror_of m) (mirror_of n) (mirror_of (misses n place)) is.follows refl refl refl;
      opening_stays = is.opening_stays;
      whole = ap are_whole (given_none n.seen.told.asked) ∙ is.whole;
    }

  at_read : (new : Carried S) (first : S) (began : List ℕ) (m n : Window) (sector : List ℕ) (at : Asked) → new.sector ≡ sector
      → new.asked ≡ at → Is first began m (record { machine = new.machine; sector = sector; asked = at }) n → Is first began m new n
  at_read new first began m n sector at sector_is at_is is =
      subst (λ (b : List ℕ). Is first began m (record { machine = new.machine; sector = b; asked = new.asked }) n) (sym sector_is)
      (subst (λ (a : Asked). Is first began m (record { machine = new.machine; sector = sector; asked = a }) n) (sym at_is) is)

  -- what was told of a read is taken, or not
  pub read_heard : (s new : Carried S) (ok : Bool) (bytes : List ℕ) (result : Result (Unit {0}) DoneFault) (place : ℕ)
      → s.asked ≡ asked.At (call.Read place)
      → HearsRead fits holds may reads_to ends cost Exact Due After Gone s ok bytes result new
      → IsCarriedOn fits holds may reads_to ends cost Exact Due After Gone s ok bytes result new
  read_heard s new ok bytes result place at (inl short) first began m n honest is =
      rw short.2 (subst (λ (t : Carried S). Is first began m t n) (sym short.3) is)
  read_heard s new true bytes result place at (inr (good, inl none_left)) first began m n honest is =
      absurd (has_call is place at none_left.0)
  read_heard s new false bytes result place at (inr (good, inl none_left)) first began m n honest is =
      absurd (has_call is place at none_left.0)
  read_heard s new true bytes result place at (inr (good, inr read)) first began m n honest is =
      rw good (rw at (at_read new first began m (reads n place) bytes asked.Nothing read.1 read.2
      (read_ended is place at bytes new.machine (rw at at honest) read.0)))
  read_heard s new false bytes result place at (inr (good, inr failed)) first began m n honest is =
      rw good (rw at (at_read new first began m (misses n place) new.sector (asked.Refused kind.Read) refl failed.1
      (read_failed is place at new.sector new.machine failed.0)))

  module _ (view : V) (first : S) (began : List ℕ) (m n : Window) (held : holds first began m view) (machine : S)
      (sector : List ℕ) where
    -- wherever the device is, a cut has left what it may, and they hold what they are to hold
    held_so_far : (at : Asked) → Reaches fits holds may reads_to ends cost Exact Due After Gone first began m machine sector at n
        → LeavesOnly (may view) (state_of m) (state_of n) × (had : List ℕ) × holds machine had n view
    held_so_far asked.Nothing run = let all = run.runs view held in (all.0, sector, all.1)
    held_so_far (asked.At (call.Read place)) run = let all = run.1.runs view held in (all.0, run.0, all.1)
    held_so_far (asked.At (call.Write place)) run = let all = run.runs view held in (all.0, sector, all.1)
    held_so_far (asked.At call.Flush) run = let all = run.runs view held in (all.0, sector, all.1)
    held_so_far (asked.Refused kind) run = let all = run.runs view held in (all.0, sector, all.1)

  pub holds_on : (s : Carried S) → HoldsOn fits holds may reads_to ends cost Exact Due After Gone s
  holds_on s first began m n view is held = held_so_far view first began m n held s.machine s.sector s.asked is.reaches

  -- before the first call
  pub begun : (s : Carried S) → s.asked ≡ asked.Nothing → BeginsCarried fits holds may reads_to ends cost Exact Due After Gone s.machine s
  begun s idle m fit whole = record {
    fit = fit;
    reaches = subst (λ (a : Asked). At s.machine s.sector m s a m) (sym idle) (not_driven leaves s.machine s.sector m (is_sound m));
    follows = none_came (mirror_of m);
    opening_stays = refl;
    whole = whole;
  }

  pub leaves_what_it_may : (s : Carried S) → LeavesWhatItMay fits holds may reads_to ends cost Exact Due After Gone s
  leaves_what_it_may s first began m n count image is all le left =
      let moment = covers (mirror_of m) (mirror_of n) all is.follows count image le left in (
        moment,
        λ view held. (held_so_far view first began m n held s.machine s.sector s.asked is.reaches).0.each image moment,
      )
