-- A recovery that is at its end.
use Rattle.std.proofs.Common.{◌≡◌, ◌∙◌, ℕ, List, Result, Ok, None, sym}
use Rattle.medium.specs.{Tally.none}
use Rattle.window.specs.{Window.{Window, state_of}, WindowLaws.is_sound}
use Rattle.store_calls.specs.declared.recovered_device.RecoveredDevice.{RecoveredDevice}
use Rattle.image_calls.specs.{Carried.refusal_of, declared.asked.Asked.Asked, declared.recovering.Recovering.Recovering}
use Rattle.image_calls.specs.Recovering.{IsRecovering, IsOverAt, EndsAt, Ends, IsLeftBy, stage_of}
use Rattle.recovery.specs.{HoldsStart.HoldsStart, Starting.{EndsStart, start_left}, declared.recovered.Recovered.Recovered}
use Rattle.recovery.specs.{declared.start_fault.StartFault.StartFault}
use Rattle.image_calls.specs.declared.asked.Asked.TheVariants as asked

-- no call is left of one that is over, and of which the device refused none
pub over_left : (s : Recovering) (at : Asked) → refusal_of at ≡ None → IsOverAt at s
    → start_left (stage_of s.running.carried.machine) ≡ none
over_left s asked.Nothing told over = over
over_left s (asked.At next) told over = absurd over
over_left s (asked.Refused kind) told over = absurd (cc told)

-- it ends as what it holds says
pub ended : (s : Recovering) (result : Result Recovered StartFault) (at : Asked) → s.running.carried.asked ≡ at → refusal_of at ≡ None
    → IsOverAt at s
    → ((least : ℕ) (start m : Window) (had : List ℕ) → HoldsStart state_of least (stage_of s.running.carried.machine) had start m
    → EndsStart least (state_of start) (state_of m) result)
    → (m n : Window) → IsRecovering m s n → EndsAt at m n result
ended s result asked.Nothing at told over ends m n is =
    let run = rw at at is.running.carried.reaches in
    ends 0 m n s.running.carried.sector (run.runs (record { start = m; least = 0 }) is.held).1.1
ended s result (asked.At next) at told over ends m n is = absurd over
ended s result (asked.Refused kind) at told over ends m n is = absurd (cc told)

-- it is at its end, good: then it ended as what it holds says
ends_start : (at : Asked) (m n : Window) (found : Recovered) → EndsAt at m n (Ok found) → EndsStart 0 (state_of m) (state_of n) (Ok found)
ends_start asked.Nothing m n found ends = ends
ends_start (asked.At next) m n found ends = absurd ends
ends_start (asked.Refused kind) m n found ends = absurd (cc ends)

-- a medium that was begun on has as many sectors as its machine knows of
pub on_device : (s : Recovering) (at : Asked) → s.running.carried.asked ≡ at → refusal_of at ≡ None → IsOverAt at s
    → (m n : Window) → IsRecovering m s n → (state_of m).size ≡ s.running.carried.machine.sectors
on_device s asked.Nothing told none over m n is =
    let run = rw told at is.running.carried.reaches in
    sym (run.on.0.fits_still (state_of m).size is.running.carried.fit)
on_device s (asked.At next) told none over m n is = absurd over
on_device s (asked.Refused kind) told none over m n is = absurd (cc none)

-- a medium that holds what the recovery left is as it left it
pub left_behind : (s : Recovering) (on : RecoveredDevice) → Ends s (Ok on.found)
    → ((m n : Window) → IsRecovering m s n → (state_of m).size ≡ on.sectors) → IsLeftBy s on
left_behind s on ends sized holds room first m n behind is same =
    let end = ends_start s.running.carried.asked m n on.found (ends m n is) in
    record {
      recovered = end.ok.0;
      fresh = end.fresh;
      sound = is_sound m;
      size_stays = behind.sized ∙ sym (sized m n is);
      content_stays = same;
      sets = λ x c left. rw (behind.flushed x c left, same x) ((is_sound n).holds_content x);
    }
