-- Devices that have carried out a first part of what was sent.
use Rattle.std.proofs.Common.{◌≡◌, ℕ, ◌+◌, ◌-◌, ◌≤◌, zero, suc, List, [], ◌∷◌, ◌++◌, length, take, Option, Some, None, refl, sym, ◌∙◌, ap}
use Rattle.std.proofs.Common.{arith, length-append, append_assoc}
use Rattle.std.proofs.Math.Seq.{take-nil, take-append-add}
use Rattle.window.specs.Story.{given}
use Rattle.window.specs.OutboxMedium.{OutboxMedium, sent, CoversDevice, ComesAfter}
use Rattle.window.specs.MirrorLaws.{given-append}
use Rattle.window.specs.declared.call.DeviceCall.{DeviceCall}

-- the calls of the medium that gave the first count calls of the device
record FirstPart (asked : List (Option DeviceCall)) (count : ℕ) : Type 0 where
  at : ℕ
  inside : at ≤ length asked
  gives : given (take at asked) ≡ take count (given asked)

first_part : (asked : List (Option DeviceCall)) (count : ℕ) → FirstPart asked count
first_part [] count = record { at = 0; inside = omega arith; gives = sym (take-nil count) }
first_part (None ∷ calls) count = let rest = first_part calls count in
    record { at = suc rest.at; inside = omega (arith, rest.inside); gives = rest.gives }
first_part (Some call ∷ calls) zero = record { at = 0; inside = omega arith; gives = refl }
first_part (Some call ∷ calls) (suc count) = let rest = first_part calls count in
    record { at = suc rest.at; inside = omega (arith, rest.inside); gives = ap (λ (l : List DeviceCall). call ∷ l) rest.gives }

-- what was sent is what was given, as long as only calls of a medium are made
still_sent : (old new : OutboxMedium) → given old.story.asked ≡ sent old → ComesAfter old new → given new.story.asked ≡ sent new
still_sent old new all follows = simp (follows.asked, given-append, all, follows.taken_stays, follows.outbox, append_assoc)

pub covers : (old new : OutboxMedium) → given old.story.asked ≡ sent old → ComesAfter old new → CoversDevice old new
covers old new all follows count image le left =
    let long = ap (λ (l : List DeviceCall). length l) all in
    let more = count - length (given old.story.asked) in
    let part = first_part follows.since more in
    let sum : count ≡ length (given old.story.asked) + more = omega arith in
    let gives : given (take (length old.story.asked + part.at) new.story.asked) ≡ take count (sent new) =
    rw (follows.asked, take-append-add, given-append, part.gives, ← still_sent old new all follows, follows.asked, given-append)
    (sym (take-append-add (given old.story.asked) (given follows.since) more)
    ∙ ap (λ k. take k (given old.story.asked ++ given follows.since)) (sym sum)) in
    record {
      at = length old.story.asked + part.at;
      later = omega arith;
      past = rw follows.asked (simp length-append (omega (arith, part.inside)));
      cut = λ s. rw gives (left s);
    }
