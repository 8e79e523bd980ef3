-- Where the sectors that reads name are in sight, no read misses, and no call is refused.
use Rattle.std.specs.Prelude.{◌≡◌, ◌<◌, ◌≤◌, ℕ, ◌+◌, true, length}
use Rattle.std.proofs.Common.{arith, sym, ◌∙◌, subst, List, inl, inr}
use Rattle.std.specs.Prelude.{All}
use Rattle.std.proofs.lemmas.List.{append_cancel_left}
use Rattle.std.proofs.lemmas.Bool.{cases_lt}
use Rattle.std.proofs.lemmas.Bool.Decides.{nat_tests}
use Rattle.std.proofs.lemmas.List.Elements.{All-weaker}
use Rattle.std.proofs.lemmas.List.Sums.{list_all-from_AllPass}
use Rattle.medium.specs.Medium.{LooksOnly}
use Rattle.medium.specs.Sent.{sent}
use Rattle.window.specs.Window.{Window, state_of, is_in_sight, kept_out, ComesAfter, IsServed}

-- the first sectors are in sight
pub near_in_sight : (w : Window) (s : ℕ) → s < w.near → is_in_sight w s ≡ true
near_in_sight w s below = grind (arith, nat_tests)

-- and those that were shown last
pub shown_in_sight : (w : Window) (s : ℕ) → w.from ≤ s → s < w.from + w.held
    → is_in_sight w s ≡ true
shown_in_sight w s low high = grind (arith, nat_tests)

-- Calls of which each read names a sector with P: where all such sectors are in sight, and what
-- waits and their writes and flushes have room together, none of them is refused.
pub none_refused : (P : ℕ → Type 0) (old new : Window) → IsServed old new
    → ((s : ℕ) → P s → is_in_sight old s ≡ true) → LooksOnly P (state_of old) (state_of new)
    → length old.outbox + sent (state_of new) ≤ sent (state_of old) + old.room
    → (state_of new).failures ≡ (state_of old).failures
none_refused P old new served sight named few = served named.looks named.looked
    (list_all-from_AllPass (is_in_sight old) named.looks
    (All-weaker P (λ s. is_in_sight old s ≡ true) sight named.looks named.only)) few

-- None of their reads misses, whatever the room.
pub none_missed : (P : ℕ → Type 0) (old new : Window) → ComesAfter old new
    → ((s : ℕ) → P s → is_in_sight old s ≡ true) → LooksOnly P (state_of old) (state_of new)
    → new.seen.told.refused.reads ≡ old.seen.told.refused.reads
none_missed P old new follows sight named =
    let same = append_cancel_left old.seen.looked named.looks follows.looks
    (sym named.looked ∙ follows.looked) in
    follows.in_sight (list_all-from_AllPass (is_in_sight old) follows.looks
    (All-weaker P (λ s. is_in_sight old s ≡ true) sight follows.looks
    (subst (λ (l : List ℕ). All P l) same named.only)))

-- Where what waits and all writes and flushes since have room together, none of these is refused,
-- whatever is in sight.
pub none_kept_out : (old new : Window) → ComesAfter old new
    → length old.outbox + sent (state_of new) ≤ sent (state_of old) + old.room
    → kept_out new.seen.told.refused ≡ kept_out old.seen.told.refused
none_kept_out old new follows few =
    elim (cases_lt (kept_out old.seen.told.refused) (kept_out new.seen.told.refused)) [
      | inl more ↦ absurd (omega (arith, few, follows.refuses more, follows.room_stays))
      | inr none ↦ omega (arith, none, follows.failures_stay)
    ]
