-- The copies of one record leave the index: where they are looked for, and what is left.
use Rattle.std.proofs.Common.{◌≡◌, ◌≢◌, ℕ, zero, suc, ◌+◌, ◌-◌, ◌%◌, ◌<◌, ◌≤◌, List, [], ◌∷◌, length, get_or, take, drop, set, refl, sym}
use Rattle.std.proofs.{Common.{◌∙◌, arith}, lemmas.List.{drop_more, take_more_set, drop-set-lt, append-nil, take-append-drop}}
use Rattle.std.proofs.{lemmas.List.{length-take-le, get_or-take, length-set, get_or_default}, lemmas.List.Elements.filter-append}
use Rattle.std.proofs.{lemmas.List.Elements.{filter_more, All-from_get_or, Contains-get_or}, lemmas.Bool.{cases_lt, eq-eqb, ne_eqb}}
use Rattle.std.specs.{Prelude.{slice_index, All, Contains}, List.{filter, remove_range}}
use Rattle.journal.proofs.Wholeness.{other_slot}
use Rattle.redo_log.specs.{declared.index.Copied.Copied, Value.IsNewest, Index.{IsIndex, is_outside, AreOutside, MayLeave, StandsAt}}
use Rattle.redo_log.proofs.SortedIndex.{blank, look_found, All-drop_from}

-- where all stand outside, all are kept
pub filter_outside : (slot : ℕ) (index : List Copied) → AreOutside slot index → filter (is_outside slot) index ≡ index
filter_outside slot [] all = refl
filter_outside slot (c ∷ index) all =
    rw (ne_eqb c.slot slot (all 0 c (omega arith)), filter_outside slot index (λ i d below. all (suc i) d (omega arith))) refl

-- An entry that is not between them stands outside: the first of a record's numbers is the least, and the last one the greatest.
module _ (slot : ℕ) (numbers : List ℕ) (index : List Copied) (leaves : MayLeave slot numbers index) where
  between : (i : ℕ) (d : Copied) → i < length index → (get_or index i d).slot ≡ slot
      → (slice_index numbers 0 ≤ (get_or index i d).block) × ((get_or index i d).block ≤ slice_index numbers (length numbers - 1))
  between i d below same =
      let there = leaves.copies i d below same in
      let rising = leaves.entered.rising in
      grind (arith, get_or_default numbers there.0 0, rising 0 there.0, rising there.0 (length numbers - 1), there.1)

  pub front_outside : {at : ℕ} → StandsAt (slice_index numbers 0) index at → AreOutside slot (take at index)
  front_outside {at} stands = All-from_get_or (λ c. c.slot ≢ slot) (take at index) blank (λ i less same.
      let low : i < at = omega (arith, less, length-take-le at index stands.inside) in
      let is = get_or-take at index i blank low in
      omega (arith, stands.before i blank low, between i blank (omega (arith, low, stands.inside)) (rw is at same)))

  pub back_outside : {at : ℕ} → StandsAt (slice_index numbers (length numbers - 1) + 1) index at → AreOutside slot (drop at index)
  back_outside {at} stands = All-drop_from (λ c. c.slot ≢ slot) at index (λ i d high below same.
      omega (arith, stands.behind i d high below, between i d below same))

  -- the first place is no later than the last one
  pub places_rise : {from end : ℕ} → StandsAt (slice_index numbers 0) index from
      → StandsAt (slice_index numbers (length numbers - 1) + 1) index end → from ≤ end
  places_rise {from} {end} first last =
      let order = leaves.entered.rising 0 (length numbers - 1) in
      grind (arith, cases_lt end from, first.before end blank, last.behind end blank, first.inside, order, leaves.some)

-- The entries before one place are seen: of these the ones outside a slot stand in front, and from that place on all are as they were.
pub record AreSeen (slot : ℕ) (old : List Copied) (to at : ℕ) (index : List Copied) : Type 0 where
  pub kept : take to index ≡ filter (is_outside slot) (take at old)
  pub rest : drop at index ≡ drop at old
  pub behind : to ≤ at
  pub size : length index ≡ length old

-- one more is seen: it stands outside, and is kept, or in the slot
module _ {slot : ℕ} {old : List Copied} {to at : ℕ} {index : List Copied} (seen : AreSeen slot old to at index)
    (below : at < length old) where
  abbrev next : Copied
  next = get_or index at blank

  same : (next ≡ get_or old at blank) × (drop (at + 1) index ≡ drop (at + 1) old)
  same =
      let one = drop_more index at blank (omega (arith, below, seen.size)) in
      let two = drop_more old at blank below in
      let rest = seen.rest in (cc (one, two, rest), cc (one, two, rest))

  pub other_kept : next.slot ≢ slot → AreSeen slot old (to + 1) (at + 1) (set index to next)
  other_kept not =
      let more = filter_more (is_outside slot) old at blank below in
      let set_is = take_more_set index to next (omega (arith, seen.behind, below, seen.size)) in record {
        kept = rw (set_is, more, ← same.0, ne_eqb next.slot slot not, seen.kept) refl;
        rest = drop-set-lt (at + 1) index to next (omega (arith, seen.behind)) ∙ same.1;
        behind = omega (arith, seen.behind);
        size = omega (arith, seen.size, length-set index to next);
      }

  pub own_left : next.slot ≡ slot → AreSeen slot old to (at + 1) index
  own_left is =
      let more = filter_more (is_outside slot) old at blank below in record {
        kept = rw (more, ← same.0, eq-eqb next.slot slot is, seen.kept, append-nil) refl;
        rest = same.1;
        behind = omega (arith, seen.behind);
        size = seen.size;
      }

-- The first entries without those of a slot, and the others, of which none stands there, are all without them.
pub kept_others : (slot end to : ℕ) (old new : List Copied) → take to new ≡ filter (is_outside slot) (take end old)
    → drop end new ≡ drop end old → AreOutside slot (drop end old) → remove_range new to end ≡ filter (is_outside slot) old
kept_others slot end to old new kept rest outside =
    let parts = filter-append (is_outside slot) (take end old) (drop end old) in
    rw (kept, rest, ← filter_outside slot (drop end old) outside, ← parts, take-append-drop end old) refl

-- the entries that stand in the slot of the oldest record are of its blocks
pub oldest_of : {slots stamp : ℕ} {waiting : List (List ℕ)} {index : List Copied} → IsIndex slots stamp waiting index
    → 0 < length waiting → length waiting ≤ slots → All (λ c. c.slot ≡ stamp % slots → Contains (get_or waiting 0 []) c.block) index
oldest_of {slots} {stamp} {waiting} {index} is some few =
    All-from_get_or (λ c. c.slot ≡ stamp % slots → Contains (get_or waiting 0 []) c.block) index blank (λ i below same.
    let c = get_or index i blank in
    let n = rw (look_found index is.sorted i c.block below refl) at (is.finds c.block) in
    aged n n.age refl same)
  where
    aged : {c : Copied} (n : IsNewest slots stamp waiting c.block c.slot c.place) (age : ℕ) → n.age ≡ age → c.slot ≡ stamp % slots
        → Contains (get_or waiting 0 []) c.block
    aged {c} n zero none same = rw none at (rw n.named at (Contains-get_or (get_or waiting n.age []) c.place 0 n.inside))
    aged {c} n (suc age) is same =
        absurd (other_slot stamp (stamp + n.age) slots (omega (arith, is)) (omega (arith, n.waits, few)) (sym same ∙ n.slot_is))
