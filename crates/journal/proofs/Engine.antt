-- The crash argument, for every layout: what the writing of a record leaves, and its retiring while another is written.
use Rattle.std.proofs.Common.{◌≡◌, ◌≢◌, ◌⊎◌, inl, inr, ℕ, ◌+◌, ◌*◌, ◌-◌, ◌%◌, ◌<◌, ◌≤◌, List, length, arith, rules, [], ◌∷◌, length-append}
use Rattle.std.proofs.{Common.{get_or, drop, refl, length-drop, get_or-drop, drop-cons}, lemmas.{Bool.{cases_eq, cases_lt}, Nat.mod_below}}
use Rattle.std.proofs.{lemmas.List.get_or_append_left, Math.Seq.get_or-append_seam}
use Rattle.medium.specs.Medium.{Image, Holds}
use Rattle.journal.specs.{Places.Shape, Record.{Entry, with_records, home_of, Agree, Hides}, Layout.{Layout, IsWholeIn, HasWholeIn}}
use Rattle.journal.specs.{Layout.{CarriesBelowIn, IsFree, slot_at, part_at, Laws, IsRecordOf}, Staged.{View, HasParts, stamp_of, KeepsView}}
use Rattle.journal.specs.{Staged.{Found, Stored, Guarded, HasSlots, Resting, with_record, MayLeave, with_less, IsHomed}, Sectors.IsHead}
use Rattle.journal.proofs.Wholeness.{in_log, other_sector, other_slot, record_of, Keeps-same, IsWhole-same, slot_inside, all_or_first}
use Rattle.journal.proofs.Wholeness.{with_blocks-same, with_records-append, with_records-same, with_blocks-home}

-- where part p of the record under way stands
abbrev pub at : Layout → View → ℕ → ℕ
at L v p = part_at L v.shape (stamp_of v) (length v.under_way) p

-- its bytes
abbrev pub bytes_of : Layout → View → ℕ → List ℕ
bytes_of L v p = L.part (stamp_of v) v.under_way p

-- the part that is written last
abbrev pub last : Layout → View → ℕ
last L v = L.parts (length v.under_way) - 1

module _ (L : Layout) (laws : Laws L) (shape : Shape) where
  -- each part of a whole record behind its barrier carries its stamp
  pub late_carries : (image : Image) (stamp : ℕ) (es : List Entry) (p : ℕ) → IsWholeIn L shape image stamp es → p < L.parts (length es)
      → L.before_barrier (length es) ≤ p → ¬ IsFree L stamp (L.offset (length es) p) (image (part_at L shape stamp (length es) p))
  late_carries image stamp es p w below late free = grind (arith, laws.carries shape.blocks stamp es p (record_of w), w.there p below, free)

  -- where the last sector of the slot does not carry a stamp, that stamp's record is not whole
  pub last_free_none : (image : Image) (stamp : ℕ)
      → IsFree L stamp (L.slot_sectors - 1) (image (slot_at L shape stamp + (L.slot_sectors - 1))) → ¬ HasWholeIn L shape image stamp
  last_free_none image stamp free whole =
      let n = length whole.0 in
      grind (arith, late_carries image stamp whole.0 (L.parts n - 1) whole.1, laws.some_parts n, laws.last_is_behind n, laws.last n, free)

  -- behind the stamps that the log carries no record is whole
  pub none_carried : 1 ≤ shape.slots → (image : Image) (end : ℕ) → CarriesBelowIn L shape image end → ¬ HasWholeIn L shape image end
  none_carried some image end c =
      last_free_none image end (λ t. c (end % shape.slots) (L.slot_sectors - 1) t (mod_below end shape.slots some)
      (omega (arith, laws.inside 0 0 (omega arith) (laws.some_parts 0))))

  -- a part of a record of this stamp carries no other one
  pub one_part : (stamp : ℕ) (es : List Entry) → IsRecordOf L shape.blocks stamp es → (slot o t p : ℕ) (bytes : List ℕ) → o < L.slot_sectors
      → p < L.parts (length es) → 2 + L.slot_sectors * slot + o ≡ part_at L shape stamp (length es) p → bytes ≡ L.part stamp es p
      → L.carries o t bytes → t ≡ stamp
  one_part stamp es is slot o t p bytes small below place there carries =
      let apart = other_sector L.slot_sectors slot (stamp % shape.slots) o (L.offset (length es) p) in
      grind (arith, cases_eq slot (stamp % shape.slots), apart, laws.one_stamp shape.blocks stamp t es p is below)

-- an image at rest stands for its array
pub rests_found : (L : Layout) → Laws L → (v : View) {image : Image} → length v.records ≤ v.shape.slots
    → Resting L v image → Found L v image
rests_found L laws v {image} few r =
    let none = none_carried L laws v.shape r.keeps.super.some_slots image (stamp_of v) r.carries in search (rules, arith, r.carries)

-- where no sector of the log carries the stamp or a later one, a record may be begun
pub rests_begun : {L : Layout} {v : View} {image : Image} → Resting L v image → Guarded L v 0 0 image
rests_begun r = search (rules, arith, r.carries)

-- and with no part of it written none does
pub begun_rests : {L : Layout} {v : View} {so_far durable : ℕ} {image : Image} → so_far ≡ 0 → Guarded L v so_far durable image
    → Resting L v image
begun_rests none g = grind (arith, none, g.stored.keeps, g.carries)

-- part k may be there
pub Guarded-lost : {L : Layout} {v : View} {image : Image} (k : ℕ) {durable : ℕ} → Guarded L v k durable image
    → Guarded L v (k + 1) durable image
Guarded-lost k g = grind (arith, g.stored, g.carries)

module _ (L : Layout) (laws : Laws L) (v : View) (slots : HasSlots L v) where
  inside : (p : ℕ) → p < L.parts (length v.under_way) → L.offset (length v.under_way) p < L.slot_sectors
  inside p below = laws.inside (length v.under_way) p slots.under_way.fit.few below

  -- a write into the slot leaves the super, the head, the durable records and home
  keeps_stays : (before image : Image) (o : ℕ) (bytes : List ℕ) → o < L.slot_sectors
      → Holds (slot_at L v.shape (stamp_of v) + o) bytes before image → KeepsView L v before → KeepsView L v image
  keeps_stays before image o bytes small write k =
      let slot = stamp_of v % v.shape.slots in
      let low = in_log L.slot_sectors slot v.shape.slots o (mod_below (stamp_of v) v.shape.slots slots.some) small in
      let apart = λ (j x : ℕ). other_sector L.slot_sectors ((v.head + j) % v.shape.slots) slot (x - slot_at L v.shape (v.head + j)) o in
      let near = λ (j : ℕ). other_slot (v.head + j) (stamp_of v) v.shape.slots in
      Keeps-same L laws v.shape before image v.head v.records v.array (write.elsewhere 0 (λ e. omega arith))
      (write.elsewhere 1 (λ e. omega arith)) (λ j earlier x from to. grind (arith, write.elsewhere x, apart j x, near j, slots.room))
      (λ x from to. write.elsewhere x (λ e. omega (arith, slots.behind))) k

  -- no sector of the log carries a later stamp
  pub carries_below : (image : Image) (so_far durable : ℕ) → Guarded L v so_far durable image
      → CarriesBelowIn L v.shape image (stamp_of v + 1)
  carries_below image so_far durable g slot o t low small carries =
      let only = one_part L laws v.shape (stamp_of v) v.under_way slots.under_way slot o t in
      grind (arith, g.carries slot o low small, only)

  -- a part is there, of those that are written, or its sector does not carry the stamp
  pub part_or_free : (image : Image) (so_far durable p : ℕ) → Guarded L v so_far durable image → p < L.parts (length v.under_way)
      → ((p < so_far) × (image (at L v p) ≡ bytes_of L v p)) ⊎ IsFree L (stamp_of v) (L.offset (length v.under_way) p) (image (at L v p))
  part_or_free image so_far durable p g below =
      let same = λ (q : ℕ). laws.apart (length v.under_way) q p slots.under_way.fit.few in
      grind (arith, g.carries (stamp_of v % v.shape.slots) _ (mod_below (stamp_of v) v.shape.slots slots.some) (inside p below), same)

  -- a part that was not written now
  part_stays : {before image : Image} {k p : ℕ} {bytes : List ℕ} → Holds (at L v k) bytes before image
      → k < L.parts (length v.under_way) → p < L.parts (length v.under_way) → p ≢ k → image (at L v p) ≡ before (at L v p)
  part_stays {k = k} {p = p} write below small not = write.elsewhere (at L v p)
      (λ e. not (laws.apart (length v.under_way) p k slots.under_way.fit.few small below (omega (arith, e))))

  -- part k is written: of those that count it alone was not there
  pub Stored-write : {before image : Image} (k : ℕ) {count next : ℕ} → k < L.parts (length v.under_way) → ((p : ℕ) → p < next → p ≢ k
      → p < count) → Holds (at L v k) (bytes_of L v k) before image → Stored L v count before → Stored L v next image
  Stored-write {before} {image} k {next = next} below others write s =
      let keeps = keeps_stays before image _ (bytes_of L v k) (inside k below) write s.keeps in
      let parts : HasParts L v.shape (stamp_of v) v.under_way next image = λ p low small.
      grind (arith, cases_eq p k, write.here, part_stays {p = p} write below small, others p low, s.parts p) in
      search rules

  -- part k reached the medium
  pub Guarded-write : {before image : Image} (k : ℕ) {durable : ℕ} → k < L.parts (length v.under_way)
      → Holds (at L v k) (bytes_of L v k) before image → Guarded L v k durable before → Guarded L v (k + 1) durable image
  Guarded-write {before} {image} k below write g = record {
    stored = Stored-write k below (λ p low not. low) write g.stored;
    carries = λ slot o low small.
        grind (
          arith,
          cases_eq (2 + L.slot_sectors * slot + o) (at L v k),
          write.here,
          write.elsewhere,
          (Guarded-lost k g).carries slot o low small,
        );
  }

  -- Where a part but the last one was written with other blocks in it, the record under way is not whole.
  pub other_written : {before image : Image} (k : ℕ) {durable : ℕ} (other : List Entry)
      → IsRecordOf L v.shape.blocks (stamp_of v) other → length other ≡ length v.under_way → k + 1 < L.parts (length v.under_way)
      → Holds (at L v k) (L.part (stamp_of v) other k) before image → Guarded L v k durable before → Found L v image
  other_written {before} {image} k {durable} other is same early write g =
      let below : k < L.parts (length v.under_way) = omega arith in
      let stays = part_stays {p = last L v} write below (omega arith) (λ e. omega arith) in
      let or_free = part_or_free before k durable (last L v) g (omega arith) in
      let none = last_free_none L laws v.shape image (stamp_of v) (rw (← laws.last (length v.under_way)) (grind (arith, or_free, stays))) in
      let keeps = keeps_stays before image _ (L.part (stamp_of v) other k) (inside k below) write g.stored.keeps in
      let carries : CarriesBelowIn L v.shape image (stamp_of v + 1) = λ slot o t low small carries.
      let place : ℕ = 2 + L.slot_sectors * slot + o in
      let mine = one_part L laws v.shape (stamp_of v) other is slot o t k (image place) small in
      grind (arith, cases_eq place (at L v k), write.here, write.elsewhere, mine, carries_below before k durable g slot o t low small) in
      grind (arith, slots.room)

  -- with all its parts in its slot the record is whole, and the image keeps it with the durable ones
  pub Stored-durable : {image : Image} {count : ℕ} → L.parts (length v.under_way) ≤ count → Stored L v count image
      → KeepsView L (with_record v) image
  Stored-durable {image} all s =
      let there = λ (p : ℕ) (below : p < L.parts (length v.under_way)). s.parts p (omega arith) below in
      let whole : IsWholeIn L v.shape image (stamp_of v) v.under_way = search (rules, slots.under_way, there) in
      let more = with_records-append v.records v.under_way (home_of v.shape image) in
      let laid = with_blocks-same v.under_way (with_records v.records (home_of v.shape image)) v.array in
      let old = get_or_append_left v.records (v.under_way ∷ []) [] in
      grind (arith, cases_lt, length-append, s.keeps, get_or-append_seam v.records v.under_way [] [])

  -- the record under way is not whole, or all its parts are written, and it is, with its blocks: a cut leaves what it may
  pub guarded_leaves : (image : Image) (k durable : ℕ)
      → (L.parts (length v.under_way) ≤ k → L.before_barrier (length v.under_way) ≤ durable)
      → Guarded L v k durable image → MayLeave L v k image
  guarded_leaves image k durable early g =
      let or_free = λ (p : ℕ). part_or_free image k durable p g in
      let carries = carries_below image k durable g in
      let without : ¬ HasWholeIn L v.shape image (stamp_of v) → MayLeave L v k image = λ not.
      inl (record { keeps = g.stored.keeps; few = omega (arith, slots.room); ends = λ room. not; carries = carries }) in
      elim (or_free (last L v) (omega (arith, laws.some_parts (length v.under_way)))) [
        | inr free ↦ without (last_free_none L laws v.shape image (stamp_of v) (rw (← (laws.last (length v.under_way))) free))
        | inl commit ↦
            let all : L.parts (length v.under_way) ≤ k = omega (arith, commit.0) in
            elim (all_or_first
            (λ p. image (at L v p) ≡ bytes_of L v p)
            (λ p. (durable ≤ p) × IsFree L (stamp_of v) (L.offset (length v.under_way) p) (image (at L v p)))
            (L.parts (length v.under_way))
            (λ p small. grind (arith, cases_lt p durable, g.stored.parts p, or_free p small))) [
              | inl there ↦
                  let keeps = Stored-durable {count = k} all (record { keeps = g.stored.keeps; parts = λ p low small. there p small }) in
                  let none = none_carried L laws v.shape slots.some image (stamp_of v + 1) carries in
                  inr (all, grind (arith, length-append, slots.room, carries))
              | inr one ↦
                  without (λ whole.
                  let n = length whole.0 in
                  let count = laws.count v.shape.blocks (stamp_of v) whole.0 v.under_way (record_of whole.1) slots.under_way in
                  let same : length whole.0 ≡ length v.under_way =
                  grind (arith, count, whole.1.there (L.parts n - 1), laws.some_parts n, laws.last, commit.1) in
                  grind (arith, late_carries L laws v.shape image (stamp_of v) whole.0 one.0 whole.1, early all, one.1, one.3))
            ]
      ]

-- where the log stays, whole records stay
pub IsWholeIn-same : (L : Layout) → Laws L → (shape : Shape) → 1 ≤ shape.slots → (before image : Image)
    → Agree 2 (2 + L.slot_sectors * shape.slots) image before → (stamp : ℕ) (entries : List Entry)
    → IsWholeIn L shape before stamp entries → IsWholeIn L shape image stamp entries
IsWholeIn-same L laws shape some before image same stamp entries = IsWhole-same L laws shape before image stamp entries
    (λ x from to. same x (omega arith) (omega (arith, slot_inside L laws shape stamp some)))

-- where this view becomes that one, the record under way stays as far as it is written
pub record IsKept (L : Layout) (v w : View) (before image : Image) : Type 0 where
  pub stored : {count : ℕ} → Stored L v count before → Stored L w count image
  pub guarded : {k durable : ℕ} → Guarded L v k durable before → Guarded L w k durable image

module _ (L : Layout) (laws : Laws L) (v : View) (behind : 2 + L.slot_sectors * v.shape.slots ≤ v.shape.home)
    (few : length v.under_way ≤ L.most) {before image : Image} where
  -- a write before or behind the log leaves the log
  log_same : {s : ℕ} {bytes : List ℕ} → Holds s bytes before image → (2 ≤ s → v.shape.home ≤ s)
      → Agree 2 (2 + L.slot_sectors * v.shape.slots) image before
  log_same write apart x low high = write.elsewhere x (λ e. grind (arith, behind, apart))

  -- While the log stays, the record under way stays as far as it is written, whichever records are in front of it.
  kept : (head : ℕ) (records : List (List Entry)) → head + length records ≡ stamp_of v
      → Agree 2 (2 + L.slot_sectors * v.shape.slots) image before
      → (KeepsView L v before → KeepsView L (record v { head = head; records = records }) image)
      → IsKept L v (record v { head = head; records = records }) before image
  kept head records next log keeps =
      let stored : (count : ℕ) → Stored L v count before → Stored L (record v { head = head; records = records }) count image = λ count s.
      let stays = λ (p : ℕ) (small : p < L.parts (length v.under_way)). log (at L v p) (omega arith)
      (omega (arith, slot_inside L laws v.shape (stamp_of v) s.keeps.super.some_slots, laws.inside (length v.under_way) p few small)) in
      grind (arith, keeps s.keeps, s.parts, next) in
      record {
        stored = stored _;
        guarded = λ g. record {
          stored = stored _ g.stored;
          carries = λ slot o low small.
              grind (arith, next, log (2 + L.slot_sectors * slot + o), in_log _ slot _ o low small, g.carries slot o);
        };
      }

  -- a block that the records hide is written home
  pub kept_home : (b : ℕ) {bytes : List ℕ} → Hides v.records b → Holds (v.shape.home + b) bytes before image → IsKept L v v before image
  kept_home b hides write =
      let log = log_same write (λ low. omega arith) in
      kept v.head v.records refl log (λ g.
      let whole = λ (j : ℕ) (below : j < length v.records).
      IsWholeIn-same L laws v.shape g.super.some_slots before image log (v.head + j) (get_or v.records j []) (g.whole j below) in
      let hidden = hides (home_of v.shape image) (home_of v.shape before) in
      let others = with_records-same v.records (home_of v.shape image) (home_of v.shape before) in
      grind (arith, cases_eq, write.elsewhere, g))

  -- with the oldest record at home the head goes past it
  pub kept_head : {bytes : List ℕ} → 0 < length v.records → IsHead (v.head + 1) bytes → IsHomed v before
      → Holds 1 bytes before image → IsKept L v (with_less v) before image
  kept_head waits h homed write =
      let log = log_same write (λ low. omega arith) in
      let fewer = length-drop 1 v.records in
      kept (v.head + 1) (drop 1 v.records) (omega arith) log (λ g.
      let whole = λ (j : ℕ) (below : j < length (drop 1 v.records)). IsWholeIn-same L laws v.shape g.super.some_slots before image log
      (v.head + 1 + j) (get_or (drop 1 v.records) j []) (rw (get_or-drop 1 v.records j []) (grind (arith, g.whole (1 + j), fewer))) in
      let first = with_blocks-home (get_or v.records 0 []) (home_of v.shape before) in
      let others = with_records-same (drop 1 v.records) (home_of v.shape image) in
      let here = drop-cons v.records 0 [] waits in
      grind (arith, write.here, write.elsewhere, g))
