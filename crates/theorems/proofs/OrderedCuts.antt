-- What a cut leaves of a log that is written in order.
use Rattle.std.proofs.Common.{◌≡◌, ◌≢◌, ◌⊎◌, inl, inr, ⊎_elim, ℕ, ◌+◌, ◌-◌, ◌*◌, ◌<◌, ◌≤◌, List, [], ◌∷◌, length, get_or, take, drop, arith}
use Rattle.std.proofs.Common.{refl, true, false, rules, length-drop, get_or-drop, length-append}
use Rattle.std.proofs.lemmas.Bool.{cases_Bool, cases_lt, cases_eq}
use Rattle.medium.specs.{Medium.Image}
use Rattle.logical_blocks.specs.Blocks.{Array}
use Rattle.journal.specs.{Places.{Shape, sectors_of}, Record.{Entry, with_records, home_of}, Sectors.{IsSuper, IsHead}, Formats.layout_of}
use Rattle.journal.specs.Layout.{IsRecordOf, IsFree, LoggedIn, CarriesBelowIn, part_at}
use Rattle.journal.specs.{Staged.{View, KeepsView, Guarded, HasSlots, MayLeave as LeavesOf}, Standing.IsOurs}
use Rattle.theorems.specs.Ordering.{Extent, Written, at_first, layout, parts_of, barrier_of, stamp_of, array_of, IsFlushedHome, MayLeave}
use Rattle.journal.proofs.{Formats.laws_of, Wholeness.all_or_first, Engine.{guarded_leaves, rests_found}}
use Rattle.theorems.proofs.{OrderedArrays.goes_on_home}

-- this is no further than that
pub record IsBelow (a c : Extent) : Type 0 where
  pub head : a.head ≤ c.head
  pub parts : (p : ℕ) → a.parts p ≡ true → c.parts p ≡ true
  pub home : (b : ℕ) → a.home b ≤ c.home b

-- the array that the records up to this stamp make
abbrev pub array_at : Written → ℕ → Array
array_at v stamp = with_records (take (stamp + 1 - v.first) v.records) v.opening

-- where part p of the record under way stands
abbrev pub place : Written → ℕ → ℕ
place v p = part_at (layout v) v.shape (stamp_of v) (length v.under_way) p

-- What a sector holds where all is written as far as this: only a written part of the record under way carries its stamp.
pub record IsAt (v : Written) (extent : Extent) (s : ℕ) (bytes : List ℕ) : Type 0 where
  pub super : s ≡ 0 → IsSuper v.shape bytes
  pub head : s ≡ 1 → IsHead extent.head bytes
  pub whole : (j p : ℕ) → j < length v.records → v.flushed.head ≤ v.first + j → p < (layout v).parts (length (get_or v.records j []))
      → s ≡ part_at (layout v) v.shape (v.first + j) (length (get_or v.records j [])) p
      → bytes ≡ (layout v).part (v.first + j) (get_or v.records j []) p
  pub parts : 0 < length v.under_way → (p : ℕ) → p < parts_of v → extent.parts p ≡ true → s ≡ place v p
      → bytes ≡ (layout v).part (stamp_of v) v.under_way p
  pub carries : (slot o : ℕ) → slot < v.shape.slots → o < (layout v).slot_sectors → s ≡ 2 + (layout v).slot_sectors * slot + o
      → (0 < length v.under_way → (p : ℕ) → p < parts_of v → extent.parts p ≡ true → s ≢ place v p) → IsFree (layout v) (stamp_of v) o bytes
  pub home : (b : ℕ) → b < v.shape.blocks → s ≡ v.shape.home + b → bytes ≡ array_at v (extent.home b) b

-- so it is of a written part, or free
pub part_or_free : {v : Written} {extent : Extent} {s : ℕ} {bytes : List ℕ} → IsAt v extent s bytes → (slot o : ℕ)
    → slot < v.shape.slots → o < (layout v).slot_sectors → s ≡ 2 + (layout v).slot_sectors * slot + o
    → ((p : ℕ) × (p < parts_of v) × (extent.parts p ≡ true) × (s ≡ place v p)) ⊎ IsFree (layout v) (stamp_of v) o bytes
part_or_free {v} {extent = e} {s = s} a slot o low small is = ⊎_elim (λ none. inr (a.carries slot o low small is (λ _. none)))
    (λ one. inl (one.0, one.1, one.3.0, one.3.1)) (all_or_first (λ p. e.parts p ≡ true → s ≢ place v p)
    (λ p. (e.parts p ≡ true) × (s ≡ place v p)) (parts_of v) (λ p _. grind (arith, cases_Bool (e.parts p), cases_eq s (place v p))))

-- what of a log that is about: all but how far it is written
abbrev pub log_of : Written → Written
log_of w = record w { written = at_first 0; flushed = at_first w.flushed.head }

-- a cut may leave a sector as far as it is flushed, as far as it is written, or between
abbrev pub Between : Written → ℕ → List ℕ → Type 0
Between w s bytes = (e : Extent) × IsBelow w.flushed e × IsBelow e w.written × IsAt (log_of w) e s bytes

-- a record is under way
pub record IsBegun (w : Written) : Type 0 where
  pub room : stamp_of w < w.flushed.head + w.shape.slots
  pub fit : IsRecordOf (layout w) w.shape.blocks (stamp_of w) w.under_way
  pub commit : (p : ℕ) → barrier_of w ≤ p → w.written.parts p ≡ true → (q : ℕ) → q < barrier_of w → w.flushed.parts q ≡ true

-- what the rules keep of what was written
pub record Ordered (w : Written) : Type 0 where
  pub below : IsBelow w.flushed w.written
  pub some_slots : 1 ≤ w.shape.slots
  pub behind : 2 + (layout w).slot_sectors * w.shape.slots ≤ w.shape.home
  pub least : w.first ≤ w.flushed.head
  pub most : w.written.head ≤ stamp_of w
  pub full : stamp_of w ≤ w.flushed.head + w.shape.slots
  pub begun : 0 < length w.under_way → IsBegun w
  pub records : (j : ℕ) → j < length w.records → IsRecordOf (layout w) w.shape.blocks (w.first + j) (get_or w.records j [])
  pub durable : (b : ℕ) → w.written.home b < stamp_of w
  pub passed : (stamp : ℕ) → w.first ≤ stamp → stamp < w.written.head → IsFlushedHome w stamp

-- an image that stands for this is ours
ours : {size : ℕ} {shape : Shape} {image : Image} {head next : ℕ} {records : List (List Entry)} {array : Array} → sectors_of shape ≤ size
    → head + length records + 1 ≡ next → LoggedIn (layout_of shape.format) shape image head records array
    → IsOurs size shape image array next
ours fits is found = let carries = rw is at found.carries in search (rules, found.keeps, found.few, found.ends, is)

module _ (w : Written) (o : Ordered w) {image : Image} (f : (s : ℕ) → Between w s (image s)) where
  -- how many records the head of this image has passed, and what is behind it
  abbrev past : ℕ
  past = (f 1).0.head - w.first

  abbrev view : View
  view = record { shape = w.shape; head = (f 1).0.head; records = drop past w.records; under_way = w.under_way; array = array_of w }

  next_is : view.head + length view.records ≡ stamp_of w
  next_is = omega (arith, length-drop past w.records, (f 1).1.head, (f 1).2.head, o.least, o.most)

  keeps : KeepsView (layout w) view image
  keeps = record {
    super = (f 0).3.super refl;
    head_is = (f 1).3.head refl;
    whole = λ j below.
        let from : w.flushed.head ≤ w.first + (past + j) = omega (arith, (f 1).1.head, o.least) in
        let inside : past + j < length w.records = omega (arith, below, length-drop past w.records) in
        let same : w.first + (past + j) ≡ view.head + j = omega (arith, (f 1).1.head, o.least) in
        let there = λ (p : ℕ) (low : p < (layout w).parts (length (get_or w.records (past + j) []))).
        (f _).3.whole (past + j) p inside from low refl in
        let fit = o.records (past + j) inside in
        rw (get_or-drop, ← same) (search (rules, fit, there));
    blocks = λ b inside.
        let home = f (w.shape.home + b) in
        goes_on_home w.records w.opening (home_of w.shape image) b (home.0.home b + 1 - w.first) past (home.3.home b inside refl)
        (λ i from to below e has same.
        let least : w.flushed.home e.0 ≤ home.0.home b = rw same (home.1.home b) in
        let its : w.first + i - w.first ≡ i = omega arith in
        omega (arith, o.passed (w.first + i) (omega arith) (omega (arith, (f 1).2.head, to)) e (rw its has), from));
  }

  -- the parts below `durable` are flushed, and no others are written than those below `so_far`
  guarded : 0 < length w.under_way → (so_far durable : ℕ) → ((p : ℕ) → p < durable → w.flushed.parts p ≡ true)
      → ((p : ℕ) → p < parts_of w → w.written.parts p ≡ true → p < so_far) → Guarded (layout w) view so_far durable image
  guarded some so_far durable there early = record {
    stored = record {
      keeps = keeps;
      parts = λ p low below. rw next_is ((f _).3.parts some p below ((f _).1.parts p (there p low)) refl);
    };
    carries = λ slot at low small. rw next_is (elim (part_or_free (f _).3 slot at low small refl) [
      | inl q ↦ inl (record {
        part = q.0;
        early = early q.0 q.1 ((f _).2.parts q.0 q.2);
        inside = q.1;
        place_is = q.3;
        there = (f _).3.parts some q.0 q.1 q.2 q.3;
      })
      | inr free ↦ inr free
    ]);
  }

  -- the record under way is whole or not
  some_under_way : 0 < length w.under_way → IsBegun w → LeavesOf (layout w) view (parts_of w) image
  some_under_way some begun =
      let fit : IsRecordOf (layout w) w.shape.blocks (view.head + length view.records) w.under_way = rw next_is begun.fit in
      let slots : HasSlots (layout w) view = grind (arith, o.some_slots, o.behind, begun.room, (f 1).1.head, next_is) in
      let cut = guarded_leaves (layout w) (laws_of w.shape.format) view slots image in
      elim (all_or_first (λ p. w.flushed.parts p ≡ true) (λ p. w.flushed.parts p ≡ false) (barrier_of w)
      (λ p below. cases_Bool (w.flushed.parts p))) [
        | inl all ↦ cut (parts_of w) (barrier_of w) (λ _. omega arith) (guarded some (parts_of w) (barrier_of w) all (λ p below _. below))
        | inr one ↦
            let early : (p : ℕ) → p < parts_of w → w.written.parts p ≡ true → p < barrier_of w = λ p below is.
            ⊎_elim (λ low. low) (λ high. absurd (cc (begun.commit p high is one.0 one.1, one.3))) (cases_lt p (barrier_of w)) in
            ⊎_elim inl (λ found. inr (omega arith, found.1)) (cut (barrier_of w) 0
            (λ all. omega (arith, all, (laws_of w.shape.format).last_is_behind (length w.under_way)))
            (guarded some (barrier_of w) 0 (λ p below. absurd (omega arith)) early))
      ]

  pub leaves : (size : ℕ) → sectors_of w.shape ≤ size → MayLeave size w image
  leaves size fits = elim (cases_lt 0 (length w.under_way)) [
    | inr none ↦
        let carries : CarriesBelowIn (layout w) w.shape image (view.head + length view.records) = λ slot at t low small carries.
        rw next_is ((f _).3.carries slot at low small refl (λ some. absurd (omega arith)) t carries) in
        inl (ours fits (omega (arith, next_is)) (rests_found (layout w) (laws_of w.shape.format) view
        (omega (arith, next_is, o.full, (f 1).1.head)) (record { keeps = keeps; carries = carries })))
    | inl some ↦ ⊎_elim (λ found. inl (ours fits (omega (arith, next_is)) found))
        (λ found. inr (some, ours fits (omega (arith, next_is, length-append view.records (w.under_way ∷ []))) found.1))
        (some_under_way some (o.begun some))
  ]
