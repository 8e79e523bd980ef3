-- Every order of calls that keeps the rules is safe.
use Rattle.std.proofs.Common.{◌≡◌, ◌≢◌, inl, inr, ⊎_elim, ℕ, suc, ◌+◌, ◌-◌, ◌*◌, ◌<◌, ◌≤◌, ◌%◌, List, [], ◌∷◌, ◌++◌, length, get_or, refl}
use Rattle.std.proofs.{Common.{sym, ◌∙◌, arith, rules, subst, Result, length-append}, lemmas.Bool.{cases_eq, cases_lt}}
use Rattle.std.proofs.{lemmas.Bool.Decides.nat_tests, lemmas.Nat.mod_below, lemmas.List.{get_or_append_left, take-append-le}}
use Rattle.std.proofs.Math.Seq.{take-nil, get_or-append_seam}
use Rattle.std.specs.{Prelude.Ok}
use Rattle.medium.specs.{Medium.{State, Image, Sets, Gains, IsSound}, Moments.{EachCut, IsQuiet}, Performed.Performed}
use Rattle.medium.specs.{declared.fault.MediumFault.MediumFault, declared.medium_call.Call.Call}
use Rattle.medium.specs.declared.medium_call.Call.TheVariants.{Read, Write, Flush}
use Rattle.medium.proofs.Moments.{one_call, updated, updated_here, updated_elsewhere}
use Rattle.journal.specs.{Places.sectors_of, Record.Entry, Layout.{RestsIn, IsRecordOf, part_at}}
use Rattle.theorems.specs.Ordering.{Extent, Written, at_first, stamp_of, layout, with_part, with_home, without_parts, IsFlushedHome, Begins}
use Rattle.theorems.specs.Ordering.{Lands, WritesPart, WritesHome, WritesHead, MayBeNext, MayLeave, Opens, IsStep, AreSteps}
use Rattle.theorems.specs.Ordering.{EveryOrderIsSafe, IsSafe}
use Rattle.journal.proofs.{Formats.{laws_of, sectors_are}, Wholeness.{other_sector, other_slot, in_log}, Engine.one_part}
use Rattle.theorems.proofs.{OrderedArrays.block_of_record}
use Rattle.theorems.proofs.OrderedCuts.{IsBelow, IsAt, Between, Ordered, IsBegun, place, part_or_free, log_of, leaves}

same_below : (a : Extent) → IsBelow a a
same_below a = search (rules, arith)

below_through : {a b c : Extent} → IsBelow a b → IsBelow b c → IsBelow a c
below_through h k = grind (arith, h, k)

-- what holds of a log and its medium
pub record Kept (w : Written) (m : State) : Type 0 where
  pub ordered : Ordered w
  fits : sectors_of w.shape ≤ m.size
  cuts : (s : ℕ) (c : List ℕ) → m.may_leave s c → Between w s c
  now : (s : ℕ) → IsAt (log_of w) w.written s (m.content s)

-- a write that may be next
record IsWrite (w : Written) (place : ℕ) (bytes : List ℕ) (new : Written) : Type 0 where
  next : Extent
  new_is : new ≡ record w { written = next }
  ordered : Ordered (record w { written = next })
  higher : IsBelow w.written next
  here : IsAt (log_of w) next place bytes
  elsewhere : (t : ℕ) (c : List ℕ) → t ≢ place → IsAt (log_of w) w.written t c → IsAt (log_of w) next t c

-- a part of a record stands before home
before_home : {w : Written} → Ordered w → (stamp n p : ℕ) → n ≤ (layout w).most → p < (layout w).parts n
    → part_at (layout w) w.shape stamp n p < w.shape.home
before_home {w} o stamp n p few below =
    let small = (laws_of w.shape.format).inside n p few below in
    omega (arith, in_log (layout w).slot_sectors _ w.shape.slots _ (mod_below stamp w.shape.slots o.some_slots) small, o.behind)

-- a sector, once another one has a part
part_elsewhere : {v : Written} {e : Extent} (part s : ℕ) (c : List ℕ) → s ≢ place v part → IsAt v e s c → IsAt v (with_part part e) s c
part_elsewhere part s c not a = grind (arith, nat_tests, cases_eq, a)

module _ {w new : Written} (o : Ordered w) where
  part_is : {place : ℕ} {bytes : List ℕ} → WritesPart w place bytes new → IsWrite w place bytes new
  part_is r =
      let next : Extent = with_part r.part w.written in
      let b = o.begun r.some in
      let laws = laws_of w.shape.format in
      let n : ℕ = length w.under_way in
      let low = before_home o (stamp_of w) n r.part b.fit.fit.few r.inside in
      let slots = λ (j : ℕ). other_slot (w.first + j) (stamp_of w) w.shape.slots in
      let sectors = λ (j p : ℕ). other_sector (layout w).slot_sectors ((w.first + j) % w.shape.slots) (stamp_of w % w.shape.slots)
      ((layout w).offset (length (get_or w.records j [])) p) ((layout w).offset n r.part) in
      let higher : IsBelow w.written next = grind (arith, nat_tests) in
      let begun : 0 < n → IsBegun (record w { written = next }) = grind (arith, nat_tests, cases_eq, r.commit, b) in
      record {
        next = _;
        new_is = r.new_is;
        ordered = search (rules, arith, o, below_through o.below higher);
        higher = higher;
        here = rw (r.place_is, r.bytes_are) (grind (arith, nat_tests, low, laws.apart n r.part, laws.inside, slots, sectors, o.records));
        elsewhere = λ t c not a. part_elsewhere r.part t c (λ same. not (same ∙ sym r.place_is)) a;
      }

  home_is : {place : ℕ} {bytes : List ℕ} → WritesHome w place bytes new → IsWrite w place bytes new
  home_is r =
      let next : Extent = with_home r.entry.0 r.stamp w.written in
      let higher : IsBelow w.written next = grind (arith, nat_tests, r.order) in
      let durable : (b : ℕ) → next.home b < stamp_of w = λ b. grind (arith, nat_tests, o.durable b) in
      let behind : r.stamp + 1 - w.first ≡ suc (r.stamp - w.first) = omega (arith, r.least) in
      let old : r.stamp - w.first < length w.records = omega (arith, r.least, r.durable) in
      let is = block_of_record w.records w.opening (r.stamp - w.first) r.entry old (o.records _ old).fit.rising r.listed in
      record {
        next = _;
        new_is = r.new_is;
        ordered = search (rules, arith, o, below_through o.below higher);
        higher = higher;
        here = rw (r.place_is, r.bytes_are) (grind (arith, nat_tests, is, behind, o.behind, o.records, o.begun, before_home o, in_log));
        elsewhere = λ t c not a. grind (arith, nat_tests, r.place_is, a);
      }

  head_is : {place : ℕ} {bytes : List ℕ} → WritesHead w place bytes new → IsWrite w place bytes new
  head_is r =
      let higher : IsBelow w.written (record w.written { head = r.head }) = grind (arith, r.rises) in
      let passed = λ (stamp : ℕ) (from : w.first ≤ stamp) (low : stamp < r.head).
      ⊎_elim (o.passed stamp from) (λ now. r.passed stamp now low) (cases_lt stamp w.written.head) in
      record {
        next = _;
        new_is = r.new_is;
        ordered = search (rules, arith, o, below_through o.below higher);
        higher = higher;
        here = grind (arith, r.place_is, r.bytes_are, o.behind);
        elsewhere = λ t c not a. grind (arith, r.place_is, a);
      }

abbrev began : Written → List Entry → Written
began w entries = record w { under_way = entries; written = without_parts w.written; flushed = without_parts w.flushed }

abbrev landed : Written → Written
landed w = record w { records = w.records ++ w.under_way ∷ []; under_way = [] }

no_parts : {a c : Extent} → IsBelow a c → IsBelow (without_parts a) (without_parts c)
no_parts h = grind (arith, h)

-- a sector, once a record is begun
began_at : (w : Written) (entries : List Entry) {e : Extent} (s : ℕ) (c : List ℕ) → w.under_way ≡ [] → IsAt (log_of w) e s c
    → IsAt (log_of (began w entries)) (without_parts e) s c
began_at w entries s c none a = let zero : length w.under_way ≡ 0 = rw none refl in grind (arith, zero, a)

-- and once the one under way is durable
landed_at : {w new : Written} {e : Extent} (s : ℕ) (c : List ℕ) → Ordered w → Lands w new → IsBelow w.flushed e → IsBelow e w.written
    → IsAt (log_of w) e s c → IsAt (log_of (landed w)) e s c
landed_at {w} {e = e} s c o l from to a =
    let last = get_or-append_seam w.records w.under_way [] [] in
    let one = one_part (layout w) (laws_of w.shape.format) w.shape (stamp_of w) w.under_way (o.begun l.some).fit in
    grind (arith, length-append, get_or_append_left, take-append-le, cases_lt, to.home, o.durable, one, part_or_free a, a, l, from)

module _ {w new : Written} {m : State} (k : Kept w m) where
  pub begins_kept : Begins w new → Kept new m
  begins_kept b = rw b.new_is (record {
    ordered = search (rules, arith, k.ordered, no_parts k.ordered.below, b.slot, b.fit);
    fits = k.fits;
    cuts = λ s c left. let e = k.cuts s c left in (without_parts e.0, no_parts e.1, no_parts e.2, began_at w b.entries s c b.none e.3);
    now = λ s. began_at w b.entries s (m.content s) b.none (k.now s);
  })

  pub lands_kept : Lands w new → Kept new m
  lands_kept l =
      let o = k.ordered in
      let longer = length-append w.records (w.under_way ∷ []) in
      let last = get_or-append_seam w.records w.under_way [] [] in
      let records : (j : ℕ) → j < length (landed w).records
      → IsRecordOf (layout w) w.shape.blocks (w.first + j) (get_or (landed w).records j []) =
      λ j low. grind (arith, get_or_append_left, cases_lt j (length w.records), o.records j, (o.begun l.some).fit) in
      let passed : (stamp : ℕ) → w.first ≤ stamp → stamp < w.written.head → IsFlushedHome (landed w) stamp =
      λ stamp from low. rw (get_or_append_left w.records _ [] (stamp - w.first) (omega (arith, o.most))) (o.passed stamp from low) in
      rw l.new_is (record {
        ordered = search (rules, arith, o, (o.begun l.some).room);
        fits = k.fits;
        cuts = λ s c left. let e = k.cuts s c left in (e.0, e.1, e.2, landed_at s c o l e.1 e.2 e.3);
        now = λ s. landed_at s (m.content s) o l o.below (same_below w.written) (k.now s);
      })

abbrev opened : Written → Written
opened w = record w { records = []; under_way = []; written = at_first w.first; flushed = at_first w.first }

-- a sector of a log that is opened
opened_at : (w : Written) {image : Image} → RestsIn (layout w) w.shape image w.first [] w.opening
    → (s : ℕ) → IsAt (log_of (opened w)) (at_first w.first) s (image s)
opened_at w r s = grind (arith, take-nil, r.keeps, r.carries)

pub opened_kept : {w : Written} {m : State} → IsSound m → Opens w m → Kept w m
opened_kept {w} {m} sound opens =
    let rest = opens.rests m.content sound.holds_content in
    let below = same_below (at_first w.first) in
    let behind : 2 + (layout w).slot_sectors * w.shape.slots ≤ w.shape.home = rw (sectors_are w.shape.format) rest.keeps.super.home_is.0 in
    subst (λ x. Kept x m) (sym opens.is) (record {
      ordered = search (rules, arith, rest.keeps.super.some_slots, rest.keeps.head_is.least);
      fits = opens.fits;
      cuts = λ s c left.
          let rests = opens.rests (updated m.content s c) (λ t. ⊎_elim (λ same. rw (updated_here m.content s c t same, same) left)
          (λ not. rw (updated_elsewhere m.content s c t not) (sound.holds_content t)) (cases_eq t s)) in
          (at_first w.first, below, below, rw (updated_here m.content s c s refl) at (opened_at w rests s));
      now = opened_at w rest;
    })

wrote : {w new : Written} {m : State} → Kept w m → (sets : Sets) {place : ℕ} {bytes : List ℕ} (is : IsWrite w place bytes new)
    → Gains place bytes m.may_leave sets → (s : ℕ) (c : List ℕ) → sets s c → Between (record w { written = is.next }) s c
wrote k sets is gains s c left = ⊎_elim (λ was. let e = k.cuts s c was in (e.0, e.1, below_through e.2 is.higher, e.3))
    (λ put. (is.next, is.ordered.below, same_below is.next, rw (put.0, put.1) is.here)) (gains s c left)

module _ {w : Written} {m n : State} (k : Kept w m) (bytes : List ℕ) (new : Written) {got : List ℕ} where
  -- a call that may be next, made or refused, leaves what a cut may leave
  call_cuts : {result : Result (Unit {0}) MediumFault} (call : Call) → MayBeNext call bytes w new → Performed call bytes got result m n
      → EachCut (MayLeave m.size w) n
  call_cuts (Write place) may made image cut =
      let is = ⊎_elim (part_is k.ordered) (⊎_elim (home_is k.ordered) (head_is k.ordered)) may in
      leaves (record w { written = is.next }) is.ordered (λ s. wrote k n.may_leave is made.adds s (image s) (cut s)) m.size k.fits
  call_cuts call may made image cut = leaves w k.ordered (λ s. k.cuts s (image s) (made.adds s (image s) (cut s))) m.size k.fits

  pub call_kept : (call : Call) → MayBeNext call bytes w new → Performed call bytes got (Ok tt) m n → Kept new n
  call_kept (Read place) may made = rw may (record {
    ordered = k.ordered;
    fits = rw made.passes.size_stays k.fits;
    cuts = λ s c left. k.cuts s c (made.adds s c left);
    now = λ s. rw (made.changes s) (k.now s);
  })
  call_kept (Write place) may made =
      let is = ⊎_elim (part_is k.ordered) (⊎_elim (home_is k.ordered) (head_is k.ordered)) may in
      rw is.new_is (record {
        ordered = is.ordered;
        fits = rw made.passes.size_stays k.fits;
        cuts = wrote k n.may_leave is made.adds;
        now = λ s. elim (cases_eq s place) [
          | inl same ↦ rw (same, made.done.here) is.here
          | inr not ↦ rw (made.done.elsewhere s not) (is.elsewhere s (m.content s) not (k.now s))
        ];
      })
  call_kept Flush may made =
      let o = k.ordered in
      let below = same_below w.written in
      let begun : 0 < length w.under_way → IsBegun (record w { flushed = w.written }) = λ some. grind (arith, o.begun some, o.below) in
      let passed : (stamp : ℕ) → w.first ≤ stamp → stamp < w.written.head → IsFlushedHome (record w { flushed = w.written }) stamp =
      λ stamp from low e has. omega (arith, o.passed stamp from low e has, o.below.home e.0) in
      let now : (s : ℕ) → IsAt (log_of (record w { flushed = w.written })) w.written s (m.content s) =
      λ s. grind (arith, k.now s, o.below.head) in
      rw may (record {
        ordered = search (rules, arith, o);
        fits = rw made.passes.size_stays k.fits;
        cuts = λ s c left. (w.written, below, below, rw (made.done.1 s c left) (now s));
        now = λ s. rw (made.changes s) (now s);
      })

-- so do calls that write nothing
pub quiet_kept : {w : Written} {m n : State} → Kept w m → IsQuiet m n → Kept w n
quiet_kept k quiet = record {
  ordered = k.ordered;
  fits = rw quiet.size_stays k.fits;
  cuts = λ s c left. k.cuts s c (quiet.sets_shrink s c left);
  now = λ s. rw (quiet.content_stays s) (k.now s);
}

module _ {M : Type 0} (state : M → State) (sound : (m : M) → IsSound (state m)) where
  step_kept : {w new : Written} {m n : M} → Kept w (state m) → IsStep state w m new n → Kept new (state n)
  step_kept {new = new} k step = ⊎_elim (λ still. rw still.0 (⊎_elim (begins_kept k) (lands_kept k) still.1))
      (λ c. call_kept k c.bytes new c.call c.may c.made) step

  steps_kept : {w new : Written} {m n : M} (steps : List (Written × M)) → Kept w (state m) → AreSteps state w m steps new n
      → Kept new (state n)
  steps_kept [] k are = rw (are.0, are.1) k
  steps_kept {w = w} {new = new} {m = m} {n = n} (mid ∷ steps) k are = steps_kept {w = mid.0} {m = mid.1} steps (step_kept k are.0) are.1

  pub kept_safe : {w : Written} {n : M} → Kept w (state n) → IsSafe state w n
  kept_safe {w} {n} k =
      let rests : EachCut (MayLeave (state n).size w) (state n) =
      λ image cut. leaves w k.ordered (λ s. k.cuts s (image s) (cut s)) (state n).size k.fits in
      record {
        rests = rests;
        calls = λ call bytes got result next after may made.
            one_call _ (state n) (state after) (sound n) made.passes rests (call_cuts k bytes next call may made);
      }

  pub every_order : EveryOrderIsSafe state
  every_order w new m n steps opens are = kept_safe (steps_kept steps (opened_kept (sound m) opens) are)
