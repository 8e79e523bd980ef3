-- What a store on top of a log cites, and each step of the record under way: what the log and its medium hold after it.
use Rattle.std.proofs.Common.{◌≡◌, ◌≢◌, ◌⊎◌, inl, ℕ, ◌+◌, ◌-◌, ◌<◌, ◌≤◌, List, [], ◌∷◌, ◌++◌, length, refl, sym, ◌∙◌, ap, arith, rules}
use Rattle.std.proofs.{Common.{length-append, inr, ◌*◌, get_or, Bool, true, false, map, Result, OnOk}, lemmas.List.nil_from_length}
use Rattle.std.proofs.{lemmas.List.{map-append, get_or_append_left}, lemmas.Result.on_ok_weaker, lemmas.Bool.{cases_eq, cases_lt}}
use Rattle.std.proofs.lemmas.List.Elements.{All-push}
use Rattle.medium.specs.{Medium.{State, Image, CutLeaves, IsSound, Holds, Gains}, Moments.{EachCut, LeavesOnly}}
use Rattle.medium.specs.{declared.fault.MediumFault.MediumFault, declared.medium_call.Call.TheVariants.{Write, Flush}, Performed.IsDone}
use Rattle.medium.specs.{Performed.{IsWithin, Performed}, declared.medium_call.Call.Call}
use Rattle.medium.proofs.Moments.{updated_elsewhere, shrunk, one_call, each_write, each_flush}
use Rattle.logical_blocks.specs.Blocks.{Array}
use Rattle.journal.specs.{Places.{Shape, sectors_of, first_home}, Format2.firsts_of, Standing.{Keeps, IsOurs}, Layout.{Layout, part_at}}
use Rattle.journal.specs.{Layout.IsRecordOf, Formats.layout_of, Record.{Entry, with_blocks, entries_of, numbers_of}}
use Rattle.journal.proofs.{BatchEntries.{numbers_of_batch, length_of_batch, sized_batch}, Formats.laws_of, Engine.rests_found}
use Rattle.journal.proofs.Engine.{Guarded-lost, Guarded-write, Stored-write, other_written, Stored-durable, carries_below}
use Rattle.redo_log.specs.Value.{LogValue, HasRoom, IsCovered, retire_steps_of, behind_oldest, begun, died, settled, IsBatch}
use Rattle.redo_log.specs.{Value.{empty_from, steps_of, steps_for, IsStepped}, Held.{View, resting_view, IsStored, IsGuarded, HasNoRecord}}
use Rattle.redo_log.specs.Held.{with_begun, made_of, turned_of, needed_of, MayLeave, Safe, with_passed, image_view, HoldsView, with_record}
use Rattle.redo_log.specs.{Held.{view_stepped, written_of, HasDurable, HasHead, AreHome, AreSized, kept_copies}, Shown.flush_of}
use Rattle.redo_log.specs.{declared.progress.Progress.Progress, declared.progress.Progress.TheVariants.{More, Durable}, Told.IsNextCall}
use Rattle.redo_log.specs.{Told.IsFlushDue, Steps.StepCalled}
use Rattle.redo_log.proofs.RecordSteps.{steps_some, steps_are, due_or_not, all_written, barrier_written, part_written, needed_covered}
use Rattle.redo_log.proofs.RecordSteps.{needed_one, made_is, none_made, IsLog, durable_of, durable_alone, durable_more, step_flushed}
use Rattle.redo_log.proofs.RecordSteps.{call_made, leaves_log, within_more, one_sent, few_sends, reads_nothing, reads_back}
use Rattle.redo_log.proofs.{KeptCopies.{begun_kept, bytes_of_batch, durable_copies, none_kept}, HeldLog.{rests_safe, safe_rests}}
use Rattle.redo_log.proofs.HeldLog.{keeps_stored, with_newest, same_head, put_head, put_safe, has_view, Stores-stays, count, under_count}
use Rattle.redo_log.proofs.HeldLog.{going_held, Stands, stands_idle, same_stamp, stands_front, guard_logged, guard_leaves, safe_here}
use Rattle.redo_log.proofs.HeldLog.{counts_of, many, stands_then, stands_now, goes_on, record_entries, before_home, durable_kept, dead_held}
pub use Rattle.redo_log.proofs.HeldLog.{quiet_held, put_head, home_is}

-- a new log holds a medium that has its head and its blocks at home, and whose log is fresh
pub empty_holds : (shape : Shape) (next ring : ℕ) (keeps_blocks : Bool) (array : Array) (ours : Bool) (m : State)
    → sectors_of shape ≤ m.size → Keeps shape m.content next [] array → (ours ≡ true → EachCut (HasNoRecord shape next array) m)
    → HoldsView (empty_from shape next ring keeps_blocks) m (resting_view array ours)
empty_holds shape next ring keeps_blocks array ours m fits keeps fresh =
    let view : View = resting_view array ours in
    let log : LogValue = empty_from shape next ring keeps_blocks in
    let copies : [] ≡ kept_copies keeps_blocks [] [] = none_kept keeps_blocks in
    let leaves : ours ≡ true → EachCut (MayLeave m.size log (resting_view array ours)) m = λ is image cut.
    inl (has_view [] view fits (omega arith)
    (rests_found _ (laws_of _) (image_view shape next view) (omega arith) (fresh is image cut))) in
    let stored = keeps_stored view refl keeps in
    let guards : ours ≡ true → IsGuarded log (resting_view array ours) m =
    λ is image cut. with_newest (rests_safe view refl (fresh is image cut)) (λ none. absurd (omega (arith, none))) in
    search (rules, arith)

-- a log that is given up holds what a cut may leave
pub died_holds : (log : LogValue) (m : State) (view : View) → HoldsView log m view → HoldsView (died log) m view
died_holds log m view holds =
    going_held holds log.steps_left log.retire_steps_left log.ahead true m refl holds.leaves (λ live. cc live) (λ live ours. cc live)

-- a flush that was made stands for the one that the oldest record needs
pub settled_holds : (log : LogValue) (m : State) (view : View) → HoldsView log m view → IsCovered log
    → HoldsView (settled log) m view
settled_holds log m view holds covered =
    let needs = needed_covered log covered in
    going_held holds log.steps_left (log.retire_steps_left - 1) log.ahead log.dead m refl
    (λ ours image cut. grind (arith, covered.flushes, holds.leaves ours image cut))
    (λ live. Stores-stays (holds.stores live) _ _ m.content (λ s. refl) (omega arith)
    (λ i low high. omega (arith, covered.flushes, count holds 0)))
    (λ live ours. rw needs at (holds.guards live ours))

-- whichever head an image has, it has the blocks of one that the log's guard speaks of
pub blocks_guarded : (log : LogValue) (m : State) (view : View) → IsSound m → HoldsView log m view → log.dead ≡ false
    → view.ours ≡ true → (image : Image) → CutLeaves m.may_leave image
    → Safe log.shape log.head view (made_of log) (put_head m image)
    × ((x : ℕ) → x ≢ 1 → put_head m image x ≡ image x)
blocks_guarded log m view sound holds live ours image cut =
    (put_safe sound (holds.stores live) (holds.guards live ours) cut, λ x not. updated_elsewhere image 1 (m.content 1) x not)

-- the image is ours and stands for the log's array, or with the record under way
pub may_leave_ours : (size : ℕ) (log : LogValue) (view : View) (image : Image) → MayLeave size log view image
    → IsOurs size log.shape image view.array (log.head + length view.records + 1)
    ⊎ ((0 < log.steps_left) × IsOurs size log.shape image (with_blocks view.under_way view.array)
    (log.head + length view.records + 2))
may_leave_ours size log view image found =
    grind (arith, found, length-append view.records (view.under_way ∷ []))

-- a record is begun in a log with room
pub begun_holds : (log : LogValue) (m : State) (view : View) (numbers bytes : List ℕ) → HoldsView log m view → HasRoom log
    → IsBatch log.shape numbers bytes
    → HoldsView (begun numbers (firsts_of (entries_of numbers bytes)) bytes log) m (with_begun (entries_of numbers bytes) view)
begun_holds log m view numbers bytes holds room batch =
    let E : List Entry = entries_of numbers bytes in
    let next : LogValue = begun numbers (firsts_of (entries_of numbers bytes)) bytes log in
    let many : length (entries_of numbers bytes) ≡ length numbers = length_of_batch numbers bytes in
    let none_yet : view.under_way ≡ [] =
    nil_from_length view.under_way (omega (arith, under_count holds, ap (λ (l : List ℕ). length l) room.none_under_way)) in
    let behind : behind_oldest next ≡ behind_oldest log + retire_steps_of numbers = grind (arith, room.none_under_way) in
    let made : made_of next ≡ 0 = omega (arith, made_is next (steps_some log.shape.format (length numbers))) in
    let under = numbers_of_batch numbers bytes in
    let sized = sized_batch numbers bytes batch.size in
    let copies = begun_kept log.keeps view.records E bytes log.copies (rw none_yet at holds.copies) (omega (arith, many, batch.some))
    (bytes_of_batch numbers bytes batch.size) in
    let leaves : view.ours ≡ true → EachCut (MayLeave m.size next (with_begun E view)) m = λ ours image cut.
    grind (arith, holds.leaves ours image cut, room.no_steps, behind) in
    let stores : log.dead ≡ false → IsStored next (with_begun E view) m = λ live.
    let stored = keeps_stored (with_begun E view) made (holds.stores live).stored.keeps in
    search (rules, arith, holds.stores live) in
    let guards : log.dead ≡ false → view.ours ≡ true → IsGuarded next (with_begun E view) m = λ live ours image cut.
    let g = holds.guards live ours image cut in
    let idle = safe_rests (with_passed g.passed view) (none_made log room.no_steps) g.safe in
    same_head g (rests_safe (with_passed g.passed (with_begun E view)) made idle) (λ is. g.flushed (grind (arith, behind, is))) in
    search (rules, arith, holds)

-- ---- each step of the record under way

module _ {log : LogValue} (is : IsLog log) (live : log.dead ≡ false) (some : 0 < log.steps_left) {old : State}
    (sound : IsSound old) {view : View} (hv : HoldsView log old view) where
  abbrev L : Layout
  L = layout_of log.shape.format

  abbrev n : ℕ
  n = length view.under_way

  -- the stamp of the record
  abbrev stamp : ℕ
  stamp = log.head + length view.records

  -- how many parts of it are written
  abbrev k : ℕ
  k = written_of log.shape view (made_of log)

  late : L.before_barrier n < L.parts n
  late = (laws_of log.shape.format).last_is_behind n

  -- the steps are those of the layout
  all_steps : steps_of log.shape.format log.under_way ≡ L.parts n + 1 + flush_of (L.before_barrier n)
  all_steps = ap (λ (k : ℕ). steps_for log.shape.format k) (under_count hv) ∙ steps_are log.shape.format n

  -- its records stand, also after one call more
  stands : Stands log.shape log.head view log.steps_left (made_of log)
  stands = stands_now hv is

  abbrev more_log : LogValue
  more_log = record log { steps_left = log.steps_left - 1 }

  then_made : 1 < log.steps_left → made_of more_log ≡ made_of log + 1
  then_made more = omega (arith, made_is log some, made_is more_log (omega (arith, more)), is.most_left, more)

  -- ---- the next call of a record with these blocks
  module _ {numbers : List ℕ} (bytes : List ℕ) (same : numbers ≡ log.under_way) (size : length bytes ≡ 512 * length numbers)
      {call : Call} {sector last : List ℕ} {result : Result (Unit {0}) MediumFault} {new : State}
      (told : IsNextCall (layout_of log.shape.format) log.shape (log.head + length log.waiting) (entries_of numbers bytes)
      (made_of log) call sector) (performed : Performed call sector last result old new)
    where
      abbrev other : List Entry
      other = entries_of numbers bytes

      other_count : length other ≡ n
      other_count = length_of_batch numbers bytes ∙ ap (λ (l : List ℕ). length l) same ∙ under_count hv

      other_is : IsRecordOf L log.shape.blocks stamp other
      other_is = record_entries log.shape stamp numbers other is.sized (rw (same, ← many hv) (is.record_is some))
          (sym (numbers_of_batch numbers bytes)) (sized_batch numbers bytes size)

      next : IsNextCall L log.shape stamp other (made_of log) call sector
      next = rw (many hv) at told

      flushes : IsFlushDue L n (made_of log) → call ≡ Flush
      flushes due = next.0 (rw other_count due)

      -- ---- the flush at the barrier
      barrier_flushed : 1 < log.steps_left → IsFlushDue L n (made_of log) → IsDone call sector last old new
          → HoldsView more_log new view
      barrier_flushed more due done =
          let wrote = rw (flushes due) at done in
          let few : k < L.parts n = omega (arith, all_written _ _ (made_of log) late, made_is log some, more, all_steps, is.most_left) in
          let early : (0 < L.before_barrier n) × (made_of log ≡ L.before_barrier n) = grind (arith, due, few) in
          let after = barrier_written _ (made_of log) (made_of more_log) (then_made more) early.0 early.1 in
          let s = hv.stores live in
          goes_on hv is (log.steps_left - 1) log.retire_steps_left log.ahead new (omega arith) performed.passes.size_stays live
          (Stores-stays s (made_of more_log) (turned_of log) new.content wrote.0 (omega (arith, after.0)) (λ i low high. low))
          (λ ours. each_flush _ old.content new wrote.1 (with_newest
          (rw (after.0, after.1) (record { stored = s.stored; carries = (safe_here sound s (hv.guards live ours)).carries }))
          (λ one i inside. s.copied i (omega (arith, inside, needed_one log one, count hv 0)) inside)))

      -- ---- a flush of all parts: the record is durable
      all_flushed : log.steps_left ≡ 1 → IsDone call sector last old new → HoldsView (durable_of log) new (with_record view)
      all_flushed last done =
          let all : L.parts n ≤ k = omega (arith, all_written _ _ (made_of log) late, made_is log some, is.most_left, last, all_steps) in
          let wrote = rw (flushes (inr all)) at done in
          let longer = length-append view.records (view.under_way ∷ []) in
          let fits : sectors_of log.shape ≤ new.size = omega (arith, performed.passes.size_stays, hv.fits) in
          let still : new.content ≡ old.content = λ i s. wrote.0 s i in
          let s = hv.stores live in
          let durable : log.waiting ++ log.under_way ∷ [] ≡ map (λ r. numbers_of r) (view.records ++ view.under_way ∷ []) =
          rw (hv.durable, hv.under_way) (sym (map-append (λ r. numbers_of r) view.records (view.under_way ∷ []))) in
          let copied : AreHome log.shape (get_or (view.records ++ view.under_way ∷ []) 0 [])
          (turned_of (durable_of log)) old.content =
          let first = get_or_append_left view.records (view.under_way ∷ []) [] 0 in λ i low high.
          grind (arith, cases_eq (length view.records) 0, durable_alone log is some, durable_more log, many hv, s.copied i, first) in
          let keeps = Stored-durable _ (laws_of _) _ (stands.slots some) all s.stored in
          let counts = counts_of (view.records ++ view.under_way ∷ []) durable 0 in
          let guards : view.ours ≡ true → IsGuarded (durable_of log) (with_record view) new = λ ours.
          let carries = carries_below _ (laws_of _) _ (stands.slots some) old.content _ _
          (safe_here sound s (hv.guards live ours)) in
          each_flush _ old.content new wrote.1
          (with_newest (rests_safe (with_record view) refl (grind (arith, keeps, carries, longer)))
          (λ one i inside. copied i (omega (arith, inside, needed_one (durable_of log) one, counts)) inside)) in
          let few : length (view.records ++ view.under_way ∷ []) ≤ log.shape.slots =
          omega (arith, (stands.slots some).room, longer) in
          let some_blocks : 0 < length view.under_way = (stands.slots some).under_way.fit.some in
          let firsts = durable_kept log.shape.format view.records view.under_way log.firsts hv.firsts some_blocks in
          let copies = durable_copies log.keeps view.records view.under_way log.copies hv.copies some_blocks in
          let each_sized = All-push AreSized view.records view.under_way hv.each_sized hv.sized in
          let leaves : view.ours ≡ true → EachCut (MayLeave new.size (durable_of log) (with_record view)) new =
          λ ours image cut. guard_leaves (durable_of log) fits (stands_idle few refl refl) (guards ours image cut) in
          let stores : IsStored (durable_of log) (with_record view) new =
          rw still (record { stored = keeps_stored (with_record view) refl keeps; copied = copied }) in
          search (rules, arith, hv.next)

      -- ---- a write of the next part, of these or other blocks
      module _ (not : ¬ IsFlushDue L n (made_of log)) where
        small : k < L.parts n
        small = grind (arith, not)

        abbrev place : ℕ
        place = part_at L log.shape stamp n k

        abbrev part : List ℕ
        part = L.part stamp other k

        writes : (call ≡ Write place) × (sector ≡ part)
        writes = rw other_count at (next.1 (rw other_count not))

        adds : Gains place part old.may_leave new.may_leave
        adds = rw (writes.0, writes.1) at performed.adds

        -- the write leaves the blocks at home
        at_home : {was image : Image} → Holds place part was image → (b : ℕ) → image (log.shape.home + b) ≡ was (log.shape.home + b)
        at_home write b =
            let inside = (laws_of log.shape.format).inside n k (stands.slots some).under_way.fit.few small in
            write.elsewhere _ (λ e. omega (arith, e, before_home log.shape is.sized stamp (L.offset n k) inside))

        -- with the last part in it the record has this one's
        part_each : part ≡ L.part stamp view.under_way k → view.ours ≡ true → (then : ℕ) → then ≡ made_of log + 1
            → EachCut (HasHead log.shape log.head view then (needed_of log)) new
        part_each mine ours then one =
            let now = part_written (L.before_barrier n) (made_of log) then one (grind (arith, not)) in
            each_write _ _ old new place part sound adds (hv.guards live ours)
            (λ image g. same_head g (rw (now.0, now.1) (Guarded-lost k g.safe)) g.flushed)
            (λ before image write g. same_head g
            (rw (now.0, now.1)
            (Guarded-write _ (laws_of _) _ ((stands_front g stands).slots some) k small (rw (mine, same_stamp g) at write) g.safe))
            (λ one. let homed = g.flushed one in (homed.0, λ i below. at_home write _ ∙ homed.1 i below)))

        part_leaves : view.ours ≡ true → EachCut (MayLeave old.size log view) new
        part_leaves ours = elim (cases_lt (k + 1) (L.parts n)) [
          | inl early ↦
              each_write _ (MayLeave old.size log view) old new place part sound adds (hv.guards live ours)
              (λ image g. guard_leaves log hv.fits stands g)
              (λ before image write g.
              inl (has_view g.passed view hv.fits g.behind (other_written _ (laws_of _) _ ((stands_front g stands).slots some)
              {before = before} k other (rw (same_stamp g) at other_is) other_count early (rw (← (same_stamp g)) write) g.safe)))
          | inr last ↦
              let stands_then = stands_then hv is log.steps_left (made_of log + 1) (omega arith)
              (λ none. absurd (omega (arith, none, some))) (λ _. omega (arith, made_is log some)) in
              let k_is : L.parts n - 1 ≡ k = omega (arith, small, last) in
              let mine = rw (other_count, k_is) at ((laws_of log.shape.format).last_part stamp other view.under_way other_count) in
              λ image cut. guard_leaves log hv.fits stands_then (part_each mine ours _ refl image cut)
        ]

        part_written_now : 1 < log.steps_left → view.under_way ≡ other → IsDone call sector last old new
            → HoldsView more_log new view
        part_written_now more named done =
            let write = rw (writes.0, writes.1) at done in
            let s = hv.stores live in
            let mine : part ≡ L.part stamp view.under_way k = ap (λ (l : List Entry). L.part stamp l k) (sym named) in
            let now = part_written (L.before_barrier n) (made_of log) (made_of more_log) (then_made more) (grind (arith, not)) in
            goes_on hv is (log.steps_left - 1) log.retire_steps_left log.ahead new (omega arith) performed.passes.size_stays live
            (record {
              stored = Stored-write _ (laws_of _) _ (stands.slots some) k small (λ p low not. omega arith)
                  (rw mine at write) s.stored;
              copied = λ i low high. at_home write _ ∙ s.copied i low high;
            })
            (λ ours. part_each mine ours (made_of more_log) (then_made more))

      -- after it a cut leaves what it might leave before, and with the last part the record
      pub step_leaves : view.ours ≡ true → LeavesOnly (MayLeave old.size log view) old new
      step_leaves ours = one_call (MayLeave old.size log view) old new sound performed.passes (hv.leaves ours)
          (elim (due_or_not L n (made_of log)) [
            | inl due ↦ shrunk (MayLeave old.size log view) old new (rw (flushes due) at performed.adds) (hv.leaves ours)
            | inr not ↦ part_leaves not ours
          ])

      module _ (entries : view.under_way ≡ entries_of numbers bytes) (then : LogValue) where
        -- the log that counts it holds what the medium does
        pub counted_held : (progress : Progress) → IsStepped progress log then
            → OnOk result (HoldsView then new (view_stepped progress view))
        counted_held More stepped = rw stepped.1 (on_ok_weaker result (λ done. elim (due_or_not L n (made_of log)) [
          | inl due ↦ barrier_flushed stepped.0 due done
          | inr not ↦ part_written_now not stepped.0 entries done
        ]) performed.done)
        counted_held Durable stepped = rw stepped.1 (on_ok_weaker result (all_flushed stepped.0) performed.done)

        -- with the last one the record is whole in each image
        pub counted_whole : view.ours ≡ true → IsStepped Durable log then
            → OnOk result (EachCut (HasDurable new.size then (with_record view)) new)
        counted_whole ours stepped = rw stepped.1 (on_ok_weaker result (λ done image cut.
            let held = all_flushed stepped.0 done in
            grind (arith, guard_logged (durable_of log) held.fits (stands_idle held.few refl refl) (held.guards live ours image cut)))
            performed.done)

-- the next call of the record under way
pub step_called : {log : LogValue} → IsLog log → log.dead ≡ false → 0 < log.steps_left → {numbers : List ℕ} (bytes : List ℕ)
    → numbers ≡ log.under_way → length bytes ≡ 512 * length numbers → {call : Call} {sector : List ℕ}
    → IsNextCall (layout_of log.shape.format) log.shape (log.head + length log.waiting) (entries_of numbers bytes) (made_of log) call sector
    → IsWithin (first_home log.shape) call → (last : List ℕ) (result : Result (Unit {0}) MediumFault) (old new : State) → IsSound old
    → IsSound new → Performed call sector last result old new → StepCalled (entries_of numbers bytes) result log old new
step_called {log} is live some {numbers} bytes same size {call} {sector} next inside last result old new sound whole made =
    let left = leaves_log (λ view holds. step_leaves is live some sound holds bytes same size next made)
    (made.spares (sectors_of log.shape) (within_more (first_home log.shape) (sectors_of log.shape) (omega arith) call inside))
    (let reads = reads_nothing (layout_of log.shape.format) log.shape (log.head + length log.waiting)
    (entries_of numbers bytes) (made_of log) call sector next in
    reads_back log made (reads (first_home log.shape)) (λ _. reads 0)) in
    let flushed = step_flushed is some bytes same size call next made.passes in
    let counts = one_sent call old new made.passes in
    record {
      counts = record { one = made.passes.calls_are; sent = omega (arith, counts.0, few_sends call); flushed = flushed };
      failures = made.passes.failures_are;
      size = made.passes.size_stays;
      leaves = left;
      dead = λ view holds. dead_held holds new whole made.passes.size_stays (left.cuts view holds);
      counted = λ view holds entries progress then stepped.
          counted_held is live some sound holds bytes same size next made entries then progress stepped;
      durable = λ view holds entries ours then stepped.
          counted_whole is live some sound holds bytes same size next made entries then ours stepped;
      told = call_made next made;
    }
