-- A record of a log that is begun, and the calls that write it: each may be next.
use Rattle.std.proofs.Common.{◌≡◌, ◌≢◌, ◌⊎◌, inl, inr, ⊎_elim, ℕ, suc, ◌+◌, ◌-◌, ◌*◌, ◌<◌, ◌≤◌, List, [], ◌∷◌, ◌++◌, length, get_or, refl}
use Rattle.std.proofs.{Common.{sym, ◌∙◌, arith, rules, ap, length-append, length-drop, drop, map, true, take}, lemmas.Bool.cases_eq}
use Rattle.std.proofs.{lemmas.Bool.cases_lt, lemmas.Bool.Decides.nat_tests, lemmas.List.{length-map, map-append, drop-append-le, drop-drop}}
use Rattle.std.proofs.lemmas.List.{get_or_append_left, get_or_at, nil_from_length, drop_at, take-append-le, take_all}
use Rattle.std.proofs.{lemmas.List.Sums.{sum_by-append, sum_by-cons}, lemmas.List.Elements.All-append}
use Rattle.std.specs.Prelude.{All, ◌^◌, sum_by}
use Rattle.medium.specs.{declared.medium_call.Call.Call, declared.medium_call.Call.TheVariants.Flush}
use Rattle.journal.specs.{Places.Shape, Record.{Entry, numbers_of, entries_of, entries_from}, Formats.layout_of, Layout.IsRecordOf}
use Rattle.journal.specs.{Layout.part_at, Sectors.IsRising}
use Rattle.journal.proofs.{Formats.{laws_of, most_is}, BatchEntries.{numbers_of_batch, length_of_batch, sized_batch}}
use Rattle.redo_log.specs.Value.{LogValue, HasRoom, IsStepped, begun, of_oldest, behind_oldest, steps_of, steps_for, retire_steps_of}
use Rattle.redo_log.specs.{Held.{made_of, needed_of, AreSized, kept_copies, stamps_of, bytes_of, begun_copies}, Told.IsNextCall}
use Rattle.redo_log.specs.{Told.IsFlushDue, Shown.{written_at, flushed_at, flush_of}, declared.progress.Progress.Progress}
use Rattle.redo_log.specs.declared.progress.Progress.TheVariants.{More, Durable}
use Rattle.redo_log.proofs.{KeptCopies.{durable_copies, begun_kept, bytes_of_batch}, RecordSteps.{durable_of, durable_more, made_is}}
use Rattle.redo_log.proofs.RecordSteps.{written_is, flush_of_is, steps_are, all_written, barrier_written, part_written, none_written}
use Rattle.redo_log.proofs.RecordSteps.{due_or_not}
use Rattle.theorems.specs.Ordering.{Written, stamp_of, layout, parts_of, barrier_of, with_part, without_parts, Begins, Lands, WritesPart}
use Rattle.theorems.specs.{Ordering.MayBeNext, Logging.{Logs, HasRecords, HasParts, HasHome, AreHome, HasLanded, waiting_of, TakesRecord}}
use Rattle.theorems.specs.Logging.{StepsBy, begun_of}

-- what a flush makes of the turns that are made
pub after_flush : {log : LogValue} {w : Written} → w.flushed ≡ w.written → log.ring ≤ log.shape.slots
    → behind_oldest log ≤ log.retire_steps_left
    → of_oldest log ≤ retire_steps_of (get_or log.waiting 0 []) → w.written.head ≡ log.head → ((b : ℕ) → w.written.home b ≤ log.head)
    → AreHome log w.written → HasHome log w
after_flush {log} {w} same ring owed few head order home =
    let slot : HasRoom log → log.next < w.flushed.head + log.shape.slots = λ room. rw (same, head) (omega (arith, room.free, ring)) in
    let flushed : AreHome log w.flushed × (w.flushed.head ≡ log.head) = rw same (home, head) in
    search (rules, owed, few, head, order, home)

-- the steps are a call for each part, and the flushes
steps_for_shape : (a b : Shape) → a ≡ b → (n : ℕ)
    → steps_for b.format n ≡ (layout_of a.format).parts n + 1 + flush_of ((layout_of a.format).before_barrier n)
steps_for_shape a b same n = rw same (steps_are b.format n)

-- the blocks of a record are those that its numbers and bytes make
entries_back : (i : ℕ) (entries : List Entry) (bytes : List ℕ) → AreSized entries → drop (512 * i) bytes ≡ bytes_of entries
    → entries_from i (numbers_of entries) bytes ≡ entries
entries_back i [] bytes sized is = refl
entries_back i (e ∷ entries) bytes sized is =
    let long : length e.1 ≡ 512 = sized 0 (0, []) (omega arith) in
    let here : 512 * i + 512 - 512 * i ≡ 512 = omega arith in
    let next : 512 * i + 512 ≡ 512 * (i + 1) = omega arith in
    let first : take 512 (e.1 ++ bytes_of entries) ≡ e.1 =
    take-append-le 512 e.1 (bytes_of entries) (omega (arith, long)) ∙ take_all 512 e.1 (omega (arith, long)) in
    let skip : drop 512 (e.1 ++ bytes_of entries) ≡ bytes_of entries = drop_at e.1 (bytes_of entries) 512 long in
    let rest : drop (512 * (i + 1)) bytes ≡ bytes_of entries =
    rw (← next) (sym (drop-drop 512 (512 * i) bytes) ∙ ap (λ (l : List ℕ). drop 512 l) is ∙ skip) in
    let more = entries_back (i + 1) entries bytes (λ j d low. sized (suc j) d (omega (arith, low))) rest in
    rw (here, is, first, more) refl

-- more than one record waits
behind_more : (waiting : List (List ℕ)) (numbers : List ℕ) → 0 < length waiting
    → sum_by retire_steps_of (drop 1 (waiting ++ numbers ∷ [])) ≡ sum_by retire_steps_of (drop 1 waiting) + retire_steps_of numbers
behind_more waiting numbers some = grind (arith, sum_by-append, sum_by-cons)

module _ {log : LogValue} {w : Written} (k : Logs log w) where
  pub many : length log.waiting ≡ length (waiting_of log w)
  many = rw k.records.waiting (length-map (waiting_of log w) (λ (r : List Entry). numbers_of r))

  pub stamp_is : log.head + length log.waiting ≡ stamp_of w
  stamp_is = omega (arith, many, length-drop (log.head - w.first) w.records, k.records.past, k.records.most)

  abbrev pub flushed : Written
  flushed = record w { flushed = w.written }

  pub flush_parts : HasParts log flushed
  flush_parts =
      let all : (p : ℕ) → p < flushed_at (barrier_of w) (made_of log) → w.written.parts p ≡ true =
      λ p low. k.parts.written p (omega (arith, low, written_is (barrier_of w) (made_of log), flush_of_is (barrier_of w))) in
      search (rules, k.parts)

  flush_home : HasHome log flushed
  flush_home = after_flush refl k.records.ring k.home.owed k.home.few k.home.head k.home.order k.home.home

  -- ---- a record is begun
  pub begins : {next : LogValue} → TakesRecord log next → (new : Written) × Begins w new × Logs next new
  begins t =
      let numbers : List ℕ = t.numbers in
      let bytes : List ℕ = t.bytes in
      let room = t.room in
      let batch = t.batch in
      let small = t.stamp in
      let more : LogValue = begun t.numbers t.firsts t.bytes log in
      let r = k.records in
      let entries : List Entry = entries_of numbers bytes in
      let new : Written = record w { under_way = entries; written = without_parts w.written; flushed = without_parts w.flushed } in
      let named = numbers_of_batch numbers bytes in
      let long = length_of_batch numbers bytes in
      let sized : AreSized entries = sized_batch numbers bytes batch.size in
      let none : w.under_way ≡ [] = grind (arith, r.under_way, room.none_under_way) in
      let next : log.next ≡ stamp_of w = grind (arith, r.next, room.none_under_way) in
      let inside : All (λ b. b < w.shape.blocks) (numbers_of entries) = rw (named, r.shape) batch.inside in
      let low : All (λ b. b < 2 ^ 31) (numbers_of entries) = rw named (λ i d below. omega (arith, batch.inside i d below, r.small)) in
      let few : length entries ≤ (layout w).most = rw r.shape (omega (arith, most_is log.shape.format, batch.few, long)) in
      let rising : IsRising (numbers_of entries) = rw named batch.rising in
      let fit : IsRecordOf (layout w) w.shape.blocks (stamp_of w) entries =
      search (rules, arith, few, inside, low, rising, sized, long, batch.some, r.least, next, small) in
      let slot : stamp_of w < w.flushed.head + w.shape.slots = rw r.shape (omega (arith, next, k.home.slot room)) in
      let is : Begins w new = record { none = none; entries = entries; fit = fit; slot = slot; new_is = refl } in
      let one : stamps_of numbers ≡ 1 = grind (arith, batch.some) in
      let copies : log.copies ++ bytes ∷ [] ≡ kept_copies true (waiting_of log w) entries =
      begun_kept true (waiting_of log w) entries bytes log.copies (rw none at r.copies)
      (omega (arith, long, batch.some)) (bytes_of_batch numbers bytes batch.size) in
      let kept : more.copies ≡ kept_copies true (waiting_of log w) entries = rw r.keeps copies in
      let names = sym named in
      let records : HasRecords more new = search (rules, arith, r, next, one) in
      let none_made : made_of more ≡ 0 = grind (arith, nat_tests) in
      let zero_made = none_written (barrier_of new) (made_of more) none_made in
      let parts : HasParts more new = search (rules, arith, long, batch.some, zero_made) in
      let behind : (behind_oldest log + retire_steps_of numbers ≡ behind_oldest more) = rw room.none_under_way (omega arith) in
      let same : of_oldest more ≡ of_oldest log = omega (arith, behind) in
      let turns : AreHome more w.written = rw same k.home.home in
      let flushed : needed_of more ≡ 1 → AreHome more w.flushed × (w.flushed.head ≡ log.head) = rw same k.home.flushed in
      let full : HasRoom more → more.next < w.flushed.head + log.shape.slots =
      λ full. absurd (omega (arith, batch.some, rw full.none_under_way at batch.some)) in
      let home : HasHome more new = search (rules, arith, k.home, behind, same) in
      rw t.next_is (new, is, record { records = records; parts = parts; home = home })

  -- ---- a call of the record under way
  all_steps : 0 < log.steps_left → made_of log + log.steps_left ≡ parts_of w + 1 + flush_of (barrier_of w)
  all_steps some =
      let named : length log.under_way ≡ length w.under_way = rw k.records.under_way (length-map w.under_way (λ (e : Entry). e.0)) in
      let total : steps_of log.shape.format log.under_way ≡ parts_of w + 1 + flush_of (barrier_of w) =
      rw named (steps_for_shape w.shape log.shape k.records.shape (length w.under_way)) in
      omega (arith, made_is log some, k.parts.few, total)

  abbrev step_next : LogValue
  step_next = record log { steps_left = log.steps_left - 1 }

  module _ (more : 1 < log.steps_left) where
    one_more : made_of step_next ≡ made_of log + 1
    one_more = omega (arith, made_is log, made_is step_next, k.parts.few, more)

    step_home : {new : Written} → HasHome log new → HasHome step_next new
    step_home {new} h =
        let slot : HasRoom step_next → log.next < new.flushed.head + log.shape.slots = λ room. omega (arith, room.no_steps, more) in
        search (rules, arith, h)

  -- it is a flush
  flush_more : 1 < log.steps_left → IsFlushDue (layout w) (length w.under_way) (made_of log) → Logs step_next flushed
  flush_more more due =
      let next = one_more more in
      let e : ℕ = barrier_of w in
      let late : barrier_of w < parts_of w = (laws_of w.shape.format).last_is_behind (length w.under_way) in
      let sum = all_steps (omega (arith, more)) in
      let first : (0 < e) × (made_of log ≡ e) = ⊎_elim (λ both. both)
      (λ whole. absurd (omega (arith, whole, sum, more, all_written e (parts_of w) (made_of log) late))) due in
      let now = barrier_written e (made_of log) (made_of step_next) next first.0 first.1 in
      let parts : HasParts step_next flushed = search (rules, arith, k.parts, now, more) in
      search (rules, k.records, parts, step_home more flush_home)

  -- or writes a part
  part_more : 1 < log.steps_left → (¬ IsFlushDue (layout w) (length w.under_way) (made_of log))
      → Logs step_next (record w { written = with_part (written_at (barrier_of w) (made_of log)) w.written })
  part_more more not =
      let next = one_more more in
      let e : ℕ = barrier_of w in
      let apart : (e ≤ 0) ⊎ (made_of log ≢ e) = grind (arith, not) in
      let now = part_written e (made_of log) (made_of step_next) next apart in
      let part : ℕ = written_at (barrier_of w) (made_of log) in
      let parts : HasParts step_next (record w { written = with_part part w.written }) =
      grind (arith, nat_tests, cases_eq, now, k.parts, more) in
      record { records = search (rules, k.records); parts = parts; home = step_home more (search (rules, k.home)) }

  abbrev landed : Written
  landed = record flushed { records = w.records ++ w.under_way ∷ []; under_way = [] }

  -- with the last one the record is durable
  module _ (last : log.steps_left ≡ 1) where
    whole : (p : ℕ) → p < parts_of w → w.written.parts p ≡ true
    whole p low =
        let late : barrier_of w < parts_of w = (laws_of w.shape.format).last_is_behind (length w.under_way) in
        let sum = all_steps (omega (arith, last)) in
        k.parts.written p (omega (arith, low, sum, last, all_written (barrier_of w) (parts_of w) (made_of log) late))

    durable_records : HasRecords (durable_of log) landed
    durable_records =
        let r = k.records in
        let some = k.parts.some (omega (arith, last)) in
        let named : length log.under_way ≡ length w.under_way = rw r.under_way (length-map w.under_way (λ (e : Entry). e.0)) in
        let one : stamps_of log.under_way ≡ 1 = grind (arith, named, some) in
        let longer = length-append w.records (w.under_way ∷ []) in
        let more : waiting_of (durable_of log) landed ≡ waiting_of log w ++ w.under_way ∷ [] =
        drop-append-le (log.head - w.first) w.records (w.under_way ∷ []) (omega (arith, r.past, r.most)) in
        let waiting : (durable_of log).waiting ≡ map (λ r. numbers_of r) (waiting_of (durable_of log) landed) =
        rw (more, r.waiting, r.under_way) (sym (map-append (λ (r : List Entry). numbers_of r) (waiting_of log w) (w.under_way ∷ []))) in
        let copies : log.copies ≡ kept_copies true (waiting_of (durable_of log) landed) [] =
        rw more (durable_copies true (waiting_of log w) w.under_way log.copies r.copies some) in
        let sized : All AreSized (waiting_of (durable_of log) landed) =
        rw more (All-append AreSized (waiting_of log w) (w.under_way ∷ []) r.sized (λ i d low. grind (arith, low, r.sized_begun))) in
        search (rules, arith, r, longer, one)

    durable_parts : HasParts (durable_of log) landed
    durable_parts =
        let none = none_written (barrier_of landed) 0 refl in
        search (rules, arith, none)

    durable_home : HasHome (durable_of log) landed
    durable_home =
        let some = k.parts.some (omega (arith, last)) in
        let first = get_or_append_left log.waiting (log.under_way ∷ []) [] 0 in
        let owed : behind_oldest (durable_of log) ≤ log.retire_steps_left =
        grind (arith, behind_more log.waiting log.under_way, k.home.owed) in
        let few : of_oldest (durable_of log) ≤ retire_steps_of (get_or (durable_of log).waiting 0 []) =
        grind (arith, durable_more log, k.home.few, k.home.owed, first) in
        let home : AreHome (durable_of log) w.written = λ i low inside.
        elim (cases_lt 0 (length log.waiting)) [
          | inl more ↦ grind (arith, durable_more log more, first more, k.home.home i, low, inside)
          | inr none ↦ absurd (grind (arith, none, k.home.few, k.home.owed, low, some))
        ] in
        after_flush refl k.records.ring owed few k.home.head k.home.order home

  -- the call, and what it makes of the log
  abbrev pub Stepped : Progress → LogValue → Call → List ℕ → Type 0
  Stepped progress next call bytes =
      (mid new : Written) × MayBeNext call bytes w mid × HasLanded progress mid new × Logs next new

  abbrev Told : Call → List ℕ → Type 0
  Told call bytes = IsNextCall (layout w) w.shape (stamp_of w) w.under_way (made_of log) call bytes

  flush_step : {next : LogValue} {call : Call} (bytes : List ℕ) (progress : Progress) → IsStepped progress log next
      → IsFlushDue (layout w) (length w.under_way) (made_of log) → call ≡ Flush → Stepped progress next call bytes
  flush_step bytes More stepped due is =
      let may : MayBeNext Flush bytes w flushed = refl in
      rw (is, stepped.1) (flushed, flushed, may, refl, flush_more stepped.0 due)
  flush_step bytes Durable stepped due is =
      let may : MayBeNext Flush bytes w flushed = refl in
      let lands : Lands flushed landed =
      record { some = k.parts.some (omega (arith, stepped.0)); whole = whole stepped.0; new_is = refl } in
      let logs : Logs (durable_of log) landed = record {
        records = durable_records stepped.0;
        parts = durable_parts stepped.0;
        home = durable_home stepped.0;
      } in
      rw (is, stepped.1) (flushed, landed, may, lands, logs)

  part_step : {next : LogValue} {call : Call} {bytes : List ℕ} (progress : Progress) → IsStepped progress log next
      → (¬ IsFlushDue (layout w) (length w.under_way) (made_of log)) → Told call bytes → Stepped progress next call bytes
  part_step {bytes = bytes} More stepped not told =
      let e : ℕ = barrier_of w in
      let part : ℕ = written_at (barrier_of w) (made_of log) in
      let new : Written = record w { written = with_part part w.written } in
      let apart : (e ≤ 0) ⊎ (made_of log ≢ e) = grind (arith, not) in
      let inside : part < parts_of w = grind (arith, not) in
      let commit : e ≤ part → (p : ℕ) → p < e → w.flushed.parts p ≡ true =
      λ high p low. k.parts.flushed p (omega (arith, apart, high, low, written_is e (made_of log), flush_of_is e)) in
      let writes : WritesPart w (part_at (layout w) w.shape (stamp_of w) (length w.under_way) part) bytes new = record {
        some = k.parts.some (omega (arith, stepped.0));
        part = part;
        inside = inside;
        commit = commit;
        place_is = refl;
        bytes_are = (told.1 not).1;
        new_is = refl;
      } in
      rw ((told.1 not).0, stepped.1) (new, new, inl writes, refl, part_more stepped.0 not)
  part_step Durable stepped not told =
      let late : barrier_of w < parts_of w = (laws_of w.shape.format).last_is_behind (length w.under_way) in
      let inside : written_at (barrier_of w) (made_of log) < parts_of w = grind (arith, not) in
      let sum = all_steps (omega (arith, stepped.0)) in
      absurd (omega (arith, inside, sum, stepped.0, all_written (barrier_of w) (parts_of w) (made_of log) late))

  pub begun_is : begun_of log ≡ w.under_way
  begun_is = elim (cases_lt 0 (length w.under_way)) [
    | inl some ↦
        let last : begun_copies w.under_way ≡ bytes_of w.under_way ∷ [] = grind (arith, some) in
        let here = get_or_at (map bytes_of (waiting_of log w)) (bytes_of w.under_way) [] [] (length log.waiting)
        (length-map (waiting_of log w) bytes_of ∙ sym many) in
        rw (k.records.under_way, k.records.copies, last, here)
        (entries_back 0 w.under_way (bytes_of w.under_way) k.records.sized_begun refl)
    | inr not ↦
        let none : w.under_way ≡ [] = nil_from_length w.under_way (omega (arith, not)) in
        rw (k.records.under_way, none) refl
  ]

  pub steps : {next : LogValue} {call : Call} {bytes : List ℕ} (progress : Progress) → StepsBy log call bytes progress next
      → Stepped progress next call bytes
  steps {next} {call} {bytes} progress by =
      let told : Told call bytes = rw (← begun_is, k.records.shape, ← stamp_is) by.1 in
      ⊎_elim (λ due. flush_step bytes progress by.0 due (told.0 due)) (λ not. part_step progress by.0 not told)
      (due_or_not (layout w) (length w.under_way) (made_of log))
