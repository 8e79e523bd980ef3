-- The turns of a log's oldest record: each call of them may be next.
use Rattle.std.proofs.Common.{◌≡◌, ◌≢◌, inl, inr, ⊎_elim, ℕ, ◌+◌, ◌-◌, ◌<◌, ◌≤◌, List, [], length, get_or, refl, sym, ◌∙◌, arith, rules, ap}
use Rattle.std.proofs.{Common.{get_or-drop, drop, map, true, slice_index, add-zero}, lemmas.Bool.{cases_eq, cases_lt}}
use Rattle.std.proofs.{lemmas.Bool.Decides.nat_tests, lemmas.List.{length-map, drop-map, drop-drop, get_or_default}}
use Rattle.std.proofs.{lemmas.List.Sums.sum_by-cons, lemmas.List.Elements.All-drop, Math.ListN.get_or-map}
use Rattle.std.specs.{Prelude.All}
use Rattle.medium.specs.{declared.medium_call.Call.Call, declared.medium_call.Call.TheVariants.Flush}
use Rattle.journal.specs.{Record.{Entry, numbers_of}, Sectors.IsHead}
use Rattle.redo_log.specs.Value.{LogValue, IsAway, IsSentHome, IsRetireStepped, IsCovered, CanPass, settled, Ahead, of_oldest}
use Rattle.redo_log.specs.{Value.{behind_oldest, ahead_of, retire_steps_of}, Held.{turned_of, needed_of, AreSized, kept_copies}}
use Rattle.redo_log.specs.Told.{IsFirst, kept_of, home_of}
use Rattle.redo_log.proofs.{KeptCopies.{retired_copies, copy_kept_is}, RecordSteps.{needed_one, retired_of, nothing_home, not_homed}}
use Rattle.theorems.specs.Ordering.{Extent, Written, stamp_of, record_at, with_home, IsFlushedHome, WritesHome, WritesHead, MayBeNext}
use Rattle.theorems.specs.Logging.{Logs, HasRecords, HasHome, AreHome, MayCall, waiting_of, TurnsBy, RetiresBy}
use Rattle.theorems.proofs.LoggedSteps.{after_flush, many, stamp_is, flushed, flush_parts}

module _ {log : LogValue} {w : Written} (k : Logs log w) where
  oldest_is : get_or (waiting_of log w) 0 [] ≡ record_at w log.head
  oldest_is = rw add-zero at (get_or-drop (log.head - w.first) w.records 0 [])

  named : get_or log.waiting 0 [] ≡ numbers_of (record_at w log.head)
  named = rw (k.records.waiting, ← oldest_is) (get_or-map (λ (r : List Entry). numbers_of r) (waiting_of log w) 0 [])

  counted : length (get_or log.waiting 0 []) ≡ length (record_at w log.head)
  counted = rw named (length-map (record_at w log.head) (λ (e : Entry). e.0))

  module _ (owed : 0 < of_oldest log) where
    waits : 0 < length log.waiting
    waits = grind (arith, owed, k.home.few)

    durable : log.head < stamp_of w
    durable = omega (arith, stamp_is k, waits)

    short : of_oldest log ≤ length (record_at w log.head) + 2
    short = grind (arith, owed, k.home.few, counted)

  module _ (away : IsAway log) where
    inside : turned_of log < length (record_at w log.head)
    inside = omega (arith, short (omega (arith, away)), counted, away)

    abbrev entry : Entry
    entry = get_or (record_at w log.head) (turned_of log) (0, [])

    block_is : slice_index (get_or log.waiting 0 []) (turned_of log) ≡ entry.0
    block_is = ap (λ (l : List ℕ). slice_index l (turned_of log)) named
        ∙ get_or-map (λ (e : Entry). e.0) (record_at w log.head) (turned_of log) (0, [])

    bytes_is : kept_of log ≡ entry.1
    bytes_is = rw oldest_is at
        (copy_kept_is true (waiting_of log w) w.under_way log.copies k.records.copies refl k.records.sized 0 (turned_of log)
        (omega (arith, many k, waits (omega (arith, away)))) (rw oldest_is inside))

    abbrev homed : Written
    homed = record w { written = with_home entry.0 log.head w.written }

    goes_home : WritesHome w (home_of log) (kept_of log) homed
    goes_home = record {
      stamp = log.head;
      least = k.records.past;
      durable = durable (omega (arith, away));
      entry = entry;
      listed = (turned_of log, inside, get_or_default (record_at w log.head) (turned_of log) entry (0, []) inside);
      order = k.home.order entry.0;
      place_is = rw (k.records.shape, block_is) refl;
      bytes_are = bytes_is;
      new_is = refl;
    }

    -- behind it the log needs a turn less
    module _ (ahead : Ahead) where
      abbrev sent : LogValue
      sent = record log { retire_steps_left = log.retire_steps_left - 1; ahead = ahead }

      sent_home : needed_of sent ≢ 1 → HasHome sent homed
      sent_home not =
          let left : of_oldest sent ≡ of_oldest log - 1 = omega arith in
          let turned : turned_of sent ≡ turned_of log + 1 = omega (arith, short (omega (arith, away)), counted, away) in
          let order : (b : ℕ) → homed.written.home b ≤ log.head = λ b. grind (arith, nat_tests, k.home.order b) in
          let home : AreHome sent homed.written = λ i low below.
          grind (arith, nat_tests, cases_eq i (turned_of log), turned, low, block_is, k.home.home i, below) in
          search (rules, arith, k.home, away)

      sent_logs : {next : LogValue} → next ≡ sent → needed_of sent ≢ 1 → Logs next homed
      sent_logs is not = rw is (search (rules, k.records, k.parts, sent_home not))

  homes : {next : LogValue} {call : Call} {bytes : List ℕ} → IsAway log → IsFirst log call bytes
      → IsSentHome log next → MayCall next w call bytes
  homes {next} {call} {bytes} away first sent =
      let kept = first.kept away k.records.keeps in
      let writes : WritesHome w (home_of log) bytes (homed away) = rw kept.1 (goes_home away) in
      let logs : Logs next (homed away) = elim (cases_lt 3 (of_oldest log)) [
        | inl more ↦ sent_logs away log.ahead (sent.more more) (grind (arith, more))
        | inr last ↦ sent_logs away (ahead_of log) (sent.last (omega (arith, away, last))) (grind (arith, nat_tests, away, last))
      ] in
      rw kept.0 (homed away, inr (inl writes), logs)

  -- its blocks are flushed at home
  module _ (two : of_oldest log ≡ 2) where
    settled_home : (extent : Extent) → AreHome log extent → AreHome (settled log) extent
    settled_home extent home i low below = home i (omega (arith, two, below)) below

    settled_owed : (behind_oldest log ≤ log.retire_steps_left - 1) × (of_oldest (settled log) ≤ retire_steps_of (get_or log.waiting 0 []))
    settled_owed = (omega (arith, two), omega (arith, k.home.few))

    settled_flushed : Logs (settled log) (flushed k)
    settled_flushed =
        let home = after_flush {log = settled log} {w = flushed k} refl k.records.ring
        settled_owed.0 settled_owed.1 k.home.head k.home.order
        (settled_home w.written k.home.home) in
        search (rules, k.records, flush_parts k, home)

  flushes : {next : LogValue} {call : Call} {bytes : List ℕ} → of_oldest log ≡ 2 → IsFirst log call bytes → IsRetireStepped log next
      → MayCall next w call bytes
  flushes {bytes = bytes} two first stepped =
      let may : MayBeNext Flush bytes w (flushed k) = refl in
      rw (first.flush two, stepped.flush two) (flushed k, may, settled_flushed two)

  pub settles : IsCovered log → Logs (settled log) w
  settles covered =
      let two = covered.flushes in
      let one : needed_of log ≡ 1 = grind (arith, nat_tests, two, covered.oldest, covered.since) in
      let was = k.home.flushed one in
      let home : HasHome (settled log) w =
      search (rules, settled_owed two, k.home, settled_home two w.written k.home.home, settled_home two w.flushed was.0, was.1) in
      search (rules, k.records, k.parts, home)

  -- ---- the head goes past it
  module _ (one : of_oldest log ≡ 1) where
    abbrev passed : Written
    passed = record w { written = record w.written { head = log.head + 1 } }

    all_flushed : AreHome log w.flushed × (w.flushed.head ≡ log.head)
    all_flushed = k.home.flushed (grind (arith, one))

    flushed_home : IsFlushedHome w log.head
    flushed_home e has =
        let entry = get_or_default (record_at w log.head) has.0 (0, []) e has.1 ∙ has.2 in
        let number : slice_index (numbers_of (record_at w log.head)) has.0 ≡ e.0 =
        get_or-map (λ (e : Entry). e.0) (record_at w log.head) has.0 (0, []) ∙ ap (λ (e : Entry). e.0) entry in
        let there = all_flushed.0 has.0 (omega (arith, has.1, counted, one)) (omega (arith, has.1, counted)) in
        rw (named, number) at there

    passes_head : {bytes : List ℕ} → IsHead (log.head + 1) bytes → WritesHead w 1 bytes passed
    passes_head head = record {
      head = log.head + 1;
      rises = omega (arith, k.home.head);
      most = omega (arith, durable (omega (arith, one)));
      passed = λ stamp from low.
          let same : stamp ≡ log.head = omega (arith, from, low, k.home.head) in rw same flushed_home;
      place_is = refl;
      bytes_are = head;
      new_is = refl;
    }

    past_records : HasRecords (retired_of log) passed
    past_records =
        let r = k.records in
        let far : log.head + 1 - w.first ≡ log.head - w.first + 1 = omega (arith, r.past) in
        let less : waiting_of (retired_of log) passed ≡ drop 1 (waiting_of log w) =
        rw far (sym (drop-drop 1 (log.head - w.first) w.records)) in
        let waiting : drop 1 log.waiting ≡ map (λ r. numbers_of r) (waiting_of (retired_of log) passed) =
        rw (less, r.waiting) (drop-map (λ (r : List Entry). numbers_of r) 1 (waiting_of log w)) in
        let copies : drop 1 log.copies ≡ kept_copies true (waiting_of (retired_of log) passed) w.under_way =
        rw less (retired_copies true (waiting_of log w) w.under_way log.copies r.copies
        (omega (arith, many k, waits (omega (arith, one))))) in
        let sized : All AreSized (waiting_of (retired_of log) passed) = rw less (All-drop AreSized 1 (waiting_of log w) r.sized) in
        search (rules, arith, r, durable (omega (arith, one)))

    past_owed : (behind_oldest (retired_of log) ≤ behind_oldest log)
        × (of_oldest (retired_of log) ≤ retire_steps_of (get_or (drop 1 log.waiting) 0 []))
    past_owed = grind (arith, sum_by-cons retire_steps_of)

    past_home : (extent : Extent) → AreHome (retired_of log) extent
    past_home extent i low below = absurd (nothing_home log i low below)

    past_order : (b : ℕ) → w.written.home b ≤ log.head + 1
    past_order b = omega (arith, k.home.order b)

    past_more : needed_of (retired_of log) ≢ 1
    past_more e = omega (arith, needed_one (retired_of log) e, not_homed log)

    abbrev passed_flushed : Written
    passed_flushed = record passed { flushed = passed.written }

    retired_logs : Logs (retired_of log) passed_flushed
    retired_logs =
        let home = after_flush {log = retired_of log} {w = passed_flushed} refl k.records.ring
        past_owed.0 past_owed.1 refl past_order (past_home passed.written) in
        search (rules, past_records, flush_parts k, home)

  pub retires : {next : LogValue} {first second : Call} {bytes had with : List ℕ} → RetiresBy log first second bytes had with next
      → (mid : Written) × MayBeNext first bytes w mid × MayCall next mid second with
  retires {second = second} {with = with} by =
      let one = by.one in
      let flush : second ≡ Flush = cc (by.is_second.head one) in
      let may : MayBeNext Flush with (passed one) (passed_flushed one) = refl in
      rw ((by.is_first.head one).0, flush, by.counted.last (omega (arith, one)))
      (passed one, inr (inr (passes_head one (by.is_first.head one).1)), (passed_flushed one, may, retired_logs one))

  -- the first call of a turn may be next, whatever comes of it
  pub first_may : 0 < of_oldest log → {call : Call} {bytes : List ℕ} → IsFirst log call bytes → (new : Written) × MayBeNext call bytes w new
  first_may owed {bytes = bytes} first = elim (cases_lt 2 (of_oldest log)) [
    | inl away ↦
        let kept = first.kept away k.records.keeps in
        let writes : WritesHome w (home_of log) bytes (homed away) = rw kept.1 (goes_home away) in rw kept.0 (homed away, inr (inl writes))
    | inr behind ↦ elim (cases_eq (of_oldest log) 2) [
      | inl two ↦ let may : MayBeNext Flush bytes w (flushed k) = refl in rw (first.flush two) (flushed k, may)
      | inr not ↦
          let one : of_oldest log ≡ 1 = omega (arith, owed, behind, not) in
          rw (first.head one).0 (passed one, inr (inr (passes_head one (first.head one).1)))
    ]
  ]

  passes : {next : LogValue} {call : Call} {bytes : List ℕ} → CanPass log → IsFirst log call bytes → IsRetireStepped log next
      → MayCall next w call bytes
  passes can first stepped =
      let one = can.flushed in
      let home : HasHome (retired_of log) (passed one) = record {
        owed = (past_owed one).0;
        few = (past_owed one).1;
        head = refl;
        order = past_order one;
        home = past_home one (passed one).written;
        flushed = λ is. absurd (past_more one is);
        slot = λ room. omega (arith, (all_flushed one).1, can.besides, k.records.ring);
      } in
      let logs : Logs (retired_of log) (passed one) = record { records = past_records one; parts = search (rules, k.parts); home = home } in
      rw ((first.head one).0, stepped.last (omega (arith, one)))
      (passed one, inr (inr (passes_head one (first.head one).1)), logs)

  pub turns : {next : LogValue} {call : Call} {bytes : List ℕ} → TurnsBy log call bytes next → MayCall next w call bytes
  turns by = elim by.1 [
    | inl home ↦ homes home.0 by.0 home.1
    | inr behind ↦ ⊎_elim (λ two. flushes two by.0 behind.1) (λ can. passes can by.0 behind.1) behind.0
  ]
