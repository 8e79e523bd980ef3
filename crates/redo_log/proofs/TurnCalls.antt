-- The calls of each turn that retires the oldest durable record, one by one: what each leaves of the log and its medium.
use Rattle.std.proofs.Common.{subst, ◌≡◌, ◌≢◌, ◌⊎◌, inl, inr, ⊎_elim, ℕ, ◌+◌, ◌-◌, ◌<◌, List, [], refl, sym, ◌∙◌, true, false, arith, rules}
use Rattle.std.proofs.{Common.{Some, None, Option, MatchOption, Result, Ok, Err, OnOk}, lemmas.Bool.{cases_lt, cases_Bool}}
use Rattle.std.proofs.lemmas.Result.{on_ok_weaker}
use Rattle.std.specs.Prelude.{IsErr}
use Rattle.medium.specs.{Medium.{State, Holds, Only, Stays, IsSound, Passes}, Moments.{LeavesOnly, IsQuiet}}
use Rattle.medium.specs.{declared.fault.MediumFault.MediumFault, declared.medium_call.Call.Call, Sent.sent}
use Rattle.medium.specs.{declared.medium_call.Call.TheVariants.{Write, Flush}, Performed.{IsWithin, ReadsBefore, IsDone, Performed}}
use Rattle.medium.specs.Performed.{fault_of}
use Rattle.medium.proofs.{SparedSectors.spared_joined, SectorsRead.looks_joined, Moments.{quiet_call, quiet_leaves, joined_same}}
use Rattle.journal.specs.Places.{sectors_of, first_home}
use Rattle.redo_log.specs.Value.{LogValue, CanPass, IsAway, IsSentHome, of_oldest, next_calls, next_sends, IsReadBack, next_turn_flushes}
use Rattle.redo_log.specs.{Held.{View, view_retired, turned_of, MayLeave, HoldsView}, Steps.{BringsOn, IsOn, CountsStep, LeavesLog}}
use Rattle.redo_log.specs.{Steps.HoldsCounted, Halfway.{HoldsSent, Makes, flushed, WritesOnly, HoldsHalf, TurnBegun, TurnEnded, TellsFirst}}
use Rattle.redo_log.specs.{Halfway.TellsSecond, Told.{IsFirst, IsSecond, IsOneCall, copy_of, home_of, brought}}
use Rattle.redo_log.proofs.{HeldLog.{shrunk_held, one_write, dead_held, quiet_held}, RecordSteps.{call_made, IsLog, one_waits, one_sent}}
use Rattle.redo_log.proofs.{RecordSteps.{leaves_log, reads_back}, RetireTurns.{block, head_leaves, flushed_held, covered_held, ahead_held}}
use Rattle.redo_log.proofs.RetireTurns.{home_leaves, sent_held, home_counted, brought_is, kept_block_is}
use Rattle.medium.specs.declared.fault.MediumFault.TheVariants as fault

module _ {log : LogValue} (is : IsLog log) (owed : 0 < of_oldest log) where
  -- a block goes home, the blocks are flushed, or the head goes past the record
  which : IsAway log ⊎ (of_oldest log ≡ 2) ⊎ (of_oldest log ≡ 1)
  which = grind (arith, cases_lt 2 (of_oldest log), owed)

  -- ---- the first call
  module _ {first : Call} {bytes : List ℕ} (first_is : IsFirst log first bytes) (live : log.dead ≡ false) {old : State}
      (sound : IsSound old) {had : List ℕ} {one : Result (Unit {0}) MediumFault} {mid : State}
      (begun : Performed first bytes had one old mid) (after : IsSound mid) where
    -- it writes nothing, the head, or a block that is kept
    adds : IsQuiet old mid ⊎ ((of_oldest log ≡ 1) × WritesOnly 1 bytes old mid)
        ⊎ (IsAway log × (log.keeps ≡ true) × WritesOnly (home_of log) bytes old mid)
    adds = ⊎_elim
        (λ away. ⊎_elim (λ keeps.
        let p = rw (first_is.kept away keeps).0 at begun in
        inr (inr (away, keeps, one_write (home_of log) bytes old sound mid p.passes p.adds)))
        (λ not. let p = rw (first_is.home away not) at begun in inl (quiet_call old mid p.passes p.changes p.adds)) (cases_Bool log.keeps))
        (⊎_elim (λ two. let p = rw (first_is.flush two) at begun in inl (quiet_call old mid p.passes p.changes p.adds))
        (λ last. let p = rw (first_is.head last).0 at begun in inr (inl (last, one_write 1 bytes old sound mid p.passes p.adds)))) which

    -- it is the block
    kept_here : (away : IsAway log) → log.keeps ≡ true → {view : View} → (hv : HoldsView log old view)
        → bytes ≡ (block is live owed sound hv).1
    kept_here away keeps hv = (first_is.kept away keeps).1 ∙ kept_block_is is live owed sound hv away keeps

    -- where the blocks are kept it reads nothing
    first_reads : log.keeps ≡ true → ReadsBefore 0 first
    first_reads keeps = ⊎_elim (λ away. rw (first_is.kept away keeps).0 tt)
        (⊎_elim (λ two. rw (first_is.flush two) tt) (λ last. rw (first_is.head last).0 tt)) which

    begun_leaves : LeavesLog log old mid
    begun_leaves = leaves_log (λ view hv ours. ⊎_elim
        (λ quiet. quiet_leaves (MayLeave old.size log view) old mid sound (hv.leaves ours) quiet)
        (⊎_elim (λ head. head_leaves is live owed sound hv head.0 (first_is.head head.0).1 mid head.1 ours)
        (λ home. home_leaves is live owed sound hv home.0 (kept_here home.0 home.1 hv) mid home.2 ours)) adds)
        (begun.spares (sectors_of log.shape) first_is.inside) (reads_back log begun first_is.reads first_reads)

    module _ (view : View) (hv : HoldsView log old view) (done : IsDone first bytes had old mid) where
      half_home : IsAway log → log.keeps ≡ false → HoldsView log mid view × (had ≡ mid.content (copy_of log))
      half_home away not =
          let p = rw (first_is.home away not) at begun in
          let got = rw (first_is.home away not) at done in
          (quiet_held log view old mid (quiet_call old mid p.passes p.changes p.adds) hv, got ∙ sym (p.changes (copy_of log)))

      module _ (away : IsAway log) (keeps : log.keeps ≡ true) where
        abbrev wrote : WritesOnly (home_of log) bytes old mid
        wrote =
            let p = rw (first_is.kept away keeps).0 at begun in one_write (home_of log) bytes old sound mid p.passes p.adds

        half_kept : HoldsSent log mid view
        half_kept then home = (sent_held is live owed sound hv away (kept_here away keeps hv) mid wrote begun.passes.size_stays
            (rw (first_is.kept away keeps).0 at done) then home).1

        half_counted : HoldsCounted log mid view
        half_counted = home_counted is live owed sound hv away (kept_here away keeps hv) mid wrote begun.passes.size_stays
            (rw (first_is.kept away keeps).0 at done)

      half_head : of_oldest log ≡ 1 → HoldsCounted log (flushed mid) view
      half_head last =
          let head = first_is.head last in
          flushed_held is live owed sound hv last head.1 (flushed mid) begun.passes.size_stays (rw head.0 at done) (λ s c same. same)

      half_flush : of_oldest log ≡ 2 → HoldsCounted log mid view
      half_flush two =
          let flushed = rw (first_is.flush two) at done in
          covered_held is live owed sound hv two mid begun.passes.size_stays flushed.0 flushed.1

      half_passed : CanPass log → HoldsCounted log mid view
      half_passed can =
          let head = first_is.head can.flushed in
          let p = rw head.0 at begun in
          ahead_held is live owed sound hv can.flushed head.1 mid can.besides p.passes.size_stays p.adds (rw head.0 at done)

    turn_begun : TurnBegun log had one old mid
    turn_begun =
        let dead = λ (view : View) (hv : HoldsView log old view).
        dead_held hv mid after begun.passes.size_stays (begun_leaves.cuts view hv) in
        record {
          leaves = begun_leaves;
          dead = dead;
          half = λ view hv. on_ok_weaker one (λ (done : IsDone first bytes had old mid). record {
            dead = dead view hv;
            home = half_home view hv done;
            kept = half_kept view hv done;
            one = ⊎_elim (half_flush view hv done) (λ kept. half_counted view hv done kept.0 kept.1);
            head = half_head view hv done;
          }) begun.done;
          passed = λ view hv can. on_ok_weaker one (λ done. half_passed view hv done can) begun.done;
        }

  -- ---- the second one
  module _ {had bytes : List ℕ} {second : Call} (second_is : IsSecond log had (Some second) bytes) where
    not_one : ¬ IsOneCall log
    not_one one = absurd (cc (second_is.one one))

    reads : IsAway log → log.keeps ≡ false
    reads away = ⊎_elim (λ keeps. absurd (not_one (inr (away, keeps)))) (λ not. not) (cases_Bool log.keeps)

    is_home : IsAway log → second ≡ Write (home_of log)
    is_home away = cc ((second_is.home away (reads away)).0)

    is_flush : of_oldest log ≡ 1 → second ≡ Flush
    is_flush last = cc (second_is.head last)

    by_second : {P : Type 0} → (IsAway log → P) → (of_oldest log ≡ 1 → P) → P
    by_second home head = ⊎_elim home (⊎_elim (λ two. absurd (not_one (inl two))) head) which

    second_inside : IsWithin (sectors_of log.shape) second × ((end : ℕ) → ReadsBefore end second)
    second_inside = by_second
        (λ away.
        let waits = one_waits is owed in
        let below = (is.each 0 [] waits).inside (turned_of log) 0 (omega (arith, away, is.owed_most)) in
        rw (is_home away) (omega (arith, below), λ _. tt))
        (λ last. rw (is_flush last) (tt, λ _. tt))

    module _ (live : log.dead ≡ false) {mid : State} (sound : IsSound mid) {last : List ℕ} {two : Result (Unit {0}) MediumFault}
        {new : State} (ended : Performed second bytes last two mid new) (after : IsSound new) where
      module _ (view : View) (half : HoldsHalf log had mid view) where
        home_ended : IsAway log → WritesOnly (home_of log) (brought log (mid.content (copy_of log))) mid new
            × OnOk two (Holds (home_of log) (brought log (mid.content (copy_of log))) mid.content new.content)
        home_ended away =
            let e = rw (is_home away, (second_is.home away (reads away)).1, (half.home away (reads away)).1) at ended in
            (one_write _ _ mid sound new e.passes e.adds, e.done)

        -- what was read is the block's copy
        abbrev held : IsAway log → HoldsView log mid view
        held away = (half.home away (reads away)).0

        there : (away : IsAway log) → brought log (mid.content (copy_of log)) ≡ (block is live owed sound (held away)).1
        there away = brought_is is live owed sound (held away) away

        head_ended : of_oldest log ≡ 1 → IsQuiet mid new × OnOk two (Stays mid.content new.content × Only mid.content new.may_leave)
        head_ended one = let e = rw (is_flush one) at ended in (quiet_call mid new e.passes e.changes e.adds, e.done)

        ended_cuts : view.ours ≡ true → LeavesOnly (MayLeave mid.size log view) mid new
        ended_cuts ours = by_second
            (λ away. home_leaves is live owed sound (held away) away (there away) new (home_ended away).0 ours)
            (λ one. quiet_leaves (MayLeave mid.size log view) mid new sound (half.dead.leaves ours) (head_ended one).0)

        ended_sent : IsAway log → (then : LogValue) → IsSentHome log then
            → OnOk two (HoldsView then new view)
        ended_sent away then home =
            let h = home_ended away in
            let held = sent_held is live owed sound (held away) away (there away) new h.0 ended.passes.size_stays in
            on_ok_weaker two (λ done. (held done then home).1) h.1

        ended_done : OnOk two (HoldsCounted log new view)
        ended_done = by_second
            (λ away. let h = home_ended away in on_ok_weaker two
            (home_counted is live owed sound (held away) away (there away) new h.0 ended.passes.size_stays) h.1)
            (λ one. on_ok_weaker two (λ done then stepped.
            shrunk_held then (view_retired (then.head - log.head) view) (flushed mid) new ended.passes.size_stays done.0 done.1
            (half.head one then stepped)) (head_ended one).1)

      turn_ended : TurnEnded log had two mid new
      turn_ended = record {
        spares = ended.spares (sectors_of log.shape) second_inside.0;
        looks = reads_back log ended (second_inside.1 (first_home log.shape)) (λ _. second_inside.1 0);
        sent = ended_sent;
        cuts = ended_cuts;
        dead = λ view half. dead_held half.dead new after ended.passes.size_stays (ended_cuts view half);
        done = ended_done;
      }

  -- ---- the calls as `turn_first` and `turn_second` tell them
  module _ {M : Type 0} (state : M → State) (sound : (m : M) → IsSound (state m)) where
    pub tells_first : {call : Call} {bytes : List ℕ} → IsFirst log call bytes → TellsFirst state log call bytes
    tells_first first = record {
      inside = first.inside;
      call_is = first;
      home = λ away not. rw (first.home away not) (refl, refl);
      kept = λ away keeps. rw (first.kept away keeps).0 (refl, refl);
      flush = λ two. rw (first.flush two) (refl, refl);
      head = λ last. rw (first.head last).0 (refl, refl);
      law = λ m n after result on made. turn_begun first on.live (sound m) made (sound n);
    }

    pub tells_second : {had bytes : List ℕ} (call : Option Call) → IsSecond log had call bytes
        → MatchOption call (IsOneCall log) (λ second. TellsSecond state log had second bytes)
    tells_second None none = ⊎_elim
        (λ away. ⊎_elim (λ keeps. inr (away, keeps)) (λ not. absurd (cc ((none.home away not).0))) (cases_Bool log.keeps))
        (⊎_elim inl (λ last. absurd (cc (none.head last)))) which
    tells_second (Some call) some = record {
      inside = (second_inside some).0;
      call_is = some;
      home = λ away. rw (is_home some away) (refl, refl);
      two = not_one some;
      head = λ last. rw (is_flush some last) (refl, refl);
      law = λ m n after result on made. turn_ended some on.live (sound m) made (sound n);
    }

-- ---- both calls, of which the first is good

module _ {log : LogValue} {had : List ℕ} {old mid new : State} (begun : TurnBegun log had (Ok tt) old mid)
    {two : Result (Unit {0}) MediumFault} (ended : TurnEnded log had two mid new) where
  two_cuts : (view : View) → HoldsView log old view → view.ours ≡ true → LeavesOnly (MayLeave old.size log view) old new
  two_cuts view holds ours =
      let first = begun.leaves.cuts view holds ours in
      joined_same (MayLeave old.size log view) old mid new first
      (subst (λ (size : ℕ). LeavesOnly (MayLeave size log view) mid new) first.size_stays (ended.cuts view (begun.half view holds) ours))

  pub two_leave : LeavesLog log old new
  two_leave = leaves_log two_cuts (spared_joined (sectors_of log.shape) old mid new begun.leaves.spares ended.spares)
      (looks_joined (IsReadBack log) old mid new begun.leaves.looks ended.looks)

-- their calls are those of the next retire step
module _ {M : Type 0} {state : M → State} {log : LogValue} (owed : 0 < of_oldest log) {first : Call} {bytes : List ℕ}
    (f : TellsFirst state log first bytes) where
  pub two_counts : {second : Call} {had with : List ℕ} → TellsSecond state log had second with
      → {old mid new : State} {two : Result (Unit {0}) MediumFault}
      → Passes (fault_of first) (Ok tt) old mid → Passes (fault_of second) two mid new
      → CountsStep (next_calls log) (next_sends log) (next_turn_flushes log) two old new
  two_counts {second} s {old} {mid} {new} {two} a b =
      let one = one_sent first old mid a in
      let other = one_sent second mid new b in
      let which = cases_lt 2 (of_oldest log) in
      let not_two : of_oldest log ≢ 2 = λ two. s.two (inl two) in
      let reads : 2 < of_oldest log → log.keeps ≡ false = λ away. ⊎_elim (λ keeps. absurd (s.two (inr (away, keeps)))) (λ not. not)
      (cases_Bool log.keeps) in
      let calls : new.calls ≡ old.calls + next_calls log = grind (arith, owed, which, not_two, reads, a.calls_are, b.calls_are) in
      let sends : (sent new ≡ sent old + next_sends log) × (new.made fault.Flush ≡ old.made fault.Flush + next_turn_flushes log) =
      grind (arith, owed, which, reads, f.home, f.head, s.home, not_two, s.head, one, other) in
      search (rules, arith, calls, sends)

  -- one that makes the turn is all of them
  pub one_counts : IsOneCall log → {old new : State} {result : Result (Unit {0}) MediumFault} → Passes (fault_of first) result old new
      → CountsStep (next_calls log) (next_sends log) (next_turn_flushes log) result old new
  one_counts alone {old} {new} a =
      let one = one_sent first old new a in
      let calls : new.calls ≡ old.calls + next_calls log = grind (arith, alone, a.calls_are) in
      let sends : (sent new ≡ sent old + next_sends log) × (new.made fault.Flush ≡ old.made fault.Flush + next_turn_flushes log) =
      grind (arith, alone, f.kept, f.flush, one) in
      search (rules, arith, calls, sends)

  -- it brings the log on
  pub one_brings : {Follows : M → M → Type 0} → IsOneCall log → {m n : M} {after : List ℕ} {result : Result (Unit {0}) MediumFault}
      → IsOn log (state m) → Makes state Follows first bytes after result m n
      → BringsOn state Follows (CountsStep (next_calls log) (next_sends log) (next_turn_flushes log) result (state m) (state n))
      result log m n
  one_brings alone {m} {n} {after} {result} on made =
      let p = made.performed.passes in
      let begun = f.law m n after result on made.performed in
      let kept : IsAway log → log.keeps ≡ true = λ away. ⊎_elim (λ two. absurd (omega (arith, away, two))) (λ kept. kept.1) alone in
      record {
        passes = record { calls = one_counts alone p; failures = p.failures_are; size = p.size_stays; follows = made.follows };
        leaves = begun.leaves;
        dead = begun.dead;
        counted = λ view holds. on_ok_weaker result (λ half. half.one alone) (begun.half view holds);
        sent = λ away view holds next home. on_ok_weaker result (λ half. half.kept away (kept away) next home) (begun.half view holds);
        told = record { owed = owed; calls = inl (record { call = call_made f.call_is made.performed; alone = λ _. inl alone }) };
      }

  -- both bring it on, where the first one is good
  pub two_bring : {Follows : M → M → Type 0} {second : Call} {had with last : List ℕ} → TellsSecond state log had second with
      → {m mid n : M} {two : Result (Unit {0}) MediumFault} → (Follows m mid → Follows mid n → Follows m n) → IsOn log (state m)
      → Makes state Follows first bytes had (Ok tt) m mid → Makes state Follows second with last two mid n
      → BringsOn state Follows (CountsStep (next_calls log) (next_sends log) (next_turn_flushes log) two (state m) (state n)) two log m n
  two_bring {had = had} {last = last} s {m} {mid} {n} {two} through on a b =
      let p = a.performed.passes in
      let q = b.performed.passes in
      let then : IsOn log (state mid) = record { live = on.live; fits = omega (arith, p.size_stays, on.fits) } in
      let begun = f.law m mid had (Ok tt) on a.performed in
      let ended = s.law mid n last two then b.performed in
      record {
        passes = record {
          calls = two_counts s p q;
          failures = rw p.failures_are at q.failures_are;
          size = q.size_stays ∙ p.size_stays;
          follows = through a.follows b.follows;
        };
        leaves = two_leave begun ended;
        dead = λ view holds. ended.dead view (begun.half view holds);
        counted = λ view holds. ended.done view (begun.half view holds);
        sent = λ away view holds next sent. ended.sent view (begun.half view holds) away next sent;
        told = record {
          owed = owed;
          calls = inr (record { mid = mid; first = call_made f.call_is a.performed; second = call_made s.call_is b.performed });
        };
      }

  -- a refused first call is no more than they are
  refused_counts : {old new : State} {e other : MediumFault} → Passes (fault_of first) (Err e) old new
      → CountsStep {X = Unit {0}} (next_calls log) (next_sends log) (next_turn_flushes log) (Err other) old new
  refused_counts {old} {new} a =
      let one = one_sent first old new a in
      grind (arith, owed, cases_lt 2 (of_oldest log), cases_Bool log.keeps, a.calls_are, f.home, f.kept, f.flush, f.head, one)

  pub refused_brings : {Follows : M → M → Type 0} {m n : M} {after : List ℕ} {e : MediumFault} (result : Result (Unit {0}) MediumFault)
      → IsErr result → IsOn log (state m) → Makes state Follows first bytes after (Err e) m n
      → BringsOn state Follows (CountsStep (next_calls log) (next_sends log) (next_turn_flushes log) result (state m) (state n))
      result log m n
  refused_brings (Ok none) not on made = absurd (cc not)
  refused_brings {m = m} {n = n} {after = after} {e = e} (Err other) refused on made =
      let p = made.performed.passes in
      let begun = f.law m n after (Err e) on made.performed in
      record {
        passes = record { calls = refused_counts p; failures = p.failures_are; size = p.size_stays; follows = made.follows };
        leaves = begun.leaves;
        dead = begun.dead;
        counted = λ view holds. tt;
        sent = λ away view holds next sent. tt;
        told = record { owed = owed; calls = inl (record { call = call_made f.call_is made.performed; alone = λ good. absurd (cc good) }) };
      }
