-- Every run of a log that was opened is safe, and one run behind another is a run.
use Rattle.std.proofs.Common.{◌≡◌, ◌⊎◌, ◌∙◌, ◌++◌, ◌<◌, ◌-◌, ℕ, List, [], ◌∷◌, inl, inr, ⊎_elim, refl, ap, subst, arith, Bool, true, false}
use Rattle.std.proofs.{Common.{append-nil, append_assoc}, lemmas.Bool.{Decides.nat_tests, cases_Bool}}
use Rattle.std.specs.Prelude.{◌^◌, Result, Ok, Err}
use Rattle.medium.specs.{Medium.{State, IsSound}, Moments.{EachCut, LeavesOnly}}
use Rattle.medium.proofs.Moments.{started, quiet_leaves}
use Rattle.journal.specs.Record.{Entry}
use Rattle.redo_log.specs.Value.{LogValue, keeping_from, died, begun, HasRoom, IsBatch, IsStepped}
use Rattle.redo_log.specs.{Steps.AnswersStep, declared.fault.LogFault.LogFault, declared.progress.Progress.Progress}
use Rattle.redo_log.specs.declared.progress.Progress.TheVariants.{More, Durable}
use Rattle.theorems.specs.{Ordering.{Written, MayLeave}, Logging.{Logs, Through, all_landed, landed_in}}
use Rattle.theorems.specs.{Ahead.{counted, is_covered}, Logging.TakesRecord, Making.Steps}
use Rattle.theorems.specs.{LogRuns.{RunsOn, RunsThrough, IsLogRun, EveryRunIsSafe}}
use Rattle.theorems.proofs.{Ordering.{Kept, opened_kept, quiet_kept, kept_safe}, Logging.{none_landed, safe_log, opened_logs}}
use Rattle.theorems.proofs.Making.{lives_on, makes_safe}

-- a run behind another one
both_through : {M : Type 0} (On : LogValue → M → LogValue → M → Type 0) (log mid next : LogValue) (m k n : M)
    (one two : List (LogValue × M)) → Through On log m one mid k → Through On mid k two next n → Through On log m (one ++ two) next n
both_through On log mid next m k n [] two first second = rw (first.0, first.1) at second
both_through On log mid next m k n (step ∷ one) two first second =
    (first.0, both_through On step.0 mid next step.1 k n one two first.1 second)

module _ {M : Type 0} {state : M → State} {Follows : M → M → Type 0} where
  pub run_then : {log mid next : LogValue} {m k n : M} → IsLogRun state Follows log m mid k → IsLogRun state Follows mid k next n
      → IsLogRun state Follows log m next n
  run_then first second = record {
    keeps_stays = second.keeps_stays ∙ first.keeps_stays;
    runs = λ keeps.
        let one = first.runs keeps in
        let two = second.runs (first.keeps_stays ∙ keeps) in
        (one.0 ++ two.0, both_through _ _ _ _ _ _ _ one.0 two.0 one.1 two.1);
  }

  pub run_none : {log : LogValue} {m : M} → IsLogRun state Follows log m log m
  run_none = record { keeps_stays = refl; runs = λ _. ([], (refl, refl)) }

  pub run_one : {log next : LogValue} {m n : M} → next.keeps ≡ log.keeps → (log.keeps ≡ true → RunsOn state Follows log m next n)
      → IsLogRun state Follows log m next n
  run_one {next = next} {n = n} stays on = record { keeps_stays = stays; runs = λ keeps. ((next, n) ∷ [], (on keeps, (refl, refl))) }

-- ---- what is one

module _ {M : Type 0} {state : M → State} {Follows : M → M → Type 0} (m : M) (log : LogValue) (live : log.dead ≡ false) where
  -- a flush is counted, or none is
  pub counts_runs : (log' : LogValue) → log' ≡ counted log → IsLogRun state Follows log m log' m
  counts_runs log' is = elim (cases_Bool (is_covered log)) [
    | inl covers ↦ rw (is, covers)
        (run_one refl (λ _. record { live = live; on = inl (inl (refl, inr (grind (arith, nat_tests, covers), refl))) }))
    | inr uncovered ↦ rw (is, uncovered) run_none
  ]

  -- a record is begun
  pub begins_runs : (numbers bytes : List ℕ) (firsts : List (List ℕ)) → HasRoom log → IsBatch log.shape numbers bytes
      → log.next < 2 ^ 63 - 1 → IsLogRun state Follows log m (begun numbers firsts bytes log) m
  begins_runs numbers bytes firsts room batch stamp =
      let takes : TakesRecord log (begun numbers firsts bytes log) = record {
        numbers = numbers;
        bytes = bytes;
        firsts = firsts;
        room = room;
        batch = batch;
        stamp = stamp;
        next_is = refl;
      } in
      run_one refl (λ _. record { live = live; on = inl (inl (refl, inl takes)) })

-- the log is given up
pub dies_runs : {M : Type 0} {state : M → State} {Follows : M → M → Type 0} (m : M) (log : LogValue)
    → IsLogRun state Follows log m (died log) m
dies_runs {state = state} {Follows = Follows} m log = elim (cases_Bool log.dead) [
  | inl dead ↦ subst (λ l. IsLogRun state Follows log m l m) (ap (λ (b : Bool). record log { dead = b }) dead) run_none
  | inr live ↦ run_one refl (λ _. record { live = live; on = inr (inl (refl, inl refl)) })
]

-- a step of the record under way is made, good or refused
pub stepped_on : {M : Type 0} {state : M → State} {Follows : M → M → Type 0} {m n : M} {log log' : LogValue}
    (result : Result Progress LogFault) → log.dead ≡ false → (log.keeps ≡ true → Steps state Follows log m log' n)
    → AnswersStep (λ progress. IsStepped progress log log') result log log' → IsLogRun state Follows log m log' n
stepped_on (Ok More) live steps answers =
    let is = answers.ok.1 in run_one (rw is refl) (λ keeps. record { live = live; on = inl (inr (inl (steps keeps), rw is live)) })
stepped_on (Ok Durable) live steps answers =
    let is = answers.ok.1 in run_one (rw is refl) (λ keeps. record { live = live; on = inl (inr (inl (steps keeps), rw is live)) })
stepped_on (Err e) live steps answers =
    let is = answers.err in run_one (rw is refl) (λ keeps. record { live = live; on = inr (inl (is, inr (inl (steps keeps)))) })

-- ---- every run is safe

module _ {M : Type 0} (state : M → State) (sound : (m : M) → IsSound (state m)) (Follows : M → M → Type 0) where
  -- a log that is dead, and its medium, of which a cut leaves what it may
  record Died (log : LogValue) (w : Written) (m : M) : Type 0 where
    dead : log.dead ≡ true
    rests : EachCut (MayLeave (state m).size w) (state m)

  -- once these records have become durable, the log is alive or dead
  abbrev Ran : LogValue → M → Written → List (List Entry) → Type 0
  Ran log m w more = (new : Written) × (new.opening ≡ w.opening) × (new.records ≡ w.records ++ more)
      × ((Logs log new × Kept new (state m)) ⊎ Died log new m)

  left_now : (w : Written) {m n : M} → LeavesOnly (MayLeave (state m).size w) (state m) (state n)
      → EachCut (MayLeave (state n).size w) (state n)
  left_now w {m} {n} leaves image cut =
      rw leaves.size_stays (leaves.each image ((sound n).counts_now (state m).calls image leaves.later cut))

  -- what a step leaves
  step_leaves : {log next : LogValue} {m n : M} {w : Written} → Logs log w → Kept w (state m) → RunsOn state Follows log m next n
      → LeavesOnly (MayLeave (state m).size w) (state m) (state n)
  step_leaves {m = m} {n = n} {w = w} logs kept r =
      let now = safe_log state sound logs kept refl refl in
      let stays : n ≡ m → LeavesOnly (MayLeave (state m).size w) (state m) (state n) =
      λ same. rw same (started (MayLeave (state m).size w) (state m) (sound m) now.safe.rests) in
      elim r.on [
        | inl on ↦ ⊎_elim (λ still. stays still.0) (λ calls. makes_safe state sound Follows now calls.0) on
        | inr other ↦ elim other [
          | inl dies ↦ ⊎_elim stays (λ calls. makes_safe state sound Follows now calls) dies.1
          | inr reads ↦ quiet_leaves _ (state m) (state n) (sound m) now.safe.rests reads.1.quiet
        ]
      ]

  run_on : {log next : LogValue} {m n : M} {w : Written} → Logs log w → Kept w (state m) → RunsOn state Follows log m next n
      → Ran next n w (landed_in log next)
  run_on {log} {next} {m} {n} {w} logs kept r = elim r.on [
    | inl on ↦ let g = lives_on state sound Follows log next m n w logs kept on in (g.0, g.3, g.4, inl (g.1, g.2))
    | inr other ↦ elim other [
      | inl dies ↦
          let none : landed_in log next ≡ [] = rw dies.0 (none_landed state sound log (died log) refl) in
          rw (none, append-nil) (w, refl, refl, inr (record { dead = rw dies.0 refl; rests = left_now w (step_leaves logs kept r) }))
      | inr reads ↦ rw (reads.0, none_landed state sound log log refl, append-nil)
          (w, refl, refl, inl (logs, quiet_kept kept reads.1.quiet))
    ]
  ]

  -- a dead log makes no step
  ended : (mid next : LogValue) (k n : M) (w new : Written) (more : List (List Entry)) → new.opening ≡ w.opening
      → new.records ≡ w.records ++ more → Died mid new k → (through : List (LogValue × M))
      → RunsThrough state Follows mid k through next n → Ran next n w (more ++ all_landed mid through)
  ended mid next k n w new more opening records dead [] runs = rw (runs.0, runs.1, append-nil) (new, opening, records, inr dead)
  ended mid next k n w new more opening records dead (step ∷ through) runs = absurd (cc (runs.0.live, dead.dead))

  run_through : {log next : LogValue} {m n : M} {w : Written} (through : List (LogValue × M)) → Logs log w → Kept w (state m)
      → RunsThrough state Follows log m through next n → Ran next n w (all_landed log through)
  run_through {w = w} [] logs kept runs = rw (runs.0, runs.1, append-nil) (w, refl, refl, inl (logs, kept))
  run_through {log} {next} {m} {n} {w} (mid ∷ through) logs kept runs =
      let a = run_on {next = mid.0} {n = mid.1} logs kept runs.0 in
      elim a.3 [
        | inl lives ↦
            let b = run_through {log = mid.0} {m = mid.1} through lives.0 lives.1 runs.1 in
            (b.0, b.1 ∙ a.1, rw (← append_assoc, ← a.2) b.2, b.3)
        | inr dead ↦ ended mid.0 next mid.1 n w a.0 (landed_in log mid.0) a.1 a.2 dead through runs.1
      ]

  pub every_run : EveryRunIsSafe state Follows
  every_run w count log m n through is runs =
      let end = run_through through (opened_logs state sound count is) (opened_kept (sound m) is) runs in
      let none : w.records ≡ [] = rw is.is refl in
      record {
        w = end.0;
        opening_is = end.1;
        records_are = end.2 ∙ ap (λ (l : List (List Entry)). l ++ all_landed (keeping_from w.shape w.first count) through) none;
        logs = λ live. ⊎_elim (λ lives. lives.0) (λ died. absurd (cc (live, died.dead))) end.3;
        rests = ⊎_elim (λ lives. (kept_safe state sound lives.1).rests) (λ died. died.rests) end.3;
        next = λ r. ⊎_elim (λ lives. step_leaves lives.0 lives.1 r) (λ died. absurd (cc (r.live, died.dead))) end.3;
      }
