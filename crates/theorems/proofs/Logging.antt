-- Each call that a redo log tells, which keeps its blocks, may be next, and every order of what it does is safe.
use Rattle.std.proofs.Common.{◌≡◌, ◌++◌, ◌∙◌, ⊎_elim, append-nil, append_assoc, ap, inl, inr, ℕ, ◌≤◌, List, [], ◌∷◌, refl, sym, arith}
use Rattle.std.proofs.{Common.{rules, subst}, lemmas.Bool.cases_lt, lemmas.Bool.Decides.nat_tests}
use Rattle.std.specs.Prelude.{◌^◌, Ok}
use Rattle.medium.specs.{Medium.{State, IsSound}, Performed.Performed, declared.medium_call.Call.Call}
use Rattle.medium.specs.declared.medium_call.Call.TheVariants.{Read, Write, Flush}
use Rattle.journal.specs.Record.{Entry}
use Rattle.logical_blocks.specs.Blocks.{Array}
use Rattle.redo_log.specs.{Value.{LogValue, keeping_from, settled, of_oldest, IsStepped}, declared.progress.Progress.Progress}
use Rattle.redo_log.specs.declared.progress.Progress.TheVariants.{More, Durable}
use Rattle.redo_log.proofs.RecordSteps.{none_written}
use Rattle.theorems.specs.{Ordering.{Written, barrier_of, MayBeNext, Opens}, Logging.{Logs, HasLanded, LogKeepsTheRules, unwritten, GoesOn}}
use Rattle.theorems.specs.Logging.{Through, EveryLogIsSafe, landed_in, all_landed, TurnsBy, RetiresBy, IsSafeLog}
use Rattle.theorems.proofs.{Ordering.{Kept, opened_kept, begins_kept, lands_kept, call_kept, kept_safe}, LoggedSteps.{begins, steps}}
use Rattle.theorems.proofs.{LoggedSteps.begun_is, LoggedTurns.{turns, settles, retires}}

opens : (w : Written) (count : ℕ) → w.shape.blocks ≤ 2 ^ 31 → 1 ≤ w.first → Logs (keeping_from w.shape w.first count) (unwritten w)
opens w count small least =
    let none = none_written (barrier_of (unwritten w)) 0 refl in
    record {
      records = grind (arith, small, least);
      parts = search (rules, arith, none);
      home = grind arith;
    }

pub keeps_the_rules : LogKeepsTheRules
keeps_the_rules = record {
  opens = λ w count small least. opens w count small least;
  begins = λ k. begins k;
  steps = λ progress k. steps k progress;
  turns = λ k. turns k;
  settles = λ k. settles k;
  retires = λ k. retires k;
}

-- ---- every order is safe

-- no call makes a record durable
call_keeps : (call : Call) (bytes : List ℕ) (w new : Written) → MayBeNext call bytes w new
    → (new.opening ≡ w.opening) × (new.records ≡ w.records) × (new.under_way ≡ w.under_way)
call_keeps (Write place) bytes w new may = ⊎_elim (λ r. rw r.new_is (refl, refl, refl))
    (⊎_elim (λ r. rw r.new_is (refl, refl, refl)) (λ r. rw r.new_is (refl, refl, refl))) may
call_keeps (Read place) bytes w new may = rw may (refl, refl, refl)
call_keeps Flush bytes w new may = rw may (refl, refl, refl)

-- nor a turn
turn_stays : {log next : LogValue} {call : Call} {bytes : List ℕ} → TurnsBy log call bytes next → next.steps_left ≡ log.steps_left
turn_stays {log} {next} by = elim by.1 [
  | inl home ↦ elim (cases_lt 3 (of_oldest log)) [
    | inl more ↦ rw (home.1.more more) refl
    | inr last ↦ rw (home.1.last (omega (arith, home.0, last))) refl
  ]
  | inr behind ↦ ⊎_elim (λ two. rw (behind.1.flush two) refl) (λ can. rw (behind.1.last (omega (arith, can.flushed))) refl) behind.0
]

retire_stays : {log next : LogValue} {first second : Call} {bytes had with : List ℕ} → RetiresBy log first second bytes had with next
    → next.steps_left ≡ log.steps_left
retire_stays by = rw (by.counted.last (omega (arith, by.one))) refl

module _ {M : Type 0} (state : M → State) (sound : (m : M) → IsSound (state m)) where
  -- what is kept of a log and its medium, once these records have become durable
  abbrev pub Grown : LogValue → M → Written → List (List Entry) → Type 0
  Grown log m w more = (new : Written) × Logs log new × Kept new (state m) × (new.opening ≡ w.opening) × (new.records ≡ w.records ++ more)

  pub none_landed : (log next : LogValue) → next.steps_left ≡ log.steps_left → landed_in log next ≡ []
  none_landed log next same = grind (arith, nat_tests, same)

  called : {w new : Written} {m n : M} (mid : Written) (call : Call) (bytes got : List ℕ) (progress : Progress) → Kept w (state m)
      → MayBeNext call bytes w mid → HasLanded progress mid new → Performed call bytes got (Ok tt) (state m) (state n) → Kept new (state n)
  called mid call bytes got More kept may lands made = rw lands (call_kept kept bytes _ call may made)
  called mid call bytes got Durable kept may lands made = lands_kept (call_kept kept bytes _ call may made) lands

  stepped : {log : LogValue} {w : Written} (next : LogValue) (mid new : Written) (call : Call) (bytes : List ℕ) (progress : Progress)
      → Logs log w
      → IsStepped progress log next → MayBeNext call bytes w mid → HasLanded progress mid new
      → (new.opening ≡ w.opening) × (new.records ≡ w.records ++ landed_in log next)
  stepped {log} {w} next mid new call bytes More logs is may lands =
      let none : landed_in log next ≡ [] = grind (arith, nat_tests, is.0) in
      let same = call_keeps call _ _ _ may in
      rw (lands, none, append-nil) (same.0, same.1)
  stepped {log} {w} next mid new call bytes Durable logs is may lands =
      let one : landed_in log next ≡ w.under_way ∷ [] = rw (is.0, is.1, begun_is logs) refl in
      let same = call_keeps call _ _ _ may in
      rw (lands.new_is, one, same.2, same.1) (same.0, refl)

  pub goes_on : {log next : LogValue} {m n : M} {w : Written} → Logs log w → Kept w (state m) → GoesOn state log m next n
      → Grown next n w (landed_in log next)
  goes_on {log} {next} {m} {n} {w} logs kept goes = elim goes [
    | inl still ↦ elim still.1 [
      | inl takes ↦
          let b = begins logs takes in
          let none : landed_in log next ≡ [] = grind (arith, nat_tests, takes.room.no_steps) in
          rw (still.0, none, append-nil) (b.0, b.2, begins_kept kept b.1, rw b.1.new_is refl, rw b.1.new_is refl)
      | inr covered ↦
          let none : landed_in log next ≡ [] = rw covered.1 (none_landed log (settled log) refl) in
          rw (still.0, none, append-nil, covered.1) (w, settles logs covered.0, kept, refl, refl)
    ]
    | inr calls ↦ elim calls [
      | inl c ↦ elim c.told [
        | inl by ↦
            let s = steps logs by.0 by.1 in
            let more = stepped next s.0 s.1 c.call c.bytes by.0 logs by.1.0 s.2 s.3 in
            (s.1, s.4, called s.0 c.call c.bytes c.got by.0 kept s.2 s.3 c.made, more.0, more.1)
        | inr by ↦
            let s = turns logs by in
            let none : landed_in log next ≡ [] = none_landed log next (turn_stays by) in
            let same = call_keeps c.call _ _ _ s.1 in
            rw (none, append-nil) (s.0, s.2, call_kept kept c.bytes _ c.call s.1 c.made, same.0, same.1)
      ]
      | inr c ↦
          let s = retires logs c.told in
          let mid = call_kept kept c.bytes _ c.first s.1 c.head in
          let none : landed_in log next ≡ [] = none_landed log next (retire_stays c.told) in
          let first = call_keeps c.first _ _ _ s.1 in
          let second = call_keeps c.second _ _ _ s.2.1 in
          rw (none, append-nil) (s.2.0, s.2.2, call_kept mid c.with _ c.second s.2.1 c.flush, second.0 ∙ first.0, second.1 ∙ first.1)
    ]
  ]

  -- each step of these keeps it
  abbrev pub Keeps : (LogValue → M → LogValue → M → Type 0) → Type 0
  Keeps On = (log next : LogValue) (m n : M) (w : Written) → Logs log w → Kept w (state m) → On log m next n
      → Grown next n w (landed_in log next)

  -- so it is safe
  abbrev pub safe_log : {opening : Array} {records : List (List Entry)} {log : LogValue} {m : M} {w : Written} → Logs log w
      → Kept w (state m) → w.opening ≡ opening → w.records ≡ records → IsSafeLog state opening records log m
  safe_log {w = w} logs kept opening records = record {
    w = w;
    opening_is = opening;
    records_are = records;
    logs = logs;
    safe = kept_safe state sound kept;
    between = λ by made. let s = retires logs by in (s.0, s.1, kept_safe state sound (call_kept kept _ s.0 _ s.1 made));
  }

  -- a log that is opened
  pub opened_logs : {w : Written} {m : M} (count : ℕ) → Opens w (state m) → Logs (keeping_from w.shape w.first count) w
  opened_logs {w} {m} count is =
      let keeps = (is.rests (state m).content (sound m).holds_content).keeps in
      subst (λ v. Logs (keeping_from w.shape w.first count) v) (sym is.is) (opens w count keeps.super.most_blocks keeps.head_is.least)

  module _ (On : LogValue → M → LogValue → M → Type 0) (on : Keeps On) where
    goes_through : {log next : LogValue} {m n : M} {w : Written} (through : List (LogValue × M)) → Logs log w → Kept w (state m)
        → Through On log m through next n → Grown next n w (all_landed log through)
    goes_through {w = w} [] logs kept goes = rw (goes.0, goes.1, append-nil) (w, logs, kept, refl, refl)
    goes_through {log} {next} {m} {n} {w} (mid ∷ through) logs kept goes =
        let a = on log mid.0 m mid.1 w logs kept goes.0 in
        let b = goes_through {log = mid.0} {m = mid.1} through a.1 a.2 goes.1 in
        (b.0, b.1, b.2, b.3 ∙ a.3, rw (← append_assoc, ← a.4) b.4)

    pub every_order : (w : Written) (count : ℕ) (log : LogValue) (m n : M) (through : List (LogValue × M)) → Opens w (state m)
        → Through On (keeping_from w.shape w.first count) m through log n
        → IsSafeLog state w.opening (all_landed (keeping_from w.shape w.first count) through) log n
    every_order w count log m n through is goes =
        let end = goes_through through (opened_logs count is) (opened_kept (sound m) is) goes in
        let none : w.records ≡ [] = rw is.is refl in
        safe_log end.1 end.2 end.3
        (end.4 ∙ ap (λ (l : List (List Entry)). l ++ all_landed (keeping_from w.shape w.first count) through) none)

  pub every_log : EveryLogIsSafe state
  every_log = every_order (GoesOn state) (λ log next m n w logs kept goes. goes_on logs kept goes)
