-- The calls that a redo log makes are those that it tells, and so every order of what is asked of it is safe.
use Rattle.std.proofs.Common.{◌≡◌, ◌⊎◌, ℕ, ◌-◌, ◌<◌, List, length, inl, inr, ⊎_elim, refl, arith, Bool, false, true, is_ok, Result, Ok, Err}
use Rattle.std.proofs.{Common.append-nil, lemmas.Bool.{cases_lt, cases_eq}, lemmas.List.nil_from_length}
use Rattle.medium.specs.{Medium.{State, Image, IsSound}, Moments.LeavesOnly, Performed.Performed, declared.fault.MediumFault.MediumFault}
use Rattle.medium.specs.{declared.medium_call.Call.Call, declared.medium_call.Call.TheVariants.{Write, Flush}}
use Rattle.medium.proofs.Moments.{started, weaker, joined_same}
use Rattle.journal.specs.Record.{Entry}
use Rattle.logical_blocks.specs.Blocks.{Array}
use Rattle.redo_log.specs.{Value.{LogValue, IsAway, CanPass, IsSentHome, IsRetireStepped, IsStepped, of_oldest}, Steps.{MakesStep, Unless}}
use Rattle.redo_log.specs.{Steps.{MakesRetireStep, MakesHomeAhead, MakesHeadAhead}, Told.{CallMade, FirstMade, BothMade, TurnMade, IsNext}}
use Rattle.redo_log.specs.{declared.fault.LogFault.LogFault, declared.progress.Progress.Progress}
use Rattle.redo_log.specs.declared.progress.Progress.TheVariants.{More, Durable}
use Rattle.redo_log.proofs.RecordSteps.{durable_of, retired_of}
use Rattle.theorems.specs.{Ordering.{Written, MayBeNext, MayLeave}, Logging.{Logs, GoesOn, StepsBy, TurnsBy, RetiresBy, IsSafeLog}}
use Rattle.theorems.specs.{Logging.{begun_of, landed_in}, Making.{Turns, MakesCalls, LivesOn, EveryMakingIsSafe}}
use Rattle.theorems.proofs.{LoggedSteps.steps, LoggedTurns.first_may, Ordering.Kept, Logging.{Keeps, Grown, none_landed, goes_on}}
use Rattle.theorems.proofs.Logging.{every_order}

-- a call that was good
good : {call : Call} {bytes got : List ℕ} {old new : State} (answer : Result (Unit {0}) MediumFault) → is_ok answer ≡ true
    → Performed call bytes got answer old new → Performed call bytes got (Ok tt) old new
good (Ok done) is made = made
good (Err e) is made = absurd (cc is)

-- what a cut may leave stays with a call
same_leaves : (call : Call) (bytes : List ℕ) (w new : Written) → MayBeNext call bytes w new → {before after : ℕ} → after ≡ before
    → (image : Image) → MayLeave after new image → MayLeave before w image
same_leaves (Write place) bytes w new may same image left = ⊎_elim (λ r. rw (r.new_is, same) at left)
    (⊎_elim (λ r. rw (r.new_is, same) at left) (λ r. rw (r.new_is, same) at left)) may
same_leaves call bytes w new may same image left = rw (may, same) at left

-- a record under way goes on
some_step : {log : LogValue} → 0 < log.steps_left → (progress : Progress) × ((next : LogValue) × IsStepped progress log next)
some_step {log} some = elim (cases_lt 1 log.steps_left) [
  | inl more ↦ (More, (record log { steps_left = log.steps_left - 1 }, (more, refl)))
  | inr last ↦ (Durable, (durable_of log, (omega (arith, some, last), refl)))
]

retires_last : {log : LogValue} → of_oldest log ≡ 1 → IsRetireStepped log (retired_of log)
retires_last one = record {
  some = omega (arith, one);
  home = λ away. absurd (omega (arith, one, away));
  flush = λ two. absurd (omega (arith, one, two));
  last = λ _. refl;
}

abbrev Stays : {M : Type 0} → LogValue → M → LogValue → M → Type 0
Stays log m next n = (next ≡ log) × (n ≡ m)

module _ {M : Type 0} (state : M → State) (sound : (m : M) → IsSound (state m)) (Follows : M → M → Type 0) where
  module _ {log : LogValue} {m n : M} where
    -- a told call that was good
    called : {next : LogValue} {Told : Call → List ℕ → Type 0} (c : CallMade Told true (state m) (state n))
        → ((progress : Progress) × StepsBy log c.call c.bytes progress next) ⊎ TurnsBy log c.call c.bytes next → GoesOn state log m next n
    called c told =
        let made = good c.answer c.answered c.performed in
        inr (inl (record { call = c.call; bytes = c.bytes; got = c.after; told = told; made = made }))

    -- ---- a turn that was good is one that the log tells
    first_on : {next : LogValue} (f : FirstMade log true (state m) (state n)) → TurnsBy log f.call.call f.call.bytes next
        → GoesOn state log m next n
    first_on f by = called f.call (inr by)

    -- two calls write the head and flush it, where the blocks are kept
    both_one : {made : Bool} → BothMade state log made m n → 0 < of_oldest log → log.keeps ≡ true → of_oldest log ≡ 1
    both_one b owed keeps = elim (cases_lt 2 (of_oldest log)) [
      | inl away ↦ absurd (cc (b.second.told.one (inr (away, keeps))))
      | inr behind ↦ ⊎_elim (λ two. absurd (cc (b.second.told.one (inl two)))) (λ not. omega (arith, owed, behind, not))
          (cases_eq (of_oldest log) 2)
    ]

    turn_on : {next : LogValue} → log.keeps ≡ true → TurnMade state log true m n → (IsAway log → IsSentHome log next)
        → (of_oldest log < 3 → IsRetireStepped log next) → GoesOn state log m next n
    turn_on keeps turn home behind = elim turn.calls [
      | inl f ↦ elim (f.alone refl) [
        | inl one ↦ ⊎_elim (λ two. first_on f (f.call.told, inr (inl two, behind (omega (arith, two)))))
            (λ kept. first_on f (f.call.told, inl (kept.0, home kept.0))) one
        | inr can ↦ first_on f (f.call.told, inr (inr can, behind (omega (arith, can.flushed))))
      ]
      | inr b ↦
          let one = both_one b turn.owed keeps in
          inr (inr (record {
            first = b.first.call;
            second = b.second.call;
            bytes = b.first.bytes;
            had = b.first.after;
            with = b.second.bytes;
            got = b.second.after;
            mid = b.mid;
            told = record { one = one; is_first = b.first.told; is_second = b.second.told; counted = behind (omega (arith, one)) };
            head = good b.first.answer b.first.answered b.first.performed;
            flush = good b.second.answer b.second.answered b.second.performed;
          }))
    ]

    -- ---- or no call is made
    retire_turn : (result : Result (Unit {0}) LogFault) {next : LogValue} → MakesRetireStep state Follows result log next m n
        → Stays log m next n ⊎ ((0 < length log.waiting) × TurnMade state log (is_ok result) m n)
    unfolding Unless
    retire_turn result made = elim (cases_lt 0 (length log.waiting)) [
      | inl some ↦ inr (some, made.told (λ none. absurd (omega (arith, rw none at some))))
      | inr none ↦ inl (let is = made.none (nil_from_length log.waiting (omega (arith, none))) in (is.1, is.2))
    ]

    home_turn : (result : Result (Unit {0}) LogFault) {next : LogValue} → MakesHomeAhead state Follows result log next m n
        → Stays log m next n ⊎ (IsAway log × TurnMade state log (is_ok result) m n)
    unfolding Unless
    home_turn result made = elim (cases_lt 2 (of_oldest log)) [
      | inl away ↦ inr (away, made.told (λ none. none away))
      | inr not ↦ inl (let is = made.none (λ away. omega (arith, not, away)) in (is.1, is.2))
    ]

    pass_turn : (result : Result (Unit {0}) LogFault) {next : LogValue} → MakesHeadAhead state Follows result log next m n
        → Stays log m next n ⊎ (CanPass log × TurnMade state log (is_ok result) m n)
    unfolding Unless
    pass_turn result {next} made =
        let none : ¬ CanPass log → Stays log m next n = λ not. let is = made.none not in (is.1, is.2) in
        elim (cases_eq (of_oldest log) 1) [
          | inl one ↦ elim (cases_lt (log.next - log.head) log.ring) [
            | inl room ↦
                let can : CanPass log = record { flushed = one; besides = room } in inr (can, made.told (λ none. none can))
            | inr full ↦ inl (none (λ can. omega (arith, full, can.besides)))
          ]
          | inr not ↦ inl (none (λ can. not can.flushed))
        ]

    -- ---- each makes a log go on as it tells
    pub step_on : {next : LogValue} (result : Result Progress LogFault) → MakesStep state Follows (begun_of log) result log next m n
        → next.dead ≡ false → GoesOn state log m next n
    step_on (Ok progress) made live = called made.told (inl (progress, (made.answers.ok, made.told.told)))
    step_on (Err e) made live = absurd (cc (made.answers.err, live))

    pub turned : {next : LogValue} → log.keeps ≡ true → (result : Result (Unit {0}) LogFault) → Turns state Follows log m result next n
        → next.dead ≡ false → GoesOn state log m next n ⊎ Stays log m next n
    turned keeps (Err e) made live = ⊎_elim (λ r. absurd (cc (r.answers.err, live)))
        (⊎_elim (λ r. absurd (cc (r.answers.err, live))) (λ r. absurd (cc (r.answers.err, live)))) made
    turned keeps (Ok done) made live = elim made [
      | inl r ↦ ⊎_elim inr (λ turn. let stepped = r.answers.ok turn.0 in inl (turn_on keeps turn.1 stepped.home (λ _. stepped)))
          (retire_turn (Ok done) r)
      | inr ahead ↦ elim ahead [
        | inl r ↦ ⊎_elim inr (λ turn. inl (turn_on keeps turn.1 r.answers.ok (λ low. absurd (omega (arith, low, turn.0)))))
            (home_turn (Ok done) r)
        | inr r ↦ ⊎_elim inr (λ turn. inl (turn_on keeps turn.1 (λ away. absurd (omega (arith, away, turn.0.flushed)))
            (λ _. r.answers.ok turn.0))) (pass_turn (Ok done) r)
      ]
    ]

  -- ---- what a cut leaves of what is asked next
  module _ {log : LogValue} {m : M} {opening : Array} {records : List (List Entry)} (now : IsSafeLog state opening records log m) where
    abbrev Left : Image → Type 0
    Left image = MayLeave (state m).size now.w image

    step_safe : {n : M} {made : Bool} → 0 < log.steps_left → CallMade (IsNext (begun_of log) log) made (state m) (state n)
        → LeavesOnly Left (state m) (state n)
    step_safe {n} some c =
        let next = some_step some in
        let may = steps now.logs next.0 (next.1.1, c.told) in now.safe.calls c.call c.bytes c.after c.answer may.0 n may.2 c.performed

    turn_safe : {n : M} {made : Bool} → TurnMade state log made m n → LeavesOnly Left (state m) (state n)
    turn_safe {n} turn = elim turn.calls [
      | inl f ↦
          let c = f.call in
          let may = first_may now.logs turn.owed c.told in now.safe.calls c.call c.bytes c.after c.answer may.0 n may.1 c.performed
      | inr b ↦
          let f = b.first in
          let s = b.second in
          let one = both_one b turn.owed now.logs.records.keeps in
          let may = first_may now.logs turn.owed f.told in
          let begun = now.safe.calls f.call f.bytes f.after f.answer may.0 b.mid may.1 f.performed in
          let by : RetiresBy log f.call s.call f.bytes f.after s.bytes (retired_of log) =
          record { one = one; is_first = f.told; is_second = s.told; counted = retires_last one } in
          let half = now.between by (good f.answer f.answered f.performed) in
          let flush : s.call ≡ Flush = cc (s.told.head one) in
          let ended = half.2.calls Flush s.bytes s.after s.answer (record half.0 { flushed = half.0.written }) n refl
          (rw flush at s.performed) in
          joined_same Left (state m) (state b.mid) (state n) begun
          (weaker (MayLeave (state b.mid).size half.0) Left (state b.mid) (state n)
          (same_leaves f.call f.bytes now.w half.0 half.1 begun.size_stays) ended)
    ]

    rests : {n : M} → n ≡ m → LeavesOnly Left (state m) (state n)
    rests same = rw same (started Left (state m) (sound m) now.safe.rests)

    turns_safe : {n : M} {next : LogValue} (result : Result (Unit {0}) LogFault) → Turns state Follows log m result next n
        → LeavesOnly Left (state m) (state n)
    turns_safe result made = ⊎_elim (λ r. ⊎_elim (λ stays. rests stays.1) (λ turn. turn_safe turn.1) (retire_turn result r))
        (⊎_elim (λ r. ⊎_elim (λ stays. rests stays.1) (λ turn. turn_safe turn.1) (home_turn result r))
        (λ r. ⊎_elim (λ stays. rests stays.1) (λ turn. turn_safe turn.1) (pass_turn result r))) made

    pub makes_safe : {n : M} {next : LogValue} → MakesCalls state Follows log m next n → LeavesOnly Left (state m) (state n)
    makes_safe = ⊎_elim (λ s. step_safe s.under_way s.made.told) (λ t. turns_safe t.0 t.1)

  stays_grown : {log next : LogValue} {m n : M} {w : Written} → Logs log w → Kept w (state m) → Stays log m next n
      → Grown state sound next n w (landed_in log next)
  stays_grown {log} {w = w} logs kept is =
      rw (is.0, is.1, none_landed state sound log log refl, append-nil) (w, logs, kept, refl, refl)

  pub lives_on : Keeps state sound (LivesOn state Follows)
  lives_on log next m n w logs kept on =
      let goes = λ (goes : GoesOn state log m next n). goes_on state sound logs kept goes in
      elim on [
        | inl still ↦ goes (inl still)
        | inr calls ↦ ⊎_elim (λ s. goes (step_on s.result s.made calls.1))
            (λ t. ⊎_elim goes (stays_grown logs kept) (turned logs.records.keeps t.0 t.1 calls.1)) calls.0
      ]

  pub every_making : EveryMakingIsSafe state Follows
  every_making w count log m n through is goes =
      let now = every_order state sound (LivesOn state Follows) lives_on w count log m n through is goes in
      record { now = now; next = makes_safe now }
