-- The steps of a store's log, and that each is one that the log may make.
use Rattle.std.proofs.Common.{◌≡◌, ℕ, ◌+◌, ◌<◌, ◌≤◌, [], length, inl, inr, arith, refl, sym, ◌∙◌, subst, Bool, true, false}
use Rattle.std.proofs.lemmas.{Bool.cases_lt, List.{nil_from_length, length-drop}}
use Rattle.std.specs.Prelude.{Result, Ok, Err}
use Rattle.medium.specs.Medium.{State}
use Rattle.journal.specs.declared.super_sector.Super.{Super}
use Rattle.redo_log.specs.Value.{LogValue, Owes, CanPass, IsAway, IsSentHome, IsRetireStepped, entries_of}
use Rattle.redo_log.specs.{Steps.{MakesTurns, MakesStep, CountsStep}, Held.View, declared.progress.Progress.Progress}
use Rattle.redo_log.specs.declared.fault.LogFault.{LogFault}
use Rattle.theorems.{specs.{Logging.begun_of, Making.{Steps, Turns}, LogRuns.IsLogRun}, proofs.LogRuns.{run_one, stepped_on}}
use Rattle.blocks.specs.{StoreValue.{Cached, is_dead}, Background.IsUnderWay, Kept.Invariant}

-- ---- what stays of a log of which a record goes home, is flushed there, or is retired

pub record Stays (old new : LogValue) : Type 0 where
  pub shape : new.shape ≡ old.shape
  pub ring : new.ring ≡ old.ring
  pub keeps : new.keeps ≡ old.keeps
  pub head : old.head ≤ new.head
  pub stamp : new.head + length new.waiting ≡ old.head + length old.waiting
  pub next : new.next ≡ old.next
  pub under_way : new.under_way ≡ old.under_way
  pub steps : new.steps_left ≡ old.steps_left
  pub retire : new.retire_steps_left ≤ old.retire_steps_left
  pub dead : new.dead ≡ old.dead
  pub copies : length old.copies ≡ length old.waiting → length new.copies ≡ length new.waiting

-- a retire step, or none where no record waits
pub retire_stays : (old new : LogValue) → (old.waiting ≡ [] → new ≡ old) → (0 < length old.waiting → IsRetireStepped old new)
    → Stays old new
retire_stays old new none some =
    let copies = length-drop 1 old.copies in
    let waiting = length-drop 1 old.waiting in
    grind (arith, cases_lt 0 (length old.waiting), nil_from_length old.waiting, none, some, copies, waiting)

-- the head goes past the oldest record, or stays; or a block of that goes home
pub past_stays : (old new : LogValue) → Owes old → ((CanPass old → ⊥) → new ≡ old) → (CanPass old → IsRetireStepped old new) → Stays old new
past_stays old new owes none some =
    let copies = length-drop 1 old.copies in
    let waiting = length-drop 1 old.waiting in
    grind (arith, owes, none, some, copies, waiting)

pub home_stays : (old new : LogValue) → IsAway old → IsSentHome old new → Stays old new
home_stays old new away sent = grind (arith, sent)

-- a call that brings the oldest record on, with a count of its calls, its writes and flushes, and its flushes
abbrev pub Made : {M : Type 0} → (M → State) → (M → M → Type 0) → (None Done : Type 0) → (count sends flushes : ℕ) → (View → View)
    → Result (Unit {0}) LogFault → (log log' : LogValue) → (m n : M) → Type 0
Made state Follows None Done count sends flushes after result log log' m n =
    MakesTurns state Follows None Done (CountsStep count sends flushes result (state m) (state n)) after result log log' m n

-- it is a step of the log
pub turn_runs : {M : Type 0} {state : M → State} {Follows : M → M → Type 0} {None Done : Type 0} {count sends flushes : ℕ}
    {after : View → View} {m n : M} {log log' : LogValue} (result : Result (Unit {0}) LogFault)
    → Made state Follows None Done count sends flushes after result log log' m n → (Done → Stays log log') → log.dead ≡ false
    → Turns state Follows log m result log' n → IsLogRun state Follows log m log' n
turn_runs (Ok x) called same live makes =
    let stay = same called.answers.ok in
    run_one stay.keeps (λ _. record { live = live; on = inl (inr (inr (Ok x, makes), stay.dead ∙ live)) })
turn_runs (Err e) called same live makes =
    let is = called.answers.err in
    run_one (rw is refl) (λ _. record { live = live; on = inr (inl (is, inr (inr (Err e, makes)))) })

-- the log keeps the bytes of the frozen batch as those of the record under way
abbrev pub IsKept : Cached → Type 0
IsKept s = s.log.keeps ≡ true → begun_of s.log ≡ entries_of s.frozen.numbers s.frozen.bytes

pub is_kept : {size : ℕ} {sizes : Super} {s : Cached} {writing ahead : Bool} → Invariant size sizes s writing ahead → IsUnderWay s
    → IsKept s
is_kept kept on keeps =
    rw (kept.under_way on.live on.under_way, (kept.copy on.live keeps on.under_way).last) refl

-- it is a step of the log, of the blocks that this keeps
pub step_runs : {M : Type 0} {state : M → State} {Follows : M → M → Type 0} {m n : M} (result : Result Progress LogFault) (s : Cached)
    (log' : LogValue) → is_dead s ≡ false → IsKept s → 0 < s.log.steps_left
    → MakesStep state Follows (entries_of s.frozen.numbers s.frozen.bytes) result s.log log' m n → IsLogRun state Follows s.log m log' n
step_runs {state = state} {Follows = Follows} {m = m} {n = n} result s log' live kept some called =
    let steps : s.log.keeps ≡ true → Steps state Follows s.log m log' n = λ keeps. record {
      under_way = some;
      result = result;
      made = subst (λ e. MakesStep state Follows e result s.log log' m n) (sym (kept keeps)) called;
    } in
    stepped_on result live steps called.answers
