-- What is true of every log, as a caller sees it, how its records come and go, and the calls of the record under way.
use Rattle.std.proofs.Common.{◌≡◌, ◌⊎◌, ℕ, ◌+◌, ◌-◌, ◌%◌, ◌<◌, List, [], ◌∷◌, ◌++◌, length, drop, sym, ◌∙◌, arith, rules, ◌≢◌, suc, ◌*◌}
use Rattle.std.proofs.{Common.{◌≤◌, get_or, refl, ap, zero, Result, is_ok, ⊎_elim}, Math.ListN.set, Math.Seq.set-append_seam}
use Rattle.std.proofs.{lemmas.Bool.Decides.nat_tests, lemmas.Bool.cases_Bool, Math.Nat.{mod-add-mod, mod-eq-sub-mod, mod-eq_of_lt}}
use Rattle.std.proofs.{Math.Nat.mul-le-mul_left, lemmas.List.{length-map, map_push, get_or_past}, lemmas.List.Sums.sum_by-cons}
use Rattle.std.proofs.lemmas.List.Sums.{sum_by-append, sum_by-le}
use Rattle.std.specs.Prelude.{All, sum_by, true, ◌^◌}
use Rattle.arrayvec.specs.ArrayVec.{ArrayVec}
use Rattle.journal.specs.{Places.{limit_of, first_home, sectors_of, Shape}, Formats.{shape_of, layout_of}}
use Rattle.journal.specs.{declared.super_sector.Super.Super, declared.log_format.LogFormat.LogFormat, Layout.Layout, Record.entries_of}
use Rattle.journal.specs.Record.{Entry}
use Rattle.journal.proofs.{Formats.sectors_are, BatchEntries.length_of_batch}
use Rattle.redo_log.specs.Value.{none_ahead, retire_steps_of, LogValue, HasRoom, most_retire_steps, steps_of, behind_oldest, of_oldest}
use Rattle.redo_log.specs.Value.{steps_for, next_sends, turns_sends, sends_of_oldest, most_retire_sends, step_flushes, next_step_flushes}
use Rattle.redo_log.specs.{Value.{IsCovered, settled, IsReadBack}, Shown.{AreInside, value_at, IsRecord, IsSized, lists_of, shown}}
use Rattle.redo_log.specs.{Shown.{Invariant, flush_of, written_at, flushed_at}, Held.{needed_of, made_of, turned_of, View, HoldsView}}
use Rattle.redo_log.specs.{Held.MayLeave, declared.log.Log.TheInside.Inside, Told.{IsFlushDue, IsNextCall, CallMade}, Steps.LeavesLog}
use Rattle.medium.specs.{declared.medium_call.Call.Call, Medium.{State, Passes, LooksOnly}, Moments.{LeavesOnly, SparesFrom}}
use Rattle.medium.specs.{declared.fault.MediumFault.MediumFault, Sent.sent, declared.medium_call.Call.TheVariants.{Read, Write, Flush}}
use Rattle.medium.specs.Performed.{Performed, fault_of, IsWithin, ReadsBefore, sends_of, flushes_of}
use Rattle.medium.proofs.{SectorsRead.looks_wider, Moments.weaker, CallsSent.{read_sends, write_sends, flush_sends}}
use Rattle.medium.specs.declared.fault.MediumFault.TheVariants as fault

-- where one is needed, one is left, or two whose flush was made
pub needed_one : (log : LogValue) → needed_of log ≡ 1
    → (of_oldest log ≡ 1) ⊎ ((of_oldest log ≡ 2) × (log.ahead.home ≡ log.head) × (log.ahead.before < log.head + length log.waiting))
needed_one log e = grind (arith, nat_tests, e)

-- two are left, and the flush was made
pub needed_covered : (log : LogValue) → IsCovered log → needed_of log ≡ needed_of (settled log)
needed_covered log covered = grind (arith, nat_tests, covered.oldest, covered.flushes, covered.since)

-- how old the record in a slot is
pub age_is : (slots head age slot : ℕ) → age < slots → slot ≡ (head + age) % slots → (slot + slots - head % slots) % slots ≡ age
age_is slots head age slot near is =
    let sum : slot ≡ (head % slots + age) % slots = is ∙ sym (mod-add-mod head slots age) in
    grind (arith, mod-eq-sub-mod, mod-eq_of_lt)

-- the record under way is durable
abbrev pub durable_of : LogValue → LogValue
durable_of log = record log { under_way = []; waiting = log.waiting ++ log.under_way ∷ []; steps_left = 0 }

-- the oldest record is retired
abbrev pub retired_of : LogValue → LogValue
retired_of log = record log {
  head = log.head + 1;
  waiting = drop 1 log.waiting;
  retire_steps_left = behind_oldest log;
  firsts = drop 1 log.firsts;
  copies = drop 1 log.copies;
  ahead = none_ahead;
}

-- what is true of every log
pub record IsLog (log : LogValue) : Type 0 where
  pub sized : IsSized log.shape
  pub ring : log.ring ≤ log.shape.slots
  -- a record under way has a stamp and a slot of its own
  pub record_is : 0 < log.steps_left → IsRecord log.shape (log.head + length log.waiting) log.under_way
  pub room : 0 < log.steps_left → length log.waiting < log.shape.slots
  pub few : length log.under_way ≤ limit_of log.shape.format
  pub most_left : log.steps_left ≤ steps_of log.shape.format log.under_way
  pub each : All (AreInside log.shape) log.waiting
  pub taken : length log.waiting ≤ log.next - log.head
  -- retire steps are owed to the oldest record that waits
  pub alone : length log.waiting ≡ 0 → log.retire_steps_left ≡ behind_oldest log
  pub owed : 0 < length log.waiting → 0 < of_oldest log
  pub owed_most : of_oldest log ≤ length (get_or log.waiting 0 []) + 2
  -- the head may go past a record that waits
  pub head_fits : 0 < length log.waiting → log.head + 1 < 2 ^ 63
  -- what went home ahead is retired, or its blocks are at home
  pub past : log.ahead.home ≤ log.head
  pub away : 2 < of_oldest log → log.ahead.home ≢ log.head

-- where a record is under way, its steps that are not left are made
pub made_is : (log : LogValue) → 0 < log.steps_left → made_of log ≡ steps_of log.shape.format log.under_way - log.steps_left
made_is log some = grind (arith, nat_tests)

pub none_made : (log : LogValue) → log.steps_left ≡ 0 → made_of log ≡ 0
none_made log none = grind (arith, nat_tests)

-- where retire steps are owed to the oldest record, one waits
pub one_waits : {log : LogValue} → IsLog log → 0 < of_oldest log → 0 < length log.waiting
one_waits {log} is owed = grind (arith, owed, is.alone)

-- ---- what the fields make of it

pub sizes_sized : (sizes : Super) → IsSized (shape_of sizes)
sizes_sized sizes = let behind = rw (← sectors_are sizes.format) at sizes.home_is.0 in search rules

-- the lists where one more is put into its place, behind the others
pub put_last : {X : Type 0} (records : List (ArrayVec X)) (place : ℕ) (none last : ArrayVec X) → place ≡ length records
    → lists_of (set (records ++ none ∷ []) place last) ≡ lists_of records ++ last.items ∷ []
put_last {X} records place none last is =
    let f : ArrayVec X → List X = λ r. r.items in
    rw (is, set-append_seam records none [] last, map_push f records last) refl

-- as many lists as records
pub many_lists : (records : List (ArrayVec ℕ)) → length (lists_of records) ≡ length records
many_lists records = let f : ArrayVec ℕ → List ℕ = λ r. r.items in length-map records f

pub log_is : (i : Inside) {log : LogValue} → shown i ≡ log → Invariant i → IsLog log
log_is i is inv =
    let record_is : 0 < (shown i).steps_left → IsRecord (shown i).shape (i.head + length (shown i).waiting) i.under_way.numbers =
    λ some. grind (arith, inv.each, many_lists i.waiting.items) in
    rw (← is) (grind (arith, inv.each, many_lists i.waiting.items, record_is, sizes_sized i.sizes))

-- ---- the oldest record, as others come and go

-- those of the oldest record and of the others
steps_of_all : (waiting : List (List ℕ))
    → sum_by retire_steps_of waiting ≡ retire_steps_of (get_or waiting 0 []) + sum_by retire_steps_of (drop 1 waiting)
steps_of_all waiting = grind (arith, sum_by-cons retire_steps_of)

-- with one more a log with room owes no more than its slots may need
pub few_begun : {log : LogValue} → IsLog log → HasRoom log → (numbers : List ℕ) → length numbers ≤ limit_of log.shape.format
    → log.retire_steps_left + retire_steps_of numbers ≤ most_retire_steps log.shape.format * log.shape.slots
few_begun {log} is room numbers few =
    let most = limit_of log.shape.format + 2 in
    let all : most * (length log.waiting + 1) ≤ most * log.shape.slots =
    mul-le-mul_left most (omega (arith, is.taken, is.ring, room.free)) in
    let newer = sum_by-le retire_steps_of most (drop 1 log.waiting) (λ i d below. grind (arith, is.each (suc i) d)) in
    grind (arith, newer, all, is.each 0 [], is.alone, is.owed_most, few, room.none_under_way)

module _ (log : LogValue) where
  -- the record that is durable now is the oldest one, and no turn of it is made
  pub durable_alone : IsLog log → 0 < log.steps_left → length log.waiting ≡ 0
      → (2 < of_oldest (durable_of log)) × (turned_of (durable_of log) ≡ 0)
  durable_alone is left none = grind (arith, is.alone, is.record_is)

  -- or the oldest one stays it
  pub durable_more : 0 < length log.waiting
      → (of_oldest (durable_of log) ≡ of_oldest log) × (turned_of (durable_of log) ≡ turned_of log)
  durable_more some = grind (arith, sum_by-append, sum_by-cons)

  -- of the record behind the oldest no block is home, and it is not flushed there
  pub nothing_home : (i : ℕ) → i < turned_of (retired_of log) → ¬ (i < length (get_or (drop 1 log.waiting) 0 []))
  nothing_home i low high = grind (arith, steps_of_all (drop 1 log.waiting), low, high)

  pub not_homed : of_oldest (retired_of log) ≢ 1
  not_homed one = grind (arith, steps_of_all (drop 1 log.waiting), one)

-- as fields have it, the log with the oldest record retired
pub retired_value : (i : Inside) {log : LogValue} → shown i ≡ log → Invariant i → 0 < length (lists_of i.waiting.items)
    → value_at none_ahead (shape_of i.sizes) (i.head + 1) (drop 1 (lists_of i.waiting.items))
    0 (record { ring = i.ring; keeps = i.copies.keeps; firsts = drop 1 (lists_of i.firsts.items); copies = drop 1 i.copies.kept })
    i.under_way.numbers i.made i.dead ≡ retired_of log
retired_value i is inv some = rw (← is) (grind (arith, inv.each 1 [], steps_of_all (drop 1 (lists_of i.waiting.items))))

-- ---- the calls of a record

-- a told call is made, or it is refused
abbrev pub call_made : {Told : Call → List ℕ → Type 0} {call : Call} {bytes after : List ℕ} {answer : Result (Unit {0}) MediumFault}
    {old new : State} → Told call bytes → Performed call bytes after answer old new → CallMade Told (is_ok answer) old new
call_made {call = call} {bytes = bytes} {after = after} {answer = answer} told performed =
    record { call = call; bytes = bytes; after = after; answer = answer; told = told; performed = performed; answered = refl }

-- what steps of a log leave, by what a cut leaves of it
pub leaves_log : {log : LogValue} {old new : State} → ((view : View) → HoldsView log old view → view.ours ≡ true
    → LeavesOnly (MayLeave old.size log view) old new) → SparesFrom (sectors_of log.shape) old new
    → LooksOnly (IsReadBack log) old new → LeavesLog log old new
leaves_log cuts spares looks = let moments = weaker _ (λ _. Unit {0}) _ _ (λ image left. tt) spares.moments in search rules

-- a call that reads nothing at home, and nothing at all where the blocks are kept
pub reads_back : (log : LogValue) {call : Call} {bytes after : List ℕ} {result : Result (Unit {0}) MediumFault} {old new : State}
    → Performed call bytes after result old new → ReadsBefore (first_home log.shape) call → (log.keeps ≡ true → ReadsBefore 0 call)
    → LooksOnly (IsReadBack log) old new
reads_back log {old = old} {new = new} made before none = ⊎_elim
    (λ keeps. looks_wider (λ s. s < 0) (IsReadBack log) old new (λ s low. absurd (omega (arith, low))) (made.looks 0 (none keeps)))
    (λ not. looks_wider (λ s. s < first_home log.shape) (IsReadBack log) old new (λ s low. (not, low))
    (made.looks (first_home log.shape) before)) (cases_Bool log.keeps)

-- a barrier has a flush
pub flush_of_is : (e : ℕ) → ((e ≡ 0) × (flush_of e ≡ 0)) ⊎ ((0 < e) × (flush_of e ≡ 1))
unfolding flush_of
flush_of_is e = grind (arith, nat_tests)

-- they come first, and then it
pub written_is : (e made : ℕ) → ((made ≤ e) × (written_at e made ≡ made) × (flushed_at e made ≡ 0))
    ⊎ ((e < made) × (written_at e made ≡ made - flush_of e) × (flushed_at e made ≡ e))
unfolding written_at flushed_at
written_is e made = grind (arith, nat_tests)

-- the steps are a call for each part, a flush, and one at the barrier where there is one
pub steps_are : (format : LogFormat) (n : ℕ)
    → steps_for format n ≡ (layout_of format).parts n + 1 + flush_of ((layout_of format).before_barrier n)
steps_are format n = grind (arith, flush_of_is)

-- all parts are written with the last call but one, and those before the barrier are flushed then
pub all_written : (e parts made : ℕ) → e < parts → ((parts ≤ written_at e made) × (e ≤ flushed_at e made) × (parts + flush_of e ≤ made))
    ⊎ ((written_at e made < parts) × (made < parts + flush_of e))
all_written e parts made late = grind (arith, written_is e made, flush_of_is e, late)

-- the flush at the barrier
pub barrier_written : (e made next : ℕ) → next ≡ made + 1 → 0 < e → made ≡ e
    → (written_at e next ≡ written_at e made) × (flushed_at e next ≡ written_at e made)
barrier_written e made next one some is = grind (arith, written_is e made, written_is e next, flush_of_is e)

-- a part is written
pub part_written : (e made next : ℕ) → next ≡ made + 1 → (e ≤ 0) ⊎ (made ≢ e)
    → (written_at e next ≡ written_at e made + 1) × (flushed_at e next ≡ flushed_at e made)
part_written e made next one not = grind (arith, written_is e made, written_is e next, flush_of_is e, not)

-- nothing is written at first
pub none_written : (e made : ℕ) → made ≡ 0 → (written_at e made ≡ 0) × (flushed_at e made ≡ 0)
none_written e made none = grind (arith, written_is e made)

-- a flush is due, or it is not
pub due_or_not : (L : Layout) (n made : ℕ) → IsFlushDue L n made ⊎ (¬ IsFlushDue L n made)
due_or_not L n made = grind arith

-- a record needs steps
pub steps_some : (format : LogFormat) (n : ℕ) → 0 < steps_for format n
steps_some format n = grind arith

-- a flush is due with the last step, and in format 1 before the commit
flushes_due : (format : LogFormat) (n made left : ℕ) → made + left ≡ steps_for format n → 0 < left
    → (IsFlushDue (layout_of format) n made × (step_flushes format left ≡ 1))
    ⊎ ((¬ IsFlushDue (layout_of format) n made) × (step_flushes format left ≡ 0))
flushes_due format n made left sum some = grind (arith, nat_tests, written_is, flush_of_is, sum)

-- the next call of a record makes the flushes of the step
pub step_flushed : {log : LogValue} → IsLog log → 0 < log.steps_left → {numbers : List ℕ} (bytes : List ℕ) → numbers ≡ log.under_way
    → length bytes ≡ 512 * length numbers → (call : Call) {sector : List ℕ}
    → IsNextCall (layout_of log.shape.format) log.shape (log.head + length log.waiting) (entries_of numbers bytes) (made_of log) call sector
    → {result : Result (Unit {0}) MediumFault} → {old new : State} → Passes (fault_of call) result old new
    → new.made fault.Flush ≡ old.made fault.Flush + next_step_flushes log
step_flushed {log} is some {numbers} bytes same size call next {result} {old} {new} passes =
    let n : ℕ = length (entries_of numbers bytes) in
    let many : length log.under_way ≡ n = sym (length_of_batch numbers bytes ∙ ap (λ (l : List ℕ). length l) same) in
    let sum : made_of log + log.steps_left ≡ steps_for log.shape.format n =
    omega (arith, made_is log some, is.most_left, ap (λ (k : ℕ). steps_for log.shape.format k) many) in
    let due = flushes_due log.shape.format n (made_of log) log.steps_left sum some in
    grind (arith, due, next, passes.others_made fault.Flush, passes.made_is)

-- no step makes more than two writes and flushes
pub few_next : (log : LogValue) → next_sends log ≤ 2
few_next log = grind arith

-- each block is written home once, and a flush, the head and a flush follow
sends_few : (left : ℕ) → turns_sends left ≤ left + 1
sends_few zero = grind arith
sends_few (suc left) = grind (arith, sends_few left)

-- those of the oldest record of a log
pub few_of_oldest : (i : Inside) (log : LogValue) → Invariant i → shown i ≡ log
    → sends_of_oldest log ≤ most_retire_sends log.shape.format
few_of_oldest i log inv same =
    let is = log_is i same inv in
    grind (arith, sends_few (of_oldest log), is.owed_most, is.each 0 [], get_or_past log.waiting 0 [])

-- more sectors are enough too
pub within_more : (few many : ℕ) → few ≤ many → (call : Call) → IsWithin few call → IsWithin many call
within_more few many le call inside = grind (arith, inside)

-- how many it sends
pub one_sent : (call : Call) (old new : State) {result : Result (Unit {0}) MediumFault} → Passes (fault_of call) result old new
    → (sent new ≡ sent old + sends_of call) × (new.made fault.Flush ≡ old.made fault.Flush + flushes_of call)
one_sent (Read place) old new p =
    (omega (arith, read_sends old new p), omega (arith, p.others_made fault.Flush (λ e. cc e)))
one_sent (Write place) old new p =
    (omega (arith, write_sends old new p), omega (arith, p.others_made fault.Flush (λ e. cc e)))
one_sent Flush old new p = (omega (arith, flush_sends old new p), omega (arith, p.made_is))

pub few_sends : (call : Call) → sends_of call ≤ 1
few_sends call = grind arith

-- the next call of a record is no read
pub reads_nothing : (L : Layout) (shape : Shape) (stamp : ℕ) (entries : List Entry) (made : ℕ) (call : Call) (sector : List ℕ)
    → IsNextCall L shape stamp entries made call sector → (end : ℕ) → ReadsBefore end call
reads_nothing L shape stamp entries made call sector next end = grind (arith, due_or_not L (length entries) made, next)
