-- How room is made in the ring, what a batch costs that becomes durable, and how records alone fill the ring and keep it steady.
use Rattle.std.proofs.{Common.{rules, ◌≡◌, ◌⊎◌, ◌<◌, ◌≤◌, ◌+◌, ◌-◌, ◌*◌, arith, length-append, refl, inl}, lemmas.Bool.Decides.nat_tests}
use Rattle.std.{proofs.lemmas.{Bool.cases_Bool, List.{Sums.{sum_by-cons, sum_by_push}, Elements.{All-push, All-drop}}}, specs.Prelude.ℕ}
use Rattle.std.specs.Prelude.{zero, suc, List, [], ◌∷◌, ◌++◌, length, drop, sum_by, All, true, Bool}
use Rattle.medium.specs.{Medium.State, Sent.sent, declared.fault.MediumFault.TheVariants.Flush}
use Rattle.journal.specs.{declared.log_format.LogFormat.TheVariants.Two, Places.{Shape, limit_of}}
use Rattle.redo_log.specs.Value.{LogValue, behind_oldest, of_oldest, ahead_of, home_calls, retire_steps_of, settled, begun, turns_calls}
use Rattle.redo_log.specs.Value.{HasRoom, IsStepped, IsRetireStepped, steps_of, turn_calls, turn_sends, turns_sends, turn_flushes}
use Rattle.redo_log.specs.Value.{turns_flushes, next_step_flushes, steps_flushes, AllFirsts, IsAway, IsSentHome, next_calls, next_sends}
use Rattle.redo_log.specs.{Value.{sends_of_oldest, most_retire_sends, empty_from}, declared.progress.Progress.Progress}
use Rattle.theorems.specs.Ahead.{oldest_retired, ahead_room, ahead_room_calls, passed, sent_home, passed_calls, sent_calls, gone_home}
use Rattle.theorems.specs.{Ahead.{going_calls, may_go_by}, Retiring.{wants, firsts_in, written_out, finished_with, finished, both_calls}}
use Rattle.theorems.specs.Retiring.{with_room, finished_from, finish_calls, ready_calls, made_ready, record_calls, calls_from, to_begin}
use Rattle.theorems.specs.{Retiring.{with_spare, room_calls, left_flushes, room_flushes, finish_flushes, both_flushes}, Room.HasSlots}
use Rattle.theorems.specs.{Room.NeedsNoneAhead, Steady.{IsSteady, IsFilling, IsFuller, finished_each, ReachesSteady, second_of}}
use Rattle.theorems.specs.Steady.{steady_calls}
use Rattle.cache.specs.Entries.{Entries}

-- between two moments calls, writes and flushes were made as for these steps: all but so many that are left
pub record Spends (keeps : Bool) (left all : ℕ) (before after : State) : Type 0 where
  pub calls : after.calls + turns_calls keeps left ≡ before.calls + turns_calls keeps all
  pub sends : sent after + turns_sends left ≤ sent before + turns_sends all
  pub flushes : after.made Flush + turns_flushes left ≡ before.made Flush + turns_flushes all

-- so far nothing but retire steps of the oldest record were made, or it is retired
pub record Retires (old new : LogValue) (before after : State) : Type 0 where
  pub so_far : ((new ≡ record old { retire_steps_left = new.retire_steps_left; ahead = new.ahead })
      × Spends old.keeps (of_oldest new) (of_oldest old) before after)
      ⊎ ((new ≡ oldest_retired old) × Spends old.keeps 0 (of_oldest old) before after)

pub retires_none : (log : LogValue) (m : State) → Retires log log m m
retires_none log m = record { so_far = inl (refl, record { calls = refl; sends = omega arith; flushes = refl }) }

-- a log without room, on the way from this one
pub record IsFull (old mid : LogValue) : Type 0 where
  pub full : HasRoom mid → ⊥
  pub under_way : mid.under_way ≡ []
  pub idle : mid.steps_left ≡ 0
  pub ring : old.next ≤ old.head + old.ring
  pub some : 1 ≤ old.ring

-- one step more, refused or good
pub retires_refused : {old mid : LogValue} {before between : State} → IsFull old mid → Retires old mid before between → (after : State)
    → sent after ≤ sent between + turn_sends (of_oldest mid) → sent after ≤ sent before + turns_sends (of_oldest old)
retires_refused full made after sends = grind (arith, full, made, sends)

pub retires_more : {old mid new : LogValue} {before between after : State} → IsFull old mid → Retires old mid before between
    → IsRetireStepped mid new → after.calls ≡ between.calls + turn_calls mid.keeps (of_oldest mid)
    → sent after ≤ sent between + turn_sends (of_oldest mid) → after.made Flush ≡ between.made Flush + turn_flushes (of_oldest mid)
    → Retires old new before after
retires_more full made stepped calls sends flushes = grind (arith, nat_tests, full, made, stepped, calls, sends, flushes)

-- then there is room for one record: none is retired where a slot was free, and else the oldest
pub retires_room : {old new : LogValue} {before after : State} → (HasRoom old → (new ≡ old) × (after ≡ before)) → HasRoom new
    → Retires old new before after → (new ≡ with_room old) × (after.calls ≡ before.calls + room_calls old)
    × (after.made Flush ≡ before.made Flush + room_flushes old)
retires_room stays room made = grind (arith, nat_tests, stays, room, made.so_far)

-- one step more of the record under way, which is not its last, or is
pub writes_on : (old : LogValue) {mid new : LogValue} (progress : Progress) → 0 < mid.steps_left → IsStepped progress mid new
    → mid ≡ record old { steps_left = mid.steps_left }
    → (0 < new.steps_left → (new ≡ record old { steps_left = new.steps_left }) × (new.steps_left + 1 ≡ mid.steps_left))
    × (new.steps_left ≡ 0 → (new ≡ written_out old) × (mid.steps_left ≡ 1)) × (left_flushes mid ≡ next_step_flushes mid + left_flushes new)
writes_on old progress some stepped same = grind (arith, nat_tests, some, stepped, same)

-- in format 2 the last step alone is a flush
pub steps_once : (left : ℕ) → 0 < left → steps_flushes Two left ≡ 1
steps_once zero some = absurd (omega (arith, some))
steps_once (suc zero) some = refl
steps_once (suc (suc left)) some = grind (arith, nat_tests, steps_once (suc left))

module _ (ahead : Bool) (frozen active : List ℕ) (log : LogValue) where
  -- where a slot is free a sync of one batch flushes once
  pub once : log.shape.format ≡ Two → HasRoom log → frozen ≡ [] → 0 < length active → both_flushes ahead frozen active log ≡ 1
  once two room none some = grind (arith, nat_tests, steps_once)

  -- where a slot is free for each record that is to be begun, a sync makes the calls of the records
  pub roomy_both : HasSlots (with_spare ahead (to_begin frozen log + wants active)) log
      → both_calls ahead frozen active log ≡ record_calls frozen log + calls_from 0 log.shape.format active
  roomy_both slots = grind (arith, nat_tests)

-- what a batch costs does not depend on the bytes of the one before it
calls_one : (numbers : List ℕ) (log : LogValue) (k : AllFirsts) (c : List (List ℕ))
    → finish_calls true numbers (record log { firsts = k; copies = c }) ≡ finish_calls true numbers log
calls_one numbers log k c = grind (arith, nat_tests)

pub costs_behind : (ahead : Bool) (steps : ℕ) (frozen active : List ℕ) (firsts : List (List ℕ)) (copy : List ℕ) (log : LogValue)
    → (finish_calls ahead active (finished_from ahead steps frozen firsts copy log)
    ≡ finish_calls ahead active (finished_from ahead steps frozen [] [] log))
    × (finish_flushes active (finished_from ahead steps frozen firsts copy log)
    ≡ finish_flushes active (finished_from ahead steps frozen [] [] log))
costs_behind ahead steps frozen active firsts copy log = grind (arith, nat_tests, calls_one)

module _ (ahead : Bool) (numbers : List ℕ) where
  -- what a batch costs whose record is to be begun
  pub begun_costs : (log : LogValue) → log.steps_left ≡ 0 → 0 < length numbers
      → (finish_calls ahead numbers log ≡ ready_calls ahead log + steps_of log.shape.format numbers)
      × (finish_flushes numbers log ≡ room_flushes log + steps_flushes log.shape.format (steps_of log.shape.format numbers))
  begun_costs log idle some = grind (arith, nat_tests)

  -- no step is left of a batch that is durable
  pub idle_behind : (log : LogValue) → (finished_with ahead numbers [] [] log).steps_left ≡ 0
  idle_behind log = grind (arith, nat_tests)

  module _ (firsts : List (List ℕ)) (copy : List ℕ) where
    -- its record was under way, or it is written behind a log that has room
    pub finishes_under_way : (log : LogValue) → 0 < log.steps_left → written_out log ≡ finished_with ahead numbers firsts copy log
    finishes_under_way log some = grind (arith, nat_tests)

    pub made_finished : (old mid new : LogValue) → old.steps_left ≡ 0 → 0 < length numbers → mid ≡ made_ready ahead old
        → new ≡ written_out (begun numbers firsts copy mid) → new ≡ finished_with ahead numbers firsts copy old
    made_finished old mid new idle some ready is = grind (arith, nat_tests)

-- a slot is free, and so still
pub free_is : (log : LogValue) → HasRoom log → HasRoom (sent_home (passed log)) × (ahead_room log ≡ sent_home (passed log))
    × (ahead_room_calls log ≡ passed_calls log + sent_calls (passed log)) × (room_flushes log ≡ 0)
free_is log room = grind (arith, nat_tests)

-- A block is away still, or none was; or all are home. What the steps that are left cost is added to what was made so far.
pub record GoesHome (old new : LogValue) (calls calls' sends sends' : ℕ) : Type 0 where
  pub home : ((new ≡ record old { retire_steps_left = new.retire_steps_left }) × (2 < of_oldest old → 2 < of_oldest new)
      × (of_oldest old ≤ 2 → new ≡ old))
      ⊎ ((2 < of_oldest old) × (new ≡ record old { retire_steps_left = behind_oldest old + 2; ahead = ahead_of old }))
  pub costs : calls' + turns_calls old.keeps (of_oldest new) ≡ calls + turns_calls old.keeps (of_oldest old)
  pub sent : sends' + turns_sends (of_oldest new) ≤ sends + turns_sends (of_oldest old)

pub begins_home : (log : LogValue) (calls sends : ℕ) → GoesHome log log calls calls sends sends
begins_home log calls sends = grind (arith, nat_tests)

-- two steps are three calls and sends, and more are never fewer
rest : (keeps : Bool) (left : ℕ) → 2 ≤ left → (3 ≤ turns_calls keeps left) × (3 ≤ turns_sends left)
rest keeps zero two = absurd (omega (arith, two))
rest keeps (suc zero) two = absurd (omega (arith, two))
rest keeps (suc (suc zero)) two = (omega arith, omega arith)
rest keeps (suc (suc (suc left))) two = grind (arith, rest keeps (suc (suc left)))

module _ {old mid : LogValue} {calls calls' sends sends' : ℕ} (so_far : GoesHome old mid calls calls' sends sends') where
  pub goes_on_home : {new : LogValue} {calls'' sends'' : ℕ} → IsAway mid → IsSentHome mid new → calls'' ≡ calls' + next_calls mid
      → sends'' ≤ sends' + next_sends mid → GoesHome old new calls calls'' sends sends''
  goes_on_home away sent made few = grind (arith, nat_tests)

  -- no block is away any more
  pub all_home : (IsAway mid → ⊥) → (mid ≡ gone_home old) × (calls' ≡ calls + going_calls old)
  all_home home = grind (arith, nat_tests, rest)

  -- one more turn, good or refused, and all that were made
  pub few_home : {made : ℕ} → (made ≤ sends') ⊎ (IsAway mid × (made ≤ sends' + next_sends mid))
      → sends_of_oldest old ≤ most_retire_sends old.shape.format → made ≤ sends + limit_of old.shape.format
  few_home more few = grind (arith, nat_tests, more, rest old.keeps (of_oldest mid), rest old.keeps (of_oldest mid - 1))

-- where nothing is to be done ahead nothing is done, by no call
pub none_ahead : (log : LogValue) → NeedsNoneAhead log
    → (sent_home (passed log) ≡ log) × (passed_calls log ≡ 0) × (sent_calls (passed log) ≡ 0)
none_ahead log rests = grind (arith, nat_tests, rests)

-- each of these records has blocks
abbrev pub HaveBlocks : List (List ℕ) → Type 0
HaveBlocks records = All (λ numbers. 0 < length numbers) records

-- a record behind the others has blocks too
pub blocks_more : (records : List (List ℕ)) (numbers : List ℕ) → HaveBlocks records → 0 < length numbers
    → HaveBlocks (records ++ numbers ∷ [])
blocks_more records numbers each some = All-push (λ r. 0 < length r) records numbers each some

pub blocks_behind : (records : List (List ℕ)) → HaveBlocks records → HaveBlocks (drop 1 records)
blocks_behind records each = All-drop (λ r. 0 < length r) 1 records each

-- the steps of a ring are those of its oldest record, which are three at least, and of those behind it
pub first_owed : (w : List (List ℕ)) → 0 < length w → HaveBlocks w → 3 + sum_by retire_steps_of (drop 1 w) ≤ sum_by retire_steps_of w
first_owed w some each = grind (arith, sum_by-cons retire_steps_of, each 0 [])

-- those behind the oldest, and one more
pub behind_more : (w : List (List ℕ)) (numbers : List ℕ) → 0 < length w
    → sum_by retire_steps_of (drop 1 (w ++ numbers ∷ [])) ≡ sum_by retire_steps_of (drop 1 w) + retire_steps_of numbers
behind_more w numbers some = grind (arith, sum_by_push retire_steps_of)

-- the log with one record more, and the same log whose oldest record is home
abbrev pub with_more : List ℕ → List (List ℕ) → List ℕ → LogValue → LogValue
with_more numbers firsts copy log = written_out (begun numbers firsts copy log)

abbrev pub home_of : LogValue → LogValue
home_of log = record log { retire_steps_left = behind_oldest log + 2; ahead = ahead_of log }

-- Where its oldest record is home, and one slot is free once the next one is written, the ring is steady then.
then_steady : (numbers : List ℕ) (firsts : List (List ℕ)) (copy : List ℕ) (log : LogValue) → log.under_way ≡ [] → 0 < length log.waiting
    → HaveBlocks log.waiting → 0 < length numbers → ((log.next + 1) - log.head) + 1 ≡ log.ring
    → IsSteady (with_more numbers firsts copy (home_of log))
then_steady numbers firsts copy log under_way waits each some one_free = grind (arith, nat_tests, length-append, behind_more, blocks_more)

-- three slots are free, and nothing is done for room; or two are, and the oldest record goes home
fills_room : (log : LogValue) → IsFilling log → HaveBlocks log.waiting → ((ahead_room log ≡ log) × (length log.waiting + 3 ≤ log.ring))
    ⊎ ((ahead_room log ≡ home_of log) × (length log.waiting + 2 ≡ log.ring))
fills_room log f each = grind (arith, nat_tests, first_owed log.waiting)

-- how many steps the next record still needs, once the oldest one is passed
steady_left : (log : LogValue) → IsSteady log → of_oldest (oldest_retired (settled log)) ≡ length (second_of log) + 2
steady_left log s = grind (arith, sum_by-cons retire_steps_of)

module _ (numbers : List ℕ) (firsts : List (List ℕ)) (copy : List ℕ) (log : LogValue) where
  pub finished_is : log.steps_left ≡ 0 → 0 < length numbers
      → finished_with true numbers firsts copy log ≡ with_more numbers firsts copy (ahead_room log)
  finished_is idle some = grind (arith, nat_tests)

  -- a ring that fills comes by one record more, and is steady where only one slot is left then
  pub fills : IsFilling log → HaveBlocks log.waiting → 0 < length numbers → IsFuller log (finished_with true numbers firsts copy log)
      × HaveBlocks (finished_with true numbers firsts copy log).waiting × ((finished_with true numbers firsts copy log).ring ≡ log.ring)
  fills f each some = search (rules, arith, length-append, fills_room, then_steady, finished_is, blocks_more, sum_by_push)

  -- a steady one stays
  pub keeps_on : IsSteady log → HaveBlocks log.waiting → 0 < length numbers
      → IsSteady (finished_with true numbers firsts copy log) × HaveBlocks (finished_with true numbers firsts copy log).waiting
  keeps_on s each some =
      let is : ahead_room log ≡ home_of (oldest_retired (settled log)) = grind (arith, nat_tests, steady_left log s) in
      let rest = blocks_behind log.waiting each in
      let steady = then_steady numbers firsts copy (oldest_retired (settled log)) s.none_under_way (grind (arith, s)) rest some
      (omega (arith, s.one_free)) in
      rw (finished_is s.idle some, is) (steady, blocks_more (drop 1 log.waiting) numbers rest some)

-- all steps of a record of count blocks
all_calls : (keeps : Bool) (count : ℕ) → turns_calls keeps (count + 2) ≡ home_calls keeps * count + 3
all_calls keeps zero = omega arith
all_calls keeps (suc count) = grind (arith, cases_Bool keeps, all_calls keeps count)

-- a sync of one batch: room for its record is the head, and one record's way home
pub steady_sync : (numbers active : List ℕ) (log : LogValue) → IsSteady log → numbers ≡ [] → 0 < length active
    → both_calls true numbers active log ≡ steady_calls active log
steady_sync numbers active log s none some = grind (arith, nat_tests, begun_costs true active log, steady_left log s, all_calls)

keeps_each : (batches : List Entries) (log : LogValue) → IsSteady log → HaveBlocks log.waiting → All (λ b. 0 < length b.numbers) batches
    → IsSteady (finished_each batches log)
keeps_each [] log s each blocks = s
keeps_each (batch ∷ batches) log s each blocks =
    let one = keeps_on batch.numbers (firsts_in batch) batch.bytes log s each (blocks 0 batch (omega arith)) in
    keeps_each batches (finished true batch log) one.0 one.1 (λ j d below. blocks (suc j) d (omega arith))

fills_each : (batches : List Entries) (log : LogValue) → IsFilling log → HaveBlocks log.waiting → All (λ b. 0 < length b.numbers) batches
    → log.ring ≤ length log.waiting + length batches + 1 → IsSteady (finished_each batches log)
fills_each [] log f each blocks enough = absurd (omega (arith, f.two_free, enough))
fills_each (batch ∷ batches) log f each blocks enough =
    let one = fills batch.numbers (firsts_in batch) batch.bytes log f each (blocks 0 batch (omega arith)) in
    let rest : All (λ b. 0 < length b.numbers) batches = λ j d below. blocks (suc j) d (omega arith) in
    let more = finished true batch log in
    grind (arith, f.two_free, one, rest, enough, keeps_each batches more, fills_each batches more)

-- a log without records, in which three may stand
module _ (log : LogValue) (shape : Shape) (next ring : ℕ) (keeps : Bool) (is : log ≡ empty_from shape next ring keeps)
    (may : may_go_by log.shape.format log.ring ≡ true) where
  pub empty_fills : 0 < next → IsFilling log
  empty_fills some = grind (arith, nat_tests, is, may, some)

  pub empty_reaches : 0 < next → ReachesSteady log
  empty_reaches some batches blocks enough = grind (arith, nat_tests, HaveBlocks, fills_each, empty_fills some, is)
