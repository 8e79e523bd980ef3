-- A ring that goes ahead keeps headroom, step by step, and its records flush once each.
use Rattle.std.proofs.{Common.{rules, ◌≡◌, ◌⊎◌, ◌<◌, ◌≤◌, ◌+◌, arith, length-append}, lemmas.Bool.{Decides.nat_tests, cases_lt}}
use Rattle.std.specs.Prelude.{ℕ, List, length, drop, true, Bool}
use Rattle.journal.specs.Places.{Shape}
use Rattle.redo_log.specs.Value.{LogValue, CanPass, IsAway, IsRetireStepped, IsStepped, begun, of_oldest, next_step_flushes, empty_from}
use Rattle.redo_log.specs.declared.progress.Progress.{Progress}
use Rattle.theorems.specs.{Ahead.{oldest_retired, passed, sent_home, ahead_room, may_go_by, counted}, Room.{HasSlots, SparesSlots}}
use Rattle.theorems.specs.{Room.MayWrite, Headroom.{IsInOrder, RestsWithRoom, HasHeadroom, landed, next_durable}, Retiring.finished_with}
use Rattle.theorems.{specs.Retiring.{finished, finish_flushes, both_flushes, wants}, proofs.Steady.{blocks_more, blocks_behind}}
use Rattle.theorems.proofs.Steady.{behind_more, first_owed, with_more, finished_is, idle_behind, steps_once, writes_on}
use Rattle.cache.specs.Entries.{Entries}

-- the oldest record is retired, and of the one behind it no step is made
order_retired : (log : LogValue) → IsInOrder log → 0 < length log.waiting → IsInOrder (oldest_retired log)
order_retired log r one = grind (arith, r, blocks_behind log.waiting r.blocks, first_owed (drop 1 log.waiting))

pub rests_stepped : (old new : LogValue) → RestsWithRoom old → IsRetireStepped old new → RestsWithRoom new
rests_stepped old new r stepped = search (rules, arith, cases_lt, order_retired)

-- slots are spared for one record more
abbrev pub IsReady : LogValue → Type 0
IsReady log = IsInOrder log × SparesSlots log

-- behind a record that is retired the next one is brought home
ready_retired : (log : LogValue) → RestsWithRoom log → 0 < length log.waiting → IsReady (sent_home (oldest_retired log))
ready_retired log r one = grind (arith, nat_tests, order_retired, blocks_behind, first_owed (drop 1 log.waiting))

-- so the log is ready for one record more: the oldest is passed where it is home, and else none is
passes : (log : LogValue) → RestsWithRoom log → ((passed log ≡ oldest_retired log) × (0 < length log.waiting))
    ⊎ ((passed log ≡ log) × (HasSlots 3 log ⊎ (HasSlots 2 log × (2 ≤ of_oldest log))))
passes log r = grind (arith, nat_tests)

ready_still : (log : LogValue) → IsInOrder log → HasSlots 3 log ⊎ (HasSlots 2 log × (2 ≤ of_oldest log)) → IsReady (sent_home log)
ready_still log r free = grind (arith, nat_tests)

ready_room : (log : LogValue) → RestsWithRoom log → IsReady (ahead_room log)
ready_room log r = grind (arith, nat_tests, passes log r, ready_retired log r, ready_still log r.order)

-- one record more
module _ (numbers : List ℕ) (firsts : List (List ℕ)) (copy : List ℕ) where
  pub ready_more : (log : LogValue) → IsReady log → 0 < length numbers → RestsWithRoom (with_more numbers firsts copy log)
  ready_more log r some = grind (arith, nat_tests, r, blocks_more, behind_more, length-append)

  pub landed_begun : (log : LogValue) → landed (begun numbers firsts copy log) ≡ with_more numbers firsts copy log
  landed_begun log = grind arith

  -- it becomes durable, however many slots were free
  pub rests_finished : (log : LogValue) → RestsWithRoom log → 0 < length numbers
      → RestsWithRoom (finished_with true numbers firsts copy log)
  rests_finished log r some = search (rules, arith, finished_is, ready_more, ready_room)

  pub headroom_finished : (log : LogValue) → HasHeadroom log → HasHeadroom (finished_with true numbers firsts copy log)
  headroom_finished log head = grind (arith, nat_tests, head, rests_finished log)

-- one batch, whose record is under way, or is to be begun
pub one_each : (numbers : List ℕ) (log : LogValue) → HasHeadroom log → (0 < log.steps_left → 0 < length numbers)
    → finish_flushes numbers log ≡ wants numbers
one_each numbers log head under_way = grind (arith, nat_tests, head, steps_once)

-- both batches
pub both_each : (frozen active : List ℕ) (log : LogValue) → HasHeadroom log → (0 < log.steps_left → 0 < length frozen)
    → both_flushes true frozen active log ≡ wants frozen + wants active
both_each frozen active log head under_way = grind (arith, one_each, headroom_finished, idle_behind)

-- a step of a record changes nothing of what it leaves
pub landed_stepped : (progress : Progress) (old new : LogValue) → 0 < old.steps_left → IsStepped progress old new → landed new ≡ landed old
landed_stepped progress old new some stepped = grind arith

-- slots are spared, or a step ahead does something
pub may_or_goes : (log : LogValue) → RestsWithRoom log → (MayWrite true log × SparesSlots log)
    ⊎ ((MayWrite true log → ⊥) × (CanPass (counted log) ⊎ IsAway (counted log)))
may_or_goes log r = grind (arith, nat_tests, r)

-- a step ahead of a log with room, once a flush is counted
pub rests_counted : (log : LogValue) → RestsWithRoom log → RestsWithRoom (counted log) × ((counted log).next ≡ log.next)
rests_counted log r = grind (arith, nat_tests, rests_stepped log (counted log) r)

-- a batch becomes durable: its record is one more, and an empty one has none
pub one_durable : (numbers : List ℕ) (firsts : List (List ℕ)) (copy : List ℕ) (log : LogValue) → HasHeadroom log
    → (0 < log.steps_left → 0 < length numbers)
    → next_durable (finished_with true numbers firsts copy log) ≡ next_durable log + wants numbers
one_durable numbers firsts copy log head under_way = search (rules, arith, length-append, rests_finished, finished_is)

-- both batches become durable
pub both_durable : (frozen active : Entries) (log : LogValue) → HasHeadroom log → (0 < log.steps_left → 0 < length frozen.numbers)
    → next_durable (finished true active (finished true frozen log)) ≡ next_durable log + (wants frozen.numbers + wants active.numbers)
both_durable frozen active log head under_way = grind (arith, one_durable, headroom_finished)

-- the last step of a record is its one flush
pub step_once : (progress : Progress) (old new : LogValue) → HasHeadroom old → 0 < old.steps_left → IsStepped progress old new
    → next_step_flushes old + next_durable old ≡ next_durable new
step_once progress old new head some stepped = grind (arith, nat_tests, head, steps_once, writes_on, length-append)

-- a log without records, in which three may stand
pub empty_has_room : (log : LogValue) (shape : Shape) (next ring : ℕ) (keeps : Bool) → log ≡ empty_from shape next ring keeps
    → may_go_by log.shape.format log.ring ≡ true → HasHeadroom log
empty_has_room log shape next ring keeps is may = grind (arith, nat_tests, is, may)
