-- How records alone fill the ring of a store that goes ahead, and what a sync costs it then.
use Rattle.std.specs.Prelude.{◌≡◌, ◌+◌, ◌-◌, ◌*◌, ◌<◌, ◌≤◌, ℕ, List, []}
use Rattle.std.specs.Prelude.{◌∷◌, length, get_or, sum_by, true, All}
use Rattle.cache.specs.Entries.{Entries}
use Rattle.redo_log.specs.Value.{LogValue, IsCovered, steps_of, retire_steps_of, home_calls}
use Rattle.theorems.specs.Retiring.{finished}

-- the record that is the oldest once the oldest one is passed
abbrev pub second_of : LogValue → List ℕ
second_of log = get_or log.waiting 1 []

-- One slot is free, and the oldest record went home before the last flush. Nothing is under way.
pub record IsSteady (log : LogValue) : Type 0 where
  pub idle : log.steps_left ≡ 0
  pub none_under_way : log.under_way ≡ []
  pub one_free : (log.next - log.head) + 1 ≡ log.ring
  pub covered : IsCovered log
  pub some : 0 < length (second_of log)

-- One record then costs its own calls, of which the last is a flush, one write of the head, and
-- those that bring one record home: a write for each block, and a read where it is not kept.
abbrev pub steady_calls : List ℕ → LogValue → ℕ
steady_calls numbers log =
    steps_of log.shape.format numbers + 1 + home_calls log.keeps * length (second_of log)

-- Records alone have come so far: two slots are free, and nothing is under way, or went home.
pub record IsFilling (log : LogValue) : Type 0 where
  pub idle : log.steps_left ≡ 0
  pub none_under_way : log.under_way ≡ []
  pub three : 3 ≤ log.ring
  pub used : log.next ≡ log.head + length log.waiting
  pub two_free : length log.waiting + 2 ≤ log.ring
  pub none_home : log.retire_steps_left ≡ sum_by retire_steps_of log.waiting
  pub none_ahead : log.ahead.home < log.head

-- One record more has come: two slots are free still, or the ring is steady.
pub record IsFuller (old new : LogValue) : Type 0 where
  pub one_more : length new.waiting ≡ length old.waiting + 1
  pub on : length old.waiting + 3 ≤ old.ring → IsFilling new
  pub full : length old.waiting + 2 ≡ old.ring → IsSteady new

-- what these batches' records make of a log, the first batch first, where the store goes ahead
abbrev pub finished_each : List Entries → LogValue → LogValue
finished_each [] log = log
finished_each (batch ∷ batches) log = finished_each batches (finished true batch log)

-- Where as many batches have become records as may stand at once but one, the ring is steady.
abbrev pub ReachesSteady : LogValue → Type 0
ReachesSteady log = (batches : List Entries) → All (λ batch. 0 < length batch.numbers) batches
    → log.ring ≤ length batches + 1 → IsSteady (finished_each batches log)
