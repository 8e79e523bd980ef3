-- A ring that goes ahead, and was not full once, is never found full: each record makes one flush,
-- which is its own, whatever background steps come between.
use Rattle.std.specs.Prelude.{◌≡◌, ◌⊎◌, ◌+◌, ◌≤◌, ◌<◌, ℕ, zero, suc, [], length, true, All}
use Rattle.redo_log.specs.Value.{LogValue, IsCovered, of_oldest}
use Rattle.theorems.specs.{Ahead.may_go_by, Retiring.written_out, Room.HasSlots}

-- the log once the record under way is durable, of which so many steps are left
abbrev pub landed_from : ℕ → LogValue → LogValue
landed_from zero log = log
landed_from (suc steps) log = written_out log

abbrev pub landed : LogValue → LogValue
landed log = landed_from log.steps_left log

-- No record is under way, and the stamps, the records and their retire steps go together.
pub record IsInOrder (log : LogValue) : Type 0 where
  pub may : may_go_by log.shape.format log.ring ≡ true
  pub idle : log.steps_left ≡ 0
  pub none_under_way : log.under_way ≡ []
  pub used : log.next ≡ log.head + length log.waiting
  pub blocks : All (λ numbers. 0 < length numbers) log.waiting
  pub none_waits : log.waiting ≡ [] → log.retire_steps_left ≡ 0
  pub owed : 0 < length log.waiting → 0 < of_oldest log
  -- where the oldest record's blocks are home, and not flushed there, that is noted
  pub noted : of_oldest log ≡ 2 → (log.ahead.home ≡ log.head) × (log.ahead.before ≤ log.next)

-- The oldest record's blocks are flushed at home: by a later record's flush, or one for them.
abbrev pub IsHome : LogValue → Type 0
IsHome log = IsCovered log ⊎ (of_oldest log ≡ 1)

-- Two slots are free; or one is, and the head may go past the oldest record.
pub record RestsWithRoom (log : LogValue) : Type 0 where
  pub order : IsInOrder log
  pub free : HasSlots 2 log ⊎ (HasSlots 1 log × IsHome log)

-- So it is now, or once the record under way is durable.
abbrev pub HasHeadroom : LogValue → Type 0
HasHeadroom log = RestsWithRoom (landed log)

-- the stamp of the record that becomes durable next: it rises by one with each that does
abbrev pub next_durable : LogValue → ℕ
next_durable log = log.head + length log.waiting
