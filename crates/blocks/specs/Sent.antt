-- How many writes and flushes a call of a store makes at most.
use Rattle.std.specs.Prelude.{ℕ, ◌+◌}
use Rattle.redo_log.specs.Value.{most_steps, most_retire_sends}
use Rattle.blocks.specs.StoreValue.{Cached, layout_of}
pub use Rattle.journal.specs.declared.log_format.LogFormat.{LogFormat}

-- those of a batch's record, each step of which is one, and before it of the oldest one's retiring
abbrev pub most_sent : LogFormat → ℕ
most_sent format = most_steps format + most_retire_sends format

-- for a batch of this store: 103 in format 1, and 493 in format 2
abbrev pub batch_sends : Cached → ℕ
batch_sends s = most_sent (layout_of s).format
