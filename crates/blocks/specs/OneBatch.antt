-- How few writes and flushes make one batch durable, and nothing else.
use Rattle.std.specs.Prelude.{Bool}
use Rattle.medium.specs.{Medium.State, Sent.SendsUpTo}
use Rattle.redo_log.specs.Value.{LogValue}
use Rattle.theorems.specs.Room.{IsPrepared}
use Rattle.blocks.specs.Sent.{most_sent}
-- handed on to the layers above
pub use Rattle.redo_log.specs.Value.{most_steps}

-- At most those of one batch: 103 in format 1, and 493 in format 2. Where no call is made for the
-- room of its record, those of the record alone: 52, and 250.
pub record SendsOneBatch (ahead : Bool) (before after : State) (log : LogValue) : Type 0 where
  pub most : SendsUpTo (most_sent log.shape.format) before after
  pub prepared : IsPrepared ahead log → SendsUpTo (most_steps log.shape.format) before after
