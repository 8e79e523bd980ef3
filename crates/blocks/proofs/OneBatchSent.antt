-- One batch is made durable by the writes and flushes of its record, and of the room for that.
use Rattle.std.proofs.Common.{◌≡◌, ◌≤◌, ◌+◌, Bool, arith}
use Rattle.medium.specs.{Medium.State, Sent.sent}
use Rattle.redo_log.specs.Value.{LogValue, most_steps, most_retire_sends}
use Rattle.theorems.specs.Room.{IsPrepared}
use Rattle.blocks.specs.OneBatch.{SendsOneBatch}

module _ (ahead : Bool) (before : State) (log : LogValue) where
  -- nothing was sent
  pub none_sent : (after : State) → sent after ≡ sent before → SendsOneBatch ahead before after log
  none_sent after same = record { most = omega (arith, same); prepared = λ prepared. omega (arith, same) }

  -- room for it, and then its record
  pub room_sent : (mid after : State) → sent mid ≤ sent before + most_retire_sends log.shape.format
      → (IsPrepared ahead log → sent mid ≡ sent before) → sent after ≤ sent mid + most_steps log.shape.format
      → SendsOneBatch ahead before after log
  room_sent mid after room quiet few = grind (arith, room, few, quiet)
