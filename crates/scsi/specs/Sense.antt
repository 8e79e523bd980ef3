-- Sense (SPC-4 4.5.6).
use Rattle.std.specs.Prelude.{ℕ}
use Rattle.scsi.specs.declared.sense_key.SenseKey.{SenseKey}

-- why a command failed: a sense key, an additional sense code and its qualifier
pub record Sense : Type 0 where
  pub key : SenseKey
  pub code : ℕ
  pub qualifier : ℕ
