-- Whether a record is left to write.
use Rattle.std.specs.Prelude.{◌≡◌, ◌⊎◌, true}
use Rattle.blocks.specs.StoreValue.{Cached, is_dead, unwritten}

-- None is: both batches are empty, or no write is accepted until the next start.
abbrev pub IsWritten : Cached → Type 0
IsWritten s = (is_dead s ≡ true) ⊎ (unwritten s ≡ 0)
