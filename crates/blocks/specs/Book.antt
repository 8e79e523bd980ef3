-- The book of a life: the writes that were accepted, and how many of them are promised.
use Rattle.std.specs.Prelude.{◌≡◌, ℕ, ◌+◌, ◌*◌, ◌/◌, ◌%◌, ◌≤◌, ◌<◌}
use Rattle.logical_blocks.specs.Blocks.{Array}

-- both arrays have the same blocks
abbrev pub Same : ℕ → Array → Array → Type 0
Same blocks a c = (b : ℕ) → b < blocks → a b ≡ c b

-- `size` bytes are whole blocks, as many as the limit at most, from this address to the last one
pub record IsTransfer (limit blocks address size : ℕ) : Type 0 where
  pub some : 512 ≤ size
  pub most : size ≤ limit * 512
  pub whole : size % 512 ≡ 0
  pub inside : address + size / 512 ≤ blocks
