-- A block device above its sectors: logical blocks of 512 bytes, and writes to them.
use Rattle.std.specs.Prelude.{◌≡◌, ℕ, ◌+◌, ◌-◌, ◌≤◌, List, [], ◌∷◌, length, get_or, All}
use Rattle.std.specs.Prelude.{if◌then◌else◌, nat_le, zero, suc, take, drop}

-- the bytes of every logical block, by its address
abbrev pub Array : Type 0
Array = ℕ → List ℕ

-- these blocks go to the addresses from this one on
pub record Write : Type 0 where
  pub address : ℕ
  pub blocks : List (List ℕ)

-- at least one block, each of 512 bytes, in a range that ends at the number of blocks or before
pub record IsWrite (blocks_count : ℕ) (write : Write) : Type 0 where
  pub some : 1 ≤ length write.blocks
  pub sized : All (λ block. length block ≡ 512) write.blocks
  pub inside : write.address + length write.blocks ≤ blocks_count

-- the array with the blocks of a write replaced
abbrev pub apply : Array → Write → Array
apply array write b =
    if nat_le write.address b then get_or write.blocks (b - write.address) (array b) else array b

-- the array after these writes, in order
abbrev pub after : Array → List Write → Array
after array [] = array
after array (write ∷ writes) = after (apply array write) writes

-- a given number of blocks of these bytes
abbrev pub chunks : ℕ → List ℕ → List (List ℕ)
chunks zero bytes = []
chunks (suc count) bytes = take 512 bytes ∷ chunks count (drop 512 bytes)
