-- The blocks of a command.
use Rattle.std.specs.Prelude.{ℕ, ◌≤◌, ◌+◌, ◌*◌, replicate}
use Rattle.logical_blocks.specs.{Blocks.Write, Book.write_of}
use Rattle.page.specs.declared.extent.Extent.{Extent}

-- they are 1 to 32 blocks of a disk of so many
pub record LiesWithin (extent : Extent) (blocks : ℕ) : Type 0 where
  pub some : 1 ≤ extent.count
  pub few : extent.count ≤ 32
  pub inside : extent.first + extent.count ≤ blocks

-- the write that fills them with the byte
abbrev pub filled : Extent → Write
filled extent = write_of extent.first (replicate (512 * extent.count) extent.fill)
