-- The most blocks of a transfer, as the image of a medium tells it.
use Rattle.std.specs.Prelude.{◌≡◌, ℕ}
use Rattle.medium.specs.Medium.{Image}
use Rattle.logical_blocks.specs.Blocks.{Array}
use Rattle.journal.specs.Standing.{StandsFor}
pub use Rattle.journal.specs.Places.{Shape, limit_of}

-- the image stands for something, in a shape of whose format a transfer has at most `limit` blocks
pub record HasLimit (size limit : ℕ) (image : Image) : Type 0 where
  pub shape : Shape
  pub array : Array
  pub next : ℕ
  pub stands : StandsFor size shape image array next
  pub limit_is : limit ≡ limit_of shape.format
