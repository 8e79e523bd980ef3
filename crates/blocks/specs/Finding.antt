-- What a start after a loss of power may find.
use Rattle.std.specs.Prelude.{◌≡◌, ℕ, Option}
use Rattle.medium.specs.Medium.{Image}
use Rattle.logical_blocks.specs.{Blocks.{Array, Write}, Book.Book}
use Rattle.journal.specs.{Places.Shape, Standing.IsOurs}
use Rattle.logical_blocks.specs.CrashStates as crash

-- the image of a medium of `size` sectors is ours, with `blocks` logical blocks in some shape, and
-- stands for this array with this next stamp
abbrev pub StandsAs : ℕ → ℕ → Image → Array → ℕ → Type 0
StandsAs size blocks image array next =
    (shape : Shape) × (shape.blocks ≡ blocks) × IsOurs size shape image array next

-- what a start after a loss of power may find on a medium of `size` sectors, by the promise
abbrev pub MayFind : ℕ → Book → Image → Type 0
MayFind size book image = crash.MayFind (StandsAs size) book image

abbrev pub Found : ℕ → Book → Write → Image → Type 0
Found size book write image = crash.Found (StandsAs size) book write image

abbrev pub FoundWith : ℕ → Book → Option Write → Image → Type 0
FoundWith size book write image = crash.FoundWith (StandsAs size) book write image
