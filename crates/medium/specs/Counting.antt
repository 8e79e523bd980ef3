-- How a number that only proofs read comes about.
use Rattle.std.specs.Prelude.{ℕ, ◌+◌}
use Rattle.medium.specs.declared.count.Counting.{Counting}
use Rattle.medium.specs.declared.count.Counting.TheVariants.{Zero, Next, Copy}

abbrev pub counted : Counting → ℕ
counted Zero = 0
counted (Next count) = count.now.number + 1
counted (Copy count) = count.now.number
