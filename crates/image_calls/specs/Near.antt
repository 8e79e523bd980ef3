-- How many sectors lie before the blocks.
use Rattle.std.specs.Prelude.{◌≡◌, ℕ, List}
use Rattle.journal.specs.{Places.{Shape, first_home}, Sectors.IsSuper}

-- Where this sector is a super, all before the first home sector. Else two: where a super was
-- rubbed out, the head lies behind it.
pub record IsNear (sector : List ℕ) (count : ℕ) : Type 0 where
  pub home : (shape : Shape) → IsSuper shape sector → count ≡ first_home shape
  pub none : ((shape : Shape) → ¬ IsSuper shape sector) → count ≡ 2
