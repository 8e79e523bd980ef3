-- Numbers, as scripts and command lines spell them.
use Rattle.std.specs.Prelude.{◌≡◌, ◌≤◌, ℕ, List, decimal}

-- decimal digits without leading zeros, for a number from one limit to another
pub record SpellsNumber (least most : ℕ) (text : List ℕ) (number : ℕ) : Type 0 where
  pub digits : text ≡ decimal number
  pub not_less : least ≤ number
  pub not_more : number ≤ most
