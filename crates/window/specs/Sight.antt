-- Which sectors a read finds in memory, and which are to be shown before.
use Rattle.std.specs.Prelude.{◌≡◌, ℕ, ◌+◌, ◌<◌, ◌≤◌, true, max}
use Rattle.window.specs.Window.{Window, state_of, is_in_sight}

-- each of count sectors from `home` on is in sight
abbrev pub AreInSight : Window → ℕ → ℕ → Type 0
AreInSight m home count = (s : ℕ) → home ≤ s → s < home + count → is_in_sight m s ≡ true

-- The sectors of a device that are to be shown, of count home sectors from `home` on: those behind
-- the first ones, which lie in memory, and not all of them are in sight.
pub record AreMissing (m : Window) (home count first missing : ℕ) : Type 0 where
  pub some : 0 < missing
  pub few : missing ≤ 240
  pub begin : first ≡ max home m.near
  pub end : first + missing ≡ home + count
  pub on_device : first + missing ≤ (state_of m).size
  pub unseen : m.from ≤ first → m.from + m.held < first + missing
