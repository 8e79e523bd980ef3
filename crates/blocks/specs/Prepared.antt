-- Which writes need no call of the medium.
use Rattle.std.specs.Prelude.{◌≡◌, ◌⊎◌, ℕ, []}
use Rattle.blocks.specs.StoreValue.{Cached, FitsBeside, transfer_limit, active_of}

-- A write of this range is put into memory alone: it fits, or the frozen batch is empty.
abbrev pub IsTakenAtOnce : Cached → ℕ → ℕ → Type 0
IsTakenAtOnce s address count = FitsBeside (transfer_limit s) (active_of s) address count
    ⊎ (s.frozen.numbers ≡ [])
