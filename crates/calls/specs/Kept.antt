-- How many records of a log lie in memory at most.
use Rattle.std.specs.Prelude.{ℕ, ◌==◌, min, if◌then◌else◌}

-- As C says it: four where it says 0, and no more than a log has slots.
abbrev pub kept_by : ℕ → ℕ
kept_by kept = if kept == 0 then 4 else min kept 64

-- With so many slots as many stand in the log at once, and one at least.
abbrev pub ring_of : ℕ → ℕ → ℕ
ring_of kept slots = min slots (kept_by kept)
