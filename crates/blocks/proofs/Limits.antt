-- How many blocks a transfer has at most, and how many steps are left at most.
use Rattle.std.proofs.Common.{◌≤◌, ℕ, ◌+◌, ◌*◌, arith, Bool}
use Rattle.journal.specs.{Places.limit_of, declared.{log_format.LogFormat.LogFormat, super_sector.Super.Super}}
use Rattle.blocks.specs.{StoreValue.{Cached, transfer_limit, batch_steps, HasLimits}, Kept.Invariant}

-- no format has a lower limit, or a higher one
pub limit_least : (format : LogFormat) → 48 ≤ limit_of format
limit_least format = grind arith

pub limit_most : (format : LogFormat) → limit_of format ≤ 240
limit_most format = grind arith

-- the limits of a store
pub has_limits : (size : ℕ) (sizes : Super) (s : Cached) (writing ahead : Bool) → Invariant size sizes s writing ahead → HasLimits s
has_limits size sizes s writing ahead kept = grind (arith, limit_least, limit_most, kept)

-- how many steps a batch takes, for the layers above, which know no format
pub few_batch_steps : (s : Cached) → batch_steps s ≤ 3 * transfer_limit s + 16
few_batch_steps s = grind arith
