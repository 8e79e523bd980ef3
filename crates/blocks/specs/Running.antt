-- How a store goes on by runs of its log, and what follows: whatever is asked of one that keeps its
-- records, a cut does no harm.
use Rattle.std.specs.Prelude.{ℕ, List}
use Rattle.medium.specs.{Medium.State}
use Rattle.journal.specs.{Record.Entry, Standing.IsOurs}
use Rattle.theorems.specs.LogRuns.{IsSafeRun}
use Rattle.blocks.specs.{Passing.RunsLog, Started.StartsKeeping, StoreValue.{StoreValue, layout_of}}

-- The medium of a store comes after what it was by calls alone: reads, and those that its log may
-- make.
pub record ComesBy {M : Type 0} (state : M → State) (Follows : M → M → Type 0)
    (old new : StoreValue M) : Type 0 where
  pub medium : Follows old.medium new.medium
  pub runs : RunsLog state Follows old new

module _ {M : Type 0} (state : M → State) (Follows : M → M → Type 0) where
  -- What two calls make of a store, one after the other, is a run of its log as each of them is.
  abbrev pub RunsJoin : Type 0
  RunsJoin = (old mid new : StoreValue M) → RunsLog state Follows old mid
      → RunsLog state Follows mid new → RunsLog state Follows old new

  -- A store that keeps its records was started over contents that were ours. Whatever ran since, a
  -- cut leaves the array that they stood for, with the records that have become durable since, and
  -- perhaps the one under way, whole: now, and at each moment of what it makes next.
  abbrev pub EveryStoreIsSafe : Type 0
  EveryStoreIsSafe = (kept : ℕ) (medium : M) (old new : StoreValue M)
      → (starts : StartsKeeping state Follows kept medium old)
      → IsOurs (state medium).size (layout_of old.cached) (state medium).content
      starts.started.array starts.started.next → RunsLog state Follows old new
      → (records : List (List Entry))
      × IsSafeRun state Follows starts.started.array records new.cached.log new.medium
