-- Every run of a store's log is safe, from a start on.
use Rattle.std.proofs.Common.{subst}
use Rattle.std.specs.Prelude.{max}
use Rattle.medium.specs.Medium.{State, IsSound}
use Rattle.theorems.{specs.LogRuns.{opened_with, RunsThrough}, proofs.LogRuns.{every_run, run_none, run_then}}
use Rattle.blocks.specs.{Running.{ComesBy, RunsJoin, EveryStoreIsSafe}, StoreValue.{StoreValue, layout_of}}

-- a store comes after itself, and through one that comes between
pub comes_itself : {M : Type 0} {state : M → State} {Follows : M → M → Type 0} {s : StoreValue M} → ((m : M) → Follows m m)
    → ComesBy state Follows s s
comes_itself {s = s} itself = record { medium = itself s.medium; runs = run_none }

pub comes_through : {M : Type 0} {state : M → State} {Follows : M → M → Type 0} {old mid new : StoreValue M}
    → ((a b c : M) → Follows a b → Follows b c → Follows a c) → ComesBy state Follows old mid → ComesBy state Follows mid new
    → ComesBy state Follows old new
comes_through {old = old} {mid = mid} {new = new} through first second = record {
  medium = through old.medium mid.medium new.medium first.medium second.medium;
  runs = run_then first.runs second.runs;
}

module _ {M : Type 0} (state : M → State) (Follows : M → M → Type 0) where
  pub runs_join : RunsJoin state Follows
  runs_join old mid new first second = run_then first second

  pub every_store : ((m : M) → IsSound (state m)) → EveryStoreIsSafe state Follows
  every_store sound kept medium old new starts ours runs =
      let through = runs.runs starts.keeps in
      let array = starts.started.array in
      let next = starts.started.next in
      let from =
      subst (λ log. RunsThrough state Follows log old.medium through.0 new.cached.log new.medium) starts.started.log through.1 in (
        _,
        every_run state sound Follows (opened_with (layout_of old.cached) array next) (max kept 1) new.cached.log old.medium new.medium
            through.0 (starts.started.opened ours) from,
      )
