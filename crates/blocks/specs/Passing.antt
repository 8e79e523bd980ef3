-- What a store's calls pass on of its medium and of the books that it fits, and how they answer.
use Rattle.std.specs.Prelude.{◌≡◌, ◌⊎◌, ℕ, ◌+◌, ◌≤◌, true, false, List, [], Result, Err, IfErr}
use Rattle.std.specs.Prelude.{MatchResult}
use Rattle.medium.specs.{Medium.State, Moments.{IsQuiet, IsUnchanged}, Sent.SendsUpTo}
use Rattle.theorems.specs.LogRuns.{IsLogRun}
use Rattle.blocks.specs.{declared.fault.StoreFault.{TheVariants.Dead, StoreFault}, Looks.LooksAtLog}
use Rattle.blocks.specs.{Looks.LooksAtBlocks, Turns.{IsTurn, IsReadCause, IsPaid}}
use Rattle.blocks.specs.StoreValue.{Cached, StoreValue, is_dead}

-- All that was made of a store's log, and of its medium, is steps of the log: each call that is no
-- read beside it is one that the log may make.
abbrev pub RunsLog : {M : Type 0} → (M → State) → (M → M → Type 0) → StoreValue M → StoreValue M
    → Type 0
RunsLog state Follows old new =
    IsLogRun state Follows old.cached.log old.medium new.cached.log new.medium

-- A call makes a turn of this kind, and at most `most` calls of the medium, with at most `sends`
-- writes and flushes among them. The medium comes after what it was, by calls alone.
pub record PassesOn {M : Type 0} (state : M → State) (Follows : M → M → Type 0)
    (Turn : State → State → Cached → Cached → Type 0) (most sends : ℕ) (old new : StoreValue M)
    : Type 0 where
  pub turn : Turn (state old.medium) (state new.medium) old.cached new.cached
  pub calls : (state new.medium).calls ≤ (state old.medium).calls + most
  pub sent : SendsUpTo sends (state old.medium) (state new.medium)
  -- a refused call makes the store dead
  pub none_refused : is_dead new.cached ≡ false
      → (state new.medium).failures ≡ (state old.medium).failures
  pub follows : Follows old.medium new.medium
  pub runs : RunsLog state Follows old new
  -- no sector at home is read, and none of a log that keeps its blocks
  pub looks : LooksAtLog (state old.medium) (state new.medium) old.cached
  pub policy : new.goes_ahead ≡ old.goes_ahead

-- The same of a turn that makes no more calls than the background steps that it takes off pay for.
pub record PassesPaid {M : Type 0} (state : M → State) (Follows : M → M → Type 0) (sends : ℕ)
    (old new : StoreValue M) : Type 0 where
  pub turn : IsTurn (state old.medium) (state new.medium) old.cached new.cached
  pub paid : IsPaid (state old.medium) (state new.medium) old.cached new.cached
  pub sent : SendsUpTo sends (state old.medium) (state new.medium)
  -- a refused call makes the store dead
  pub none_refused : is_dead new.cached ≡ false
      → (state new.medium).failures ≡ (state old.medium).failures
  pub follows : Follows old.medium new.medium
  pub runs : RunsLog state Follows old new
  pub looks : LooksAtLog (state old.medium) (state new.medium) old.cached
  pub policy : new.goes_ahead ≡ old.goes_ahead

-- a call makes a turn of this kind, and leaves the medium as it is
pub record KeepsMedium {M : Type 0} (state : M → State) (Follows : M → M → Type 0)
    (Turn : State → State → Cached → Cached → Type 0) (old new : StoreValue M) : Type 0 where
  pub turn : Turn (state old.medium) (state new.medium) old.cached new.cached
  pub medium : new.medium ≡ old.medium
  pub runs : RunsLog state Follows old new
  pub policy : new.goes_ahead ≡ old.goes_ahead

-- a store that answers Ok is live, and one that answers Err is dead, and says so
abbrev pub TellsLife : {A : Type 0} → Result A StoreFault → Cached → Type 0
TellsLife result s =
    MatchResult result (λ _. is_dead s ≡ false) (λ fault. (fault ≡ Dead) × (is_dead s ≡ true))

-- A call writes nothing: what the store keeps stays, no content changes, and a cut leaves no more.
-- Each read names a sector of the log where that is read back, or the home of one of these blocks.
pub record KeepsStore {M : Type 0} (state : M → State) (Follows : M → M → Type 0)
    (address count : ℕ) (old new : StoreValue M) : Type 0 where
  pub stays : new.cached ≡ old.cached
  pub turn : IsTurn (state old.medium) (state new.medium) old.cached new.cached
  pub quiet : IsQuiet (state old.medium) (state new.medium)
  pub follows : Follows old.medium new.medium
  pub looks : LooksAtBlocks (state old.medium) (state new.medium) old.cached address count
  pub policy : new.goes_ahead ≡ old.goes_ahead

-- A read keeps the store so, and each of its calls is one beside the store's log.
pub record IsReadBeside {M : Type 0} (state : M → State) (Follows : M → M → Type 0)
    (address count : ℕ) (old new : StoreValue M) : Type 0 where
  pub keeps : KeepsStore state Follows address count old new
  pub open keeps use *
  pub runs : RunsLog state Follows old new

-- A call is none of the medium: it changes nothing of that, and nothing that the store keeps.
pub record IsUntouched {M : Type 0} (state : M → State) (old new : StoreValue M) : Type 0 where
  pub unchanged : IsUnchanged (state old.medium) (state new.medium)
  pub cached : new.cached ≡ old.cached
  pub policy : new.goes_ahead ≡ old.goes_ahead
  pub turn : IsTurn (state old.medium) (state new.medium) old.cached new.cached

-- why a read is refused: one of a dead store always is, and makes no call
pub record RefusesRead {M A : Type 0} (state : M → State) (result : Result A StoreFault)
    (old new : StoreValue M) : Type 0 where
  pub err : IfErr result (IsReadCause (state old.medium) (state new.medium) old.cached)
  pub dead : is_dead old.cached ≡ true → (result ≡ Err Dead) × (new ≡ old)

-- whether a store is live it tells, and one that was dead makes no call, and stays as it is
pub record Answers {M A : Type 0} (result : Result A StoreFault) (old new : StoreValue M)
    : Type 0 where
  pub answer : TellsLife result new.cached
  pub dead : is_dead old.cached ≡ true → new ≡ old

-- the batch that takes writes stays, or is emptied
abbrev pub MayEmpty : List ℕ → List ℕ → Type 0
MayEmpty old new = (new ≡ old) ⊎ (new ≡ [])
