-- A step of a write, or of a commit, comes from one stage to another.
use Rattle.std.proofs.Common.{◌≡◌, ◌<◌, ℕ, inl, inr, true, false, Option, Some, None, Result, Ok, Err, refl, arith}
use Rattle.std.specs.Prelude.{is_ok}
use Rattle.medium.specs.{Medium.{State, IsSound}, Moments.LeavesOnly}
use Rattle.medium.proofs.Moments.{weaker}
use Rattle.logical_blocks.specs.{Blocks.Write, Book.{Book, with_write}}
use Rattle.blocks.specs.{Finding.{MayFind, Found, FoundWith}, Passing.PassesOn, Turns.{IsTurn, IsWriteTurn, GoesOn}, Written.IsWritten}
use Rattle.blocks.specs.{StoreValue.{Cached, StoreValue, FitsBook, is_dead, steps_left}}
use Rattle.blocks.specs.{Stages.{StageFits, StageAdvanced, WriteStepPost, with_some, is_failed}, Work.DoesWork, declared.stage.Stage.Stage}
use Rattle.blocks.specs.{Calls.{AnswersWrite, WritesRange, CostsWrite}, Prepared.IsTakenAtOnce, declared.fault.StoreFault.StoreFault}
use Rattle.blocks.specs.declared.stage.Stage.TheVariants.{Waits, Accepted, Promised, Failed}
use Rattle.blocks.specs.declared.work.Work.TheVariants.{WriteBack}
use Rattle.blocks.proofs.{BookTurns.settles, EmptyBatches.both_empty, TurnsJoined.rested_on}

-- what may be found of a book may be found of it with a write in progress
pub without : (size : ℕ) (book : Book) (write : Option Write) (before after : State)
    → LeavesOnly (MayFind size book) before after → LeavesOnly (FoundWith size book write) before after
without size book None before after leaves = leaves
without size book (Some w) before after leaves =
    weaker (MayFind size book) (Found size book w) before after (λ image found. inl found) leaves

-- and what may be found with that write
within : (write : Option Write) {before after : State} {old new : Cached} → IsTurn before after old new
    → (book : Book) → FitsBook before old (with_some book write) → book.ours ≡ true
    → LeavesOnly (FoundWith before.size book write) before after
within None turn book f ours = turn.cuts book f ours
within (Some w) {before} {after} turn book f ours =
    weaker (MayFind before.size (with_write book w)) (Found before.size book w) before after (λ image found. inr found)
    (turn.cuts (with_write book w) f ours)

module _ {M : Type 0} {state : M → State} {Follows : M → M → Type 0} where
  -- whatever turn it is, a store goes on
  any_turn : {old new : StoreValue M} → PassesOn state Follows IsTurn 2 2 old new → PassesOn state Follows GoesOn 2 2 old new
  any_turn passes = record {
    turn = passes.turn.goes_on;
    calls = passes.calls;
    sent = passes.sent;
    none_refused = passes.none_refused;
    follows = passes.follows;
    runs = passes.runs;
    looks = passes.looks;
    policy = passes.policy;
  }

  -- nothing was done of a store that is dead
  pub failed_by : {store : StoreValue M} (w : Write) → is_dead store.cached ≡ true → ((m : M) → Follows m m)
      → ((m : M) → IsSound (state m)) → StageAdvanced state Follows (Some w) Waits Failed store store
  failed_by {store = store} w dead itself sound =
      let passes = rested_on {most = 2} {sends = 2} store itself sound in
      record {
        fits = λ book f. inl f;
        cuts = λ book f ours. without _ book (Some w) _ _ (passes.turn.cuts book f ours);
        fewer = λ is. absurd (let e = is in cc);
        life = dead;
        passes = any_turn passes;
        headroom = λ on head live. head;
        once = λ on head live. refl;
      }

  -- a write was taken at once
  pub taken_by : {old new : StoreValue M} {w : Write} {address count most sends : ℕ} (result : Result (Unit {0}) StoreFault)
      → is_dead old.cached ≡ false → IsTakenAtOnce old.cached address count
      → PassesOn state Follows (IsWriteTurn w (is_ok result)) most sends old new → AnswersWrite result address count old new
      → WritesRange old.goes_ahead result address count old.cached new.cached
      → CostsWrite old.goes_ahead result address count (state old.medium) (state new.medium) old.cached new.cached
      → WriteStepPost state Follows w address count Accepted old new
  taken_by (Err fault) live at_once passes answers batches cost = absurd (let ok = (answers.quiet at_once).1 live in grind (arith, ok))
  taken_by {old = old} {new = new} (Ok value) live at_once passes answers batches cost =
      let same = (answers.quiet at_once).0 in
      record {
        advanced = record {
          fits = λ book f. passes.turn.fits book f;
          cuts = λ book f ours. passes.turn.cuts book f ours;
          fewer = λ is. absurd (let e = is in cc);
          life = answers.answer;
          passes = record {
            turn = passes.turn.goes_on;
            calls = rw same (omega arith);
            sent = rw same (omega arith);
            none_refused = passes.none_refused;
            follows = passes.follows;
            runs = passes.runs;
            looks = passes.looks;
            policy = passes.policy;
          };
          headroom = λ on head lives. batches.headroom on head;
          once = cost.as_many;
        };
        dead = λ dead. absurd (grind (arith, live, dead));
        takes = λ lives at. (refl, record { medium = same; active = batches.active; batches = batches.batches });
        works = λ lives not. absurd (not at_once);
      }

  module _ {old new : StoreValue M} (does : DoesWork state Follows WriteBack old new) where
    -- a step for a write that waits
    pub waits_on : (w : Write) (to : Stage)
        → ((book : Book) → FitsBook (state new.medium) new.cached book → StageFits to (state new.medium) new.cached (Some w) book)
        → (to ≡ Waits → steps_left new.cached < steps_left old.cached) → is_dead new.cached ≡ is_failed to
        → StageAdvanced state Follows (Some w) Waits to old new
    waits_on w to fits fewer life = record {
      fits = λ book f. fits book (does.passes.turn.fits book f);
      cuts = λ book f ours. without _ book (Some w) _ _ (does.passes.turn.cuts book f ours);
      fewer = fewer;
      life = life;
      passes = any_turn does.passes;
      headroom = does.headroom;
      once = does.once tt;
    }

    -- a step of a commit
    pub commits_on : (to : Stage)
        → ((write : Option Write) (book : Book) → FitsBook (state new.medium) new.cached (with_some book write)
        → StageFits to (state new.medium) new.cached write book)
        → (to ≡ Accepted → steps_left new.cached < steps_left old.cached) → is_dead new.cached ≡ is_failed to
        → (write : Option Write) → StageAdvanced state Follows write Accepted to old new
    commits_on to fits fewer life write = record {
      fits = λ book f. fits write book (does.passes.turn.fits (with_some book write) f);
      cuts = within write does.passes.turn;
      fewer = fewer;
      life = life;
      passes = any_turn does.passes;
      headroom = does.headroom;
      once = does.once tt;
    }

    -- nothing is left to write, and nothing was done: all is promised
    pub commits_all : is_dead new.cached ≡ false → IsWritten old.cached
        → (write : Option Write) → StageAdvanced state Follows write Accepted Promised old new
    commits_all live written =
        let same = (does.order.written written).0 in
        let both = both_empty new.cached live (rw same written) in
        commits_on Promised (λ write book f. settles both.0 both.1 f) (λ is. absurd (let e = is in cc)) live
