-- A store whose batches are empty: what fits, what is sent, how many steps are left else, and that at rest everything is at home.
use Rattle.std.proofs.Common.{rules, ◌≡◌, ◌+◌, ◌<◌, ◌≤◌, ℕ, ◌∙◌, sym, ap, arith, true, false, List, [], length, ◌⊎◌, Bool, inl, inr}
use Rattle.std.{proofs.lemmas.{Bool.{Decides.nat_tests, cases_lt}, List.nil_from_length}, specs.Prelude.false}
use Rattle.medium.specs.{Medium.{State, IsSound}, Moments.EachCut, Sent.SendsUpTo}
use Rattle.logical_blocks.specs.Book.{Book, array_of}
use Rattle.redo_log.{specs.Value.{LogValue, Owes, CanPass, IsAway}, proofs.{StoreFacts.{home_is, blocks_guarded}, HeldLog.many}}
use Rattle.cache.{specs.{Entries.{map_of, Entries}, Blocks.over}, proofs.Arrays.unlisted_empty}
use Rattle.blocks.specs.StoreValue.{Cached, layout_of, is_dead, steps_left, FitsBook, FitsBeside, active_of, transfer_limit, unwritten}
use Rattle.blocks.specs.{Work.GoesOnAhead, Settled.{IsAtHome, IsSettled}, OneBatch.SendsOneBatch}
use Rattle.blocks.{specs.Written.IsWritten, proofs.{BookTurns.{over_none, settles}, TurnsJoined.nothing_left}}

-- a list without elements is empty
pub none_of : {A : Type 0} (l : List A) → length l ≤ 0 → l ≡ []
none_of l few = nil_from_length l (omega (arith, few))

module _ (m : State) (sound : IsSound m) (s : Cached) (owes : Owes s.log) (under_way : s.log.under_way ≡ []) (live : is_dead s ≡ false)
    (none : steps_left s ≡ 0) where
  -- its log owes no step, and so no record waits
  empty : s.log.waiting ≡ []
  empty = grind (arith, nil_from_length s.log.waiting, owes.some_wait, none)

  -- the array of the log is that of the book
  durable : (book : Book) (f : FitsBook m s book) (b : ℕ) → b < book.blocks → f.view.array b ≡ array_of book b
  durable book f b below = grind (arith, nat_tests, nothing_left, over_none, over, map_of)

  at_home : (book : Book) → FitsBook m s book → IsAtHome (layout_of s) book m.content
  at_home book f b below = grind (arith, nat_tests, home_is, ℕ, empty, durable)

  cut_home : (book : Book) → FitsBook m s book → book.ours ≡ true → EachCut (IsAtHome (layout_of s) book) m
  cut_home book f ours image cut b below =
      let g = blocks_guarded s.log m f.view sound f.holds live (f.ours ∙ ours) image cut in
      let keeps = g.0.stored.keeps in
      let records = nil_from_length f.view.records (grind (arith, many f.holds, empty)) in
      sym (g.1 (s.log.shape.home + b) (λ e. omega (arith, e, keeps.super.home_is.0)))
      ∙ (rw records at (keeps.blocks b (omega (arith, below, f.blocks)))) ∙ durable book f b below

  -- a store without steps is at rest
  pub settled : IsSettled m s
  settled = let left = nothing_left s none in search (rules, empty, left, settles, at_home, cut_home)

-- no step is left where no record is under way, none waits, and both batches are empty
pub none_left : (s : Cached) → Owes s.log → s.log.under_way ≡ [] → s.log.waiting ≡ [] → s.log.steps_left ≡ 0 → s.frozen.numbers ≡ []
    → s.active.numbers ≡ [] → steps_left s ≡ 0
none_left s owes under_way empty idle frozen active = grind (arith, owes.none_waits empty)

-- both batches of a live store are empty where no record is left to write
pub both_empty : (s : Cached) → is_dead s ≡ false → IsWritten s → (s.frozen.numbers ≡ []) × (s.active.numbers ≡ [])
both_empty s live written = grind (arith, live, written, none_of s.frozen.numbers, none_of s.active.numbers)

-- where one is, a step is left
pub steps_to_write : (s : Cached) → ¬ IsWritten s → 0 < steps_left s
steps_to_write s some = grind (arith, some, nothing_left s)

-- of a live store one is left, or none
pub written_live : (s : Cached) → is_dead s ≡ false → IsWritten s ⊎ (¬ IsWritten s)
written_live s live = grind (arith, live, cases_lt 0 (unwritten s))

-- a range fits beside an empty batch
pub fits_alone : (s : Cached) (address count : ℕ) → active_of s ≡ [] → count ≤ transfer_limit s
    → FitsBeside (transfer_limit s) (active_of s) address count
fits_alone s address count none few = rw none (omega (arith, few, unlisted_empty address count))

-- a frozen batch that stays is empty still
pub frozen_as : (old new : Cached) → new.frozen ≡ old.frozen → old.frozen.numbers ≡ [] → new.frozen.numbers ≡ []
frozen_as old new same none = ap (λ (batch : Entries). batch.numbers) same ∙ none

-- two calls are no more than those of a batch
pub step_sent : (ahead : Bool) (before after : State) (log : LogValue) → SendsUpTo 2 before after → SendsOneBatch ahead before after log
step_sent ahead before after log two = grind (arith, two)

-- a step ahead that does something leaves fewer
pub go_falls : (before after : State) (old new : Cached) → GoesOnAhead before after old new → CanPass old.log ⊎ IsAway old.log
    → is_dead new ≡ false → steps_left new < steps_left old
go_falls before after old new goes (inl can) live = grind (arith, nat_tests, goes.active, goes.frozen, (goes.passes can).log live, can)
go_falls before after old new goes (inr away) live = (goes.brings away).fewer live
