-- Exactly how many calls and flushes a good command makes that makes the accepted writes durable,
-- by the policy of the store; and what that is where records alone have filled the ring, and where
-- the ring is never full.
use Rattle.std.specs.Prelude.{◌≡◌, ⊤, ℕ, ◌+◌, ◌<◌, ◌||◌, not, Bool, true, false, List, [], length}
use Rattle.std.specs.Prelude.{Result, Ok, Err}
use Rattle.medium.specs.{Medium.State, declared.fault.MediumFault.TheVariants.Flush}
use Rattle.scsi.specs.{Sense.Sense, declared.command.{Command.Command, Transfer.Transfer}}
use Rattle.scsi.specs.Rules.{moves_blocks, wants_writing}
use Rattle.theorems.specs.Retiring.{finish_flushes, both_flushes, both_calls, finish_calls}
use Rattle.theorems.specs.Retiring.{finished, wants}
use Rattle.blocks.specs.StoreValue.{Cached, transfer_limit, active_of, FitsBeside, TakesRange}
pub use Rattle.theorems.specs.Headroom.{HasHeadroom}
pub use Rattle.blocks.specs.Headroom.{KeepsHeadroom}
pub use Rattle.theorems.specs.Steady.{IsSteady, steady_calls}
use Rattle.scsi.specs.declared.command.Command.TheVariants as command

-- the calls and the flushes that make the frozen batch durable, and then one of these blocks, and
-- no other
pub record CostsBoth (ahead : Bool) (active : List ℕ) (before after : State) (s : Cached)
    : Type 0 where
  pub calls : after.calls ≡ before.calls + both_calls ahead s.frozen.numbers active s.log
  pub flushes : after.made Flush
      ≡ before.made Flush + both_flushes ahead s.frozen.numbers active s.log

-- where writes are made durable: those for both batches; else none
abbrev pub CostsFinishing : Bool → Bool → State → State → Cached → Type 0
CostsFinishing ahead false before after old =
    (after.calls ≡ before.calls) × (after.made Flush ≡ before.made Flush)
CostsFinishing ahead true before after old =
    CostsBoth ahead old.active.numbers before after old

-- A write that is made durable, and whose range fits beside the batch that takes writes: the same,
-- with the range in that batch.
pub record CostsThrough (ahead : Bool) (transfer : Transfer) (before after : State) (old : Cached)
    : Type 0 where
  pub active : List ℕ
  pub takes : TakesRange (transfer_limit old) (active_of old) transfer.address transfer.count active
  pub both : CostsBoth ahead active before after old

-- A write whose range does not fit: the batch before is made durable for it.
pub record CostsAlone (ahead : Bool) (before after : State) (old : Cached) : Type 0 where
  pub calls : after.calls ≡ before.calls + finish_calls ahead old.frozen.numbers old.log
  pub flushes : after.made Flush ≡ before.made Flush + finish_flushes old.frozen.numbers old.log

-- One that is made durable too: then the batch that took writes, and that of the range.
pub record CostsAloneThrough (ahead : Bool) (transfer : Transfer) (before after : State)
    (old : Cached) : Type 0 where
  pub active : List ℕ
  pub takes : TakesRange (transfer_limit old) (active_of old) transfer.address transfer.count active
  pub calls : after.calls ≡ before.calls + finish_calls ahead old.frozen.numbers old.log
      + both_calls ahead old.active.numbers active (finished ahead old.frozen old.log)
  pub flushes : after.made Flush ≡ before.made Flush + finish_flushes old.frozen.numbers old.log
      + both_flushes ahead old.active.numbers active (finished ahead old.frozen old.log)

-- a write of some blocks, which is made durable or is not
pub record CostsWritten (ahead : Bool) (transfer : Transfer) (before after : State) (old : Cached)
    : Type 0 where
  pub beside : FitsBeside (transfer_limit old) (active_of old) transfer.address transfer.count
      → CostsThrough ahead transfer before after old
  pub alone : ¬ FitsBeside (transfer_limit old) (active_of old) transfer.address transfer.count
      → CostsAloneThrough ahead transfer before after old

abbrev pub CostsWriting : Bool → Bool → Bool → Transfer → State → State → Cached → Type 0
CostsWriting ahead false durable transfer before after old =
    (after.calls ≡ before.calls) × (after.made Flush ≡ before.made Flush)
CostsWriting ahead true false transfer before after old =
    ¬ FitsBeside (transfer_limit old) (active_of old) transfer.address transfer.count
    → CostsAlone ahead before after old
CostsWriting ahead true true transfer before after old =
    CostsWritten ahead transfer before after old

-- the same of a good command: a READ reads besides
abbrev pub CostsAfter : Bool → Result Command Sense → List ℕ → Bool → State → State → Cached
    → Type 0
CostsAfter ahead (Ok (command.Read10 transfer)) taken write_cache before after old = ⊤
CostsAfter ahead (Ok (command.Read16 transfer)) taken write_cache before after old = ⊤
CostsAfter ahead (Ok (command.Write10 transfer)) taken write_cache before after old =
    CostsWriting ahead (moves_blocks transfer) (transfer.fua || not write_cache) transfer
    before after old
CostsAfter ahead (Ok (command.Write16 transfer)) taken write_cache before after old =
    CostsWriting ahead (moves_blocks transfer) (transfer.fua || not write_cache) transfer
    before after old
CostsAfter ahead (Ok command) taken write_cache before after old =
    CostsFinishing ahead (wants_writing command taken write_cache) before after old
CostsAfter ahead (Err sense) taken write_cache before after old = ⊤

-- Where a unit goes ahead in a ring that records alone have filled, one batch costs the calls of
-- its record, one write of the head, and those that bring one record home.
abbrev pub SteadyIsCheap : Type 0
SteadyIsCheap = (active : List ℕ) (old : Cached) → IsSteady old.log → old.frozen.numbers ≡ []
    → 0 < length active
    → both_calls true old.frozen.numbers active old.log ≡ steady_calls active old.log

-- Where a unit goes ahead and has headroom, each record flushes once, and nothing else does: one
-- flush for each batch that holds blocks. A record that is under way is that of the first.
abbrev pub RecordsFlushOnce : Type 0
RecordsFlushOnce = (active : List ℕ) (old : Cached) → HasHeadroom old.log
    → (0 < old.log.steps_left → wants old.frozen.numbers ≡ 1)
    → (both_flushes true old.frozen.numbers active old.log
    ≡ wants old.frozen.numbers + wants active)
    × (finish_flushes old.frozen.numbers old.log ≡ wants old.frozen.numbers)
    × HasHeadroom (finished true old.frozen old.log)

-- what records cost
pub record AreCostLaws : Type 0 where
  pub steady : SteadyIsCheap
  pub once : RecordsFlushOnce
