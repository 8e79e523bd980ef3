-- What a store reads, writes and makes durable.
use Rattle.std.specs.Prelude.{◌≡◌, ℕ, List, Result, Ok, Err}
use Rattle.blocks.specs.StoreValue.{blocks_of, transfer_limit}
use Rattle.store_calls.specs.StoreMachine.{Machine}
use Rattle.store_calls.specs.Transfers.{Reads, Writes, Syncs}
use Rattle.store_calls.specs.declared.store_fault.StoreFault.{StoreFault}
use Rattle.store_calls.specs.declared.store_fault.StoreFault.TheVariants as fault
use Rattle.disk_machine.specs.Codes.{number_of, BAD_LENGTH}
use Rattle.calls.specs.Codes.{BUSY, OTHER_KIND}
use Rattle.calls.specs.Handles.{Held}
use Rattle.calls.specs.declared.held.Service.{Service}
use Rattle.calls.specs.declared.held.Service.TheVariants as service
use Rattle.calls.specs.declared.held.Held.TheVariants as held

abbrev pub code_of_store_fault : StoreFault → ℕ
code_of_store_fault fault.Busy = BUSY
code_of_store_fault fault.ReadRefused = 2
code_of_store_fault fault.Dead = 11
code_of_store_fault fault.Length = BAD_LENGTH
code_of_store_fault fault.Range = 24

abbrev pub code_of_stored : Result (Unit {0}) StoreFault → ℕ
code_of_stored (Ok done) = 0
code_of_stored (Err why) = code_of_store_fault why

-- of a store that is not there this number; of another kind OTHER_KIND
abbrev pub code_before : ℕ → Service → ℕ
code_before code (service.Disk plan) = OTHER_KIND
code_before code (service.Store kept) = code

-- The store does this, and stays. Where it is not there yet the answer is BUSY, where its start
-- failed the number of that, and where there is something of another kind OTHER_KIND: then the
-- handle stays, and the second is so.
abbrev pub ToStore : (Machine → Machine → ℕ → Type 0) → Type 0 → Held → Held → Held → ℕ → Type 0
ToStore Does Stays (held.Recovering b sectors what) old new code =
    (new ≡ old) × (code ≡ code_before BUSY what) × Stays
ToStore Does Stays (held.Opening o work) old new code = (new ≡ old) × (code ≡ OTHER_KIND) × Stays
ToStore Does Stays (held.Disk s) old new code = (new ≡ old) × (code ≡ OTHER_KIND) × Stays
ToStore Does Stays (held.Store s) old new code =
    (s' : Machine) × (new ≡ held.Store s') × Does s s' code
ToStore Does Stays (held.Image s) old new code = (new ≡ old) × (code ≡ OTHER_KIND) × Stays
ToStore Does Stays (held.Failed what why) old new code =
    (new ≡ old) × (code ≡ code_before (number_of why) what) × Stays
ToStore Does Stays (held.NoWork why) old new code = (new ≡ old) × (code ≡ OTHER_KIND) × Stays

-- how many blocks there are, and how many of them a read or a write has at most
pub record Tells (s s' : Machine) (blocks limit code : ℕ) : Type 0 where
  pub stays : s' ≡ s
  pub code_is : code ≡ 0
  pub blocks_are : blocks ≡ blocks_of s.store.cached
  pub limit_is : limit ≡ transfer_limit s.store.cached

abbrev pub TellsSizes : ℕ → ℕ → ℕ → ℕ → Held → Held → ℕ → Type 0
TellsSizes blocks limit blocks' limit' old new code = ToStore
    (λ s s' answer. Tells s s' blocks' limit' answer)
    ((blocks' ≡ blocks) × (limit' ≡ limit)) old old new code

abbrev pub ReadsBlocks : ℕ → List ℕ → List ℕ → Held → Held → ℕ → Type 0
ReadsBlocks block room filled old new code = ToStore
    (λ s s' answer. (result : Result (Unit {0}) StoreFault) × (answer ≡ code_of_stored result)
    × Reads block s room s' filled result) (filled ≡ room) old old new code

abbrev pub WritesBlocks : ℕ → List ℕ → Held → Held → ℕ → Type 0
WritesBlocks block bytes old new code = ToStore
    (λ s s' answer. (result : Result (Unit {0}) StoreFault) × (answer ≡ code_of_stored result)
    × Writes block bytes s s' result) (Unit {0}) old old new code

abbrev pub SyncsStore : Held → Held → ℕ → Type 0
SyncsStore old new code = ToStore
    (λ s s' answer. (result : Result (Unit {0}) StoreFault) × (answer ≡ code_of_stored result)
    × Syncs s s' result) (Unit {0}) old old new code
