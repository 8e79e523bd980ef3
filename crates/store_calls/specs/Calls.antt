-- What each call does to a store.
use Rattle.std.specs.Prelude.{◌≡◌, ◌≢◌, ◌⊎◌, ℕ, ◌+◌, ◌*◌, ◌/◌, ◌%◌, ◌<◌, Bool, true, false, List}
use Rattle.medium.specs.Sent.{SendsUpTo}
use Rattle.logical_blocks.specs.{Blocks.Write, Book.{Book, array_of, blocks_at}}
use Rattle.journal.specs.Places.{first_home}
use Rattle.theorems.specs.Headroom.{HasHeadroom}
use Rattle.window.specs.Window.{state_of, ComesAfter, AreOnDevice, IsShown}
use Rattle.blocks.specs.{Book.IsTransfer, Passing.{IsReadBeside, KeepsMedium, PassesOn}}
use Rattle.blocks.specs.Passing.{IsUntouched}
use Rattle.blocks.specs.StoreValue.{Cached, layout_of, blocks_of, transfer_limit, is_dead, FitsBook}
use Rattle.blocks.specs.{Headroom.{KeepsHeadroom, FlushesOnce}, Prepared.IsTakenAtOnce}
use Rattle.blocks.specs.{Turns.{IsTurn, IsWriteTurn}, Work.{IsWork, CountsBy, RetiresNone}}
use Rattle.blocks.specs.declared.work.Work.{Work}
use Rattle.store_calls.specs.{Stores.Store, Rooms.{Appends, TakesCalls, HasRoom, HoldsLog}}
use Rattle.store_calls.specs.declared.store_fault.StoreFault.{StoreFault}
use Rattle.store_calls.specs.declared.store_fault.StoreFault.TheVariants as fault

-- ---- whether a call may move blocks

-- the store is live, and `size` bytes are whole blocks of it from this address on, 1 to as many as
-- its limit
pub record MayMove (s : Cached) (address size : ℕ) : Type 0 where
  pub transfer : IsTransfer (transfer_limit s) (blocks_of s) address size
  pub live : is_dead s ≡ false

-- `size` bytes are no whole blocks, none, or more than the limit
abbrev pub IsNoSize : Cached → ℕ → Type 0
IsNoSize s size = (size ≡ 0) ⊎ (size % 512 ≢ 0) ⊎ (transfer_limit s * 512 < size)

-- Why they may not: for the length first, then for the range, and then since the store is dead.
abbrev pub MayNotMove : Cached → ℕ → ℕ → StoreFault → Type 0
MayNotMove s address size why = ((why ≡ fault.Length) × IsNoSize s size)
    ⊎ ((why ≡ fault.Range) × (¬ IsNoSize s size) × (blocks_of s < address + size / 512))
    ⊎ ((why ≡ fault.Dead) × IsTransfer (transfer_limit s) (blocks_of s) address size
    × (is_dead s ≡ true))

-- ---- a read

-- the home sector of a block
abbrev pub home_of : Store → ℕ → ℕ
home_of s address = first_home (layout_of s.cached) + address

-- The store is as it was, and nothing is written.
pub record KeepsAll (address count : ℕ) (old new : Store) : Type 0 where
  pub keeps : IsReadBeside state_of ComesAfter address count old new
  pub turn : IsTurn (state_of old.medium) (state_of new.medium) old.cached new.cached
  pub none_sent : SendsUpTo 0 (state_of old.medium) (state_of new.medium)
  pub appends : Appends (TakesCalls 0 old) old new

-- The count blocks were read: those after all accepted writes.
pub record IsRead (address count : ℕ) (old : Store) (filled : List ℕ) (new : Store) : Type 0 where
  pub bytes : (book : Book) → FitsBook (state_of old.medium) old.cached book
      → filled ≡ blocks_at (array_of book) address count
  pub all : KeepsAll address count old new

-- a sector of the log is read back, and not in memory
pub record IsUnread (address count : ℕ) (old new : Store) : Type 0 where
  pub unseen : ¬ HoldsLog old
  pub all : KeepsAll address count old new

-- ---- a write

-- One write was accepted, whole, and the medium is as it was.
pub record IsWritten (write : Write) (old new : Store) : Type 0 where
  pub keeps : KeepsMedium state_of ComesAfter (IsWriteTurn write true) old new
  pub live : is_dead new.cached ≡ false
  pub appends : Appends (TakesCalls 0 old) old new

-- What such a write of count blocks costs: no call of the device. Its range fits beside the batch
-- that takes writes, or there is room for a batch of its own.
pub record CostsWrite (address count : ℕ) (old new : Store) : Type 0 where
  pub at_once : IsTakenAtOnce old.cached address count
  pub none : new.medium ≡ old.medium
  pub headroom : old.goes_ahead ≡ true → HasHeadroom old.cached.log → HasHeadroom new.cached.log

-- ---- the work in the background

-- a step in the background that works towards this
pub record IsStep (work : Work) (old new : Store) : Type 0 where
  pub passes : PassesOn state_of ComesAfter IsTurn 2 2 old new
  pub order : IsWork work old.goes_ahead (state_of old.medium) (state_of new.medium)
      old.cached new.cached
  pub headroom : KeepsHeadroom old new
  -- one flush for each record that becomes durable
  pub once : RetiresNone work old.goes_ahead old.cached
      → FlushesOnce old.goes_ahead (state_of old.medium) (state_of new.medium) old.cached new.cached
  pub counts : CountsBy work old new
  pub appends : Appends (HasRoom old) old new

-- ---- the device

-- Sectors are shown, and taken or not. Where they are what the device holds, the store fits what it
-- fitted; where they are not, nothing but the medium has changed.
pub record Sees (first : ℕ) (bytes : List ℕ) (taken : Bool) (old new : Store) : Type 0 where
  pub shown : IsShown first bytes taken old.medium new.medium
  pub cached : new.cached ≡ old.cached
  pub untouched : AreOnDevice first bytes old.medium → IsUntouched state_of old new
