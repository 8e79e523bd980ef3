-- What the calls of a store do that read blocks for a caller.
use Rattle.std.specs.Prelude.{◌≡◌, ◌⊎◌, ◌≤◌, ◌+◌, ◌*◌, ◌^◌, ℕ, false, List, [], Some, None, Result}
use Rattle.std.specs.Prelude.{Ok, Err, OnOk, IfErr}
use Rattle.medium.specs.{Medium.State, declared.fault.MediumFault.MediumFault}
use Rattle.logical_blocks.specs.Book.{Book, array_of, blocks_at}
use Rattle.redo_log.specs.Value.{HasNoCopy}
use Rattle.cache.specs.{Blocks.unlisted, Entries.map_of, Places.HasPlace}
use Rattle.blocks.specs.{Calls.{reads_of, CostsReads}, Passing.KeepsStore, StoreValue.Cached}
use Rattle.blocks.specs.{StoreValue.{StoreValue, blocks_of, is_dead, FitsBook}, Turns.IsReadCause}
use Rattle.blocks.specs.declared.fault.StoreFault.{TheVariants.ReadFault, StoreFault}

-- the store is live, and has count blocks from an address on, which have so many bytes
pub record AreReadable (s : Cached) (address count bytes : ℕ) : Type 0 where
  pub live : is_dead s ≡ false
  pub inside : address + count ≤ blocks_of s
  pub small : address + count ≤ 2 ^ 31
  pub size : bytes ≡ 512 * count

-- the block's places among the numbers of both batches
pub record HasPlaces (s : Cached) (block first second : ℕ) : Type 0 where
  pub active : HasPlace s.active.numbers block first
  pub frozen : HasPlace s.frozen.numbers block second

-- the newest batch that has the block has these bytes of it: the active one, or else the frozen one
abbrev pub IsInBatch : Cached → ℕ → List ℕ → Type 0
IsInBatch s block bytes = (map_of s.active block ≡ Some bytes)
    ⊎ ((map_of s.active block ≡ None) × (map_of s.frozen block ≡ Some bytes))

-- no batch has the block
abbrev pub IsInNone : Cached → ℕ → Type 0
IsInNone s block = (map_of s.active block ≡ None) × (map_of s.frozen block ≡ None)

-- the block is at home alone: no batch has it, nor a record that waits to be retired
pub record IsOnlyAtHome (s : Cached) (block : ℕ) : Type 0 where
  pub none : IsInNone s block
  pub log : HasNoCopy s.log block

-- count blocks from an address on are: no record waits
pub record AreAtHome (s : Cached) (address count : ℕ) : Type 0 where
  pub active : unlisted s.active.numbers address count ≡ count
  pub frozen : unlisted s.frozen.numbers address count ≡ count
  pub log : s.log.waiting ≡ []

-- how a store tells of one read of its medium
abbrev pub told : Result (Unit {0}) MediumFault → Result (Unit {0}) StoreFault
told (Ok done) = Ok done
told (Err fault) = Err ReadFault

-- From an address on count blocks are read: good, they are the newest; refused, there is a cause.
-- The store stays, and the cost is told.
pub record ReadsBlocks {M : Type 0} (state : M → State) (Follows : M → M → Type 0)
    (result : Result (Unit {0}) StoreFault) (address count : ℕ) (bytes : List ℕ)
    (old new : StoreValue M) : Type 0 where
  pub ok : (book : Book) → FitsBook (state old.medium) old.cached book
      → OnOk result (bytes ≡ blocks_at (array_of book) address count)
  pub err : IfErr result (IsReadCause (state old.medium) (state new.medium) old.cached)
  pub keeps : KeepsStore state Follows address count old new
  pub cost : CostsReads result count (reads_of old.cached address count)
      (state old.medium) (state new.medium)

-- one is, and the places are those of the next block
pub record ReadsNext {M : Type 0} (state : M → State) (Follows : M → M → Type 0)
    (result : Result (Unit {0}) StoreFault) (block : ℕ) (bytes : List ℕ) (first second : ℕ)
    (old new : StoreValue M) : Type 0 where
  pub reads : ReadsBlocks state Follows result block 1 bytes old new
  pub next : HasPlaces old.cached (block + 1) first second
