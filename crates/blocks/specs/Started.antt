-- How a store starts.
use Rattle.std.specs.Prelude.{◌≡◌, ◌⊎◌, ℕ, ◌+◌, ◌*◌, ◌^◌, ◌<◌, ◌≤◌, Bool, true, false, [], min, max}
use Rattle.std.specs.Prelude.{◌&&◌}
use Rattle.medium.specs.{Medium.{State, Image}, Moments.{EachCut, LeavesOnly, IsFlushed}}
use Rattle.logical_blocks.specs.{Blocks.Array, Book.{Book, opened}}
use Rattle.journal.specs.{Places.{Shape, limit_of}, Formats.shape_of, Standing.StandsFor}
use Rattle.journal.specs.Standing.{IsOurs, HasShape}
use Rattle.redo_log.specs.Value.{LogValue, empty_from}
use Rattle.theorems.specs.{Ahead.may_go_by, Headroom.HasHeadroom, Steady.{IsFilling, ReachesSteady}}
use Rattle.theorems.specs.{LogRuns.opened_with, Ordering.Opens}
use Rattle.recovery.specs.{Causes.{IsCause, IsDeviceFault}, Calls.most_start_of}
use Rattle.recovery.specs.Recovered.{IsRecoveredFrom, IsOursForSome, IsOursWithNext, StandsForOneOf}
use Rattle.recovery.specs.Recovered.{RecoverySends, SparesTheRest}
-- handed on to the layers above
pub use Rattle.recovery.specs.Recovered.{FitsRecovered, LeftByRecovery}
pub use Rattle.recovery.specs.declared.recovered.Recovered.{Recovered}
use Rattle.recovery.specs.declared.start_fault.StartFault.{TheVariants.NoMemory, StartFault}
use Rattle.blocks.specs.declared.start.Keeping.{TheVariants.{ReadBack, Kept}, Keeping}
use Rattle.blocks.specs.{Finding.MayFind, Opening.OpensOn, StoreValue.Cached}
use Rattle.blocks.specs.StoreValue.{layout_of, blocks_of, is_dead, active_of, steps_left, FitsBook}
use Rattle.blocks.specs.StoreValue.{StoreValue, slots_of}
use Rattle.recovery.specs.Calls as recovery

-- how many records may stand at once in so many slots, and whether their blocks are kept
abbrev pub ring_by : Keeping → ℕ → ℕ
ring_by ReadBack slots = slots
ring_by (Kept count) slots = min (max count 1) slots

abbrev pub keeps_by : Keeping → Bool
keeps_by ReadBack = false
keeps_by (Kept count) = true

-- the log with which a store starts, whose first record takes this stamp
abbrev pub started_log : Keeping → Shape → ℕ → LogValue
started_log keeping shape next =
    empty_from shape next (ring_by keeping shape.slots) (keeps_by keeping)

-- a store with nothing cached, behind a recovery with this answer
abbrev pub cached_from : Keeping → Recovered → Cached
cached_from keeping found = let limit : ℕ = limit_of found.sizes.format in record {
  log = started_log keeping (shape_of found.sizes) found.next;
  active = record { room = limit; numbers = []; bytes = [] };
  frozen = record { room = limit; numbers = []; bytes = [] };
}

-- A store that has started serves the array for which the contents stood. It fits a life that opens
-- with it, as ours where every image was. Nothing is cached, or left to do.
pub record IsStartedFrom (keeping : Keeping) (before after : State) (new : Cached) : Type 0 where
  pub array : Array
  pub next : ℕ
  pub stood : StandsFor before.size (layout_of new) before.content array next
  pub stamp_left : next < 2 ^ 63
  pub fits : (ours : Bool) → (ours ≡ true → EachCut (IsOursForSome before.size) before)
      → FitsBook after new (opened (blocks_of new) array next ours)
  -- over books: it fits each with which a life may open over the contents, and there is one
  pub serves : (book : Book) → OpensOn before book → FitsBook after new book
  pub opens : OpensOn before (opened (blocks_of new) array next false)
  pub live : is_dead new ≡ false
  pub empty : active_of new ≡ []
  pub rests : steps_left new ≡ 0
  -- no record waits, and the first one takes that stamp
  pub log : new.log ≡ started_log keeping (layout_of new) next
  -- where the contents were ours, that log is one that was opened
  pub opened : IsOurs before.size (layout_of new) before.content array next
      → Opens (opened_with (layout_of new) array next) after

-- It was started by its own recovery of the medium.
pub record IsStartedBy (keeping : Keeping) (before after : State) (new : Cached) : Type 0 where
  pub from : IsStartedFrom keeping before after new
  pub open from use *
  -- the medium was recovered, and nothing was done to it afterwards
  pub recovered : (answer : Recovered) × IsRecoveredFrom before after answer

-- one that reads its log back
abbrev pub IsStarted : State → State → Cached → Type 0
IsStarted before after new = IsStartedBy ReadBack before after new

-- Why a start is refused: as recovery is, or, once the medium is recovered, for want of memory.
abbrev pub IsStartCause : State → State → StartFault → Type 0
IsStartCause before after fault = IsCause before after fault
    ⊎ ((fault ≡ NoMemory) × (answer : Recovered) × IsRecoveredFrom before after answer)

-- Every image that a cut may have left since the first call, a flush that was good, has P.
abbrev pub IsOursSince : (Image → Type 0) → State → State → Type 0
IsOursSince P before after = before.calls + 2 ≤ after.calls
    → (image : Image) → after.left_since (before.calls + 1) image → P image

-- no count falls, the size stays, and the calls, writes and flushes are a recovery's at most
pub record IsBounded (before after : State) : Type 0 where
  pub moments : LeavesOnly (λ _. Unit {0}) before after
  pub calls : after.calls ≤ before.calls + 6 + 738 * 64
  -- where the image has a super, for its format and its slots
  pub most : (shape : Shape) → HasShape before.size shape before.content
      → after.calls ≤ before.calls + 6 + most_start_of shape.format * shape.slots
  pub sends : RecoverySends before after

-- What a start leaves at each moment, whether it is good or refused.
pub record StartLeaves (before after : State) : Type 0 where
  -- where every image was ours, one that is ours and stands for what one of them stood for
  pub cuts : EachCut (IsOursForSome before.size) before
      → LeavesOnly (StandsForOneOf before) before after
  -- from the first good flush on, for what the contents stood for
  pub after_flush : (shape : Shape) (array : Array) (next : ℕ)
      → IsOurs before.size shape before.content array next
      → IsOursSince (IsOursWithNext before.size shape array next) before after
  -- over books: where nothing was unflushed, what may be found of each with which a life opens
  pub finds : (book : Book) → OpensOn before book → book.ours ≡ true → IsFlushed before
      → EachCut (MayFind after.size book) after
  -- whatever the image, no count falls, the size stays, and the calls are bounded
  pub bounded : IsBounded before after

-- What a start leaves of its medium at each moment, whether it is good or refused.
pub record LeavesMedium {M : Type 0} (state : M → State) (Follows : M → M → Type 0) (old new : M)
    : Type 0 where
  pub cuts : EachCut (IsOursForSome (state old).size) (state old)
      → LeavesOnly (StandsForOneOf (state old)) (state old) (state new)
  -- from the first good flush on it is the array of the contents
  pub after_flush : (shape : Shape) (array : Array) (next : ℕ)
      → IsOurs (state old).size shape (state old).content array next
      → IsOursSince (IsOursWithNext (state old).size shape array next) (state old) (state new)
  -- whatever the image, no count falls, the size stays, and the calls are bounded
  pub moments : IsBounded (state old) (state new)
  -- the sectors behind the image are spared, whatever becomes of the start
  pub spares : SparesTheRest (state old) (state new)
  pub follows : Follows old new
  -- each read names a sector of the log
  pub looks : recovery.LooksAtLog (state old) (state new)
  -- where no record waits, the super, the head, or what tells that the next record is not there
  pub fresh_looks : recovery.LooksAtFresh (state old) (state new)

-- What is known of the log of a store that has started, which goes ahead where that was asked for
-- and its log allows it. Records alone fill its ring, which is steady after a sync for each slot
-- but one, and never full.
pub record HasStartedLog {M : Type 0} (keeping : Keeping) (ahead : Bool) (store : StoreValue M)
    : Type 0 where
  pub keeps : store.cached.log.keeps ≡ keeps_by keeping
  pub ring : store.cached.log.ring ≡ ring_by keeping (slots_of store.cached)
  pub policy : store.goes_ahead ≡ (ahead
      && may_go_by (layout_of store.cached).format store.cached.log.ring)
  pub filling : store.goes_ahead ≡ true → IsFilling store.cached.log
  pub reaches : store.goes_ahead ≡ true → ReachesSteady store.cached.log
  pub headroom : store.goes_ahead ≡ true → HasHeadroom store.cached.log

-- A store that was started so, on a medium that it recovered.
pub record StartsBy {M : Type 0} (keeping : Keeping) (ahead : Bool) (state : M → State)
    (Follows : M → M → Type 0) (medium : M) (store : StoreValue M) : Type 0 where
  pub started : IsStartedBy keeping (state medium) (state store.medium) store.cached
  pub has_log : HasStartedLog keeping ahead store
  pub open has_log use *
  pub leaves : LeavesMedium state Follows medium store.medium

-- A store that was started behind a recovery with this answer. Nothing was done to its medium. If
-- that is as the recovery left it, the store is started as one that recovered it itself.
pub record StartFromPost {M : Type 0} (keeping : Keeping) (ahead : Bool) (state : M → State)
    (found : Recovered) (medium : M) (store : StoreValue M) : Type 0 where
  pub medium_stays : store.medium ≡ medium
  pub cached_is : store.cached ≡ cached_from keeping found
  pub has_log : HasStartedLog keeping ahead store
  pub open has_log use *
  pub started : (before after : M)
      → LeftByRecovery (state before) (state after) found (state medium)
      → IsStartedFrom keeping (state before) (state medium) store.cached

-- one that goes ahead where its log allows it
abbrev pub StartsAhead : {M : Type 0} → (M → State) → (M → M → Type 0) → M → StoreValue M → Type 0
StartsAhead state Follows medium store = StartsBy ReadBack true state Follows medium store

-- one that does so too, and keeps the bytes of its records, of so many at most
abbrev pub StartsKeeping : {M : Type 0} → (M → State) → (M → M → Type 0) → ℕ → M → StoreValue M
    → Type 0
StartsKeeping state Follows kept medium store = StartsBy (Kept kept) true state Follows medium store

-- Its start was refused, as any: contents that stand for something with a stamp left are refused by
-- the device alone, or for want of memory.
pub record RefusesStart {M : Type 0} (state : M → State) (Follows : M → M → Type 0)
    (medium back : M) (fault : StartFault) : Type 0 where
  pub cause : IsStartCause (state medium) (state back) fault
  pub served : (shape : Shape) (array : Array) (next : ℕ)
      → StandsFor (state medium).size shape (state medium).content array next → next < 2 ^ 63
      → IsDeviceFault fault ⊎ (fault ≡ NoMemory)
  pub leaves : LeavesMedium state Follows medium back
