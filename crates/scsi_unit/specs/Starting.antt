-- How a unit starts over a medium, and why it is refused. The layers above know the images of a
-- medium by the words that are handed on here and in Books, and open none of them.
use Rattle.std.specs.Prelude.{◌≡◌, ℕ, true}
use Rattle.medium.specs.{Medium.State, Moments.{EachCut, LeavesOnly}}
use Rattle.logical_blocks.specs.Book.{Book}
use Rattle.scsi.specs.{Identification.Identification, Rules.opened_unit}
use Rattle.theorems.specs.Headroom.{HasHeadroom}
use Rattle.blocks.specs.{StoreValue.{Cached, StoreValue}, Opening.StartFault}
use Rattle.blocks.specs.declared.start.Keeping.{Keeping}
use Rattle.scsi_unit.specs.{UnitValue.{UnitValue, unit_limit, state_of}, Retiring.goes_ahead_by}
use Rattle.scsi_unit.specs.Retiring.{keeping_of, RetiresBy}
use Rattle.scsi_unit.specs.declared.retiring.Retiring.{TheVariants.Late, Retiring}
-- the limit of a unit is that of the image that it starts on
pub use Rattle.blocks.specs.Limit.{HasLimit}
pub use Rattle.blocks.specs.Opening.{IsOursForSome, Stands, StandsForOpening, StandsForSome}
pub use Rattle.blocks.specs.Opening.{OpensOn, IsCauseFor}
pub use Rattle.blocks.specs.Started.{IsStarted, IsStartedBy, IsStartCause, StartLeaves}
-- behind a recovery that was made before
pub use Rattle.blocks.specs.Started.{IsStartedFrom, cached_from, Recovered, FitsRecovered}
pub use Rattle.blocks.specs.Started.{LeftByRecovery}
-- what it leaves of its medium, and which sectors its reads name
pub use Rattle.blocks.specs.Started.{LeavesMedium}
-- for the number of blocks with which a life opened
pub use Rattle.blocks.specs.Opening.{Shape, StandsFor}
pub use Rattle.blocks.specs.StoreValue.{layout_of, blocks_of}

-- A unit that has started: its store has, and by the rules it is one that was just opened, on each
-- book of its life. It retires as its start asked.
pub record IsUnitStartedBy {M : Type 0} (retiring : Retiring) (before after : State)
    (identity : Identification) (unit : UnitValue M) : Type 0 where
  pub store : IsStartedBy (keeping_of retiring) before after unit.store.cached
  pub retires : RetiresBy retiring unit
  -- where it goes ahead its ring is never full
  pub headroom : unit.store.goes_ahead ≡ true → HasHeadroom unit.store.cached.log
  -- its limit is that of the image
  pub limit : HasLimit before.size (unit_limit unit) before.content
  pub opened : (book : Book) → state_of unit book ≡ opened_unit (unit_limit unit) identity book

-- one that retires late
abbrev pub IsUnitStarted : {M : Type 0} → State → State → Identification → UnitValue M → Type 0
IsUnitStarted before after identity unit = IsUnitStartedBy Late before after identity unit

-- Why no unit has started. Where a life may open over the contents, only few causes are possible.
pub record IsNotStarted (before after : State) (fault : StartFault) : Type 0 where
  pub cause : IsStartCause before after fault
  pub possible : (book : Book) → OpensOn before book → IsCauseFor book before after fault

-- What the start of a unit leaves of its medium, whether it is good or refused.
pub record LeavesStarted {M : Type 0} (state : M → State) (Follows : M → M → Type 0) (old new : M)
    : Type 0 where
  pub leaves : StartLeaves (state old) (state new)
  -- where every image was ours and had one limit, every image that a cut may leave has it
  pub limit : (limit : ℕ) → EachCut (IsOursForSome (state old).size) (state old)
      → EachCut (HasLimit (state old).size limit) (state old)
      → LeavesOnly (HasLimit (state old).size limit) (state old) (state new)
  pub medium : LeavesMedium state Follows old new

-- a unit starts that retires so
pub record StartsUnit {M : Type 0} (retiring : Retiring) (state : M → State)
    (Follows : M → M → Type 0) (medium : M) (identity : Identification) (unit : UnitValue M)
    : Type 0 where
  pub started : IsUnitStartedBy retiring (state medium) (state unit.store.medium) identity unit
  pub leaves : LeavesStarted state Follows medium unit.store.medium

-- no unit starts, and the medium comes back
pub record RefusesUnit {M : Type 0} (state : M → State) (Follows : M → M → Type 0)
    (medium back : M) (fault : StartFault) : Type 0 where
  pub cause : IsNotStarted (state medium) (state back) fault
  pub leaves : LeavesStarted state Follows medium back

-- A store that has started for a unit, and retires as that asked.
pub record StoreStartsBy {M : Type 0} (retiring : Retiring) (state : M → State)
    (Follows : M → M → Type 0) (medium : M) (store : StoreValue M) : Type 0 where
  pub started : IsStartedBy (keeping_of retiring) (state medium) (state store.medium) store.cached
  pub policy : store.goes_ahead ≡ goes_ahead_by retiring (layout_of store.cached)
  pub headroom : store.goes_ahead ≡ true → HasHeadroom store.cached.log
  pub leaves : LeavesMedium state Follows medium store.medium

-- no store starts for a unit, and the medium comes back
pub record StoreRefuses {M : Type 0} (state : M → State) (Follows : M → M → Type 0)
    (medium back : M) (fault : StartFault) : Type 0 where
  pub cause : IsStartCause (state medium) (state back) fault
  pub leaves : LeavesMedium state Follows medium back

-- a store has started
abbrev pub HasStore : State → State → Type 0
HasStore before after = (keeping : Keeping) × (store : Cached)
    × IsStartedBy keeping before after store

-- A store that was started for a unit behind a recovery with this answer, and retires as that
-- asked. Nothing was done to its medium.
pub record StoreFromPost {M : Type 0} (retiring : Retiring) (state : M → State) (found : Recovered)
    (medium : M) (store : StoreValue M) : Type 0 where
  pub medium_stays : store.medium ≡ medium
  pub cached_is : store.cached ≡ cached_from (keeping_of retiring) found
  pub policy : store.goes_ahead ≡ goes_ahead_by retiring (layout_of store.cached)
  pub headroom : store.goes_ahead ≡ true → HasHeadroom store.cached.log
  pub started : (before after : M)
      → LeftByRecovery (state before) (state after) found (state medium)
      → IsStartedFrom (keeping_of retiring) (state before) (state medium) store.cached

-- A unit that was started behind a recovery with this answer. Nothing was done to its medium. If
-- that is as the recovery left it, the unit is as one that recovered it itself.
pub record UnitStartFromPost {M : Type 0} (retiring : Retiring) (state : M → State)
    (found : Recovered) (medium : M) (identity : Identification) (unit : UnitValue M)
    : Type 0 where
  pub store : StoreFromPost retiring state found medium unit.store
  pub retires : RetiresBy retiring unit
  pub opened : (book : Book) → state_of unit book ≡ opened_unit (unit_limit unit) identity book
  -- its limit is that of the image
  pub limit : (before after : M)
      → LeftByRecovery (state before) (state after) found (state medium)
      → HasLimit (state before).size (unit_limit unit) (state before).content
