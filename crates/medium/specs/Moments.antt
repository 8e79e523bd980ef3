-- What calls of a medium leave at each moment of them.
use Rattle.std.specs.Prelude.{◌≡◌, ◌⊎◌, ℕ, ◌≤◌, List}
use Rattle.medium.specs.Medium.{State, Image, Sets, CutLeaves, Stays, Within, Only}
use Rattle.medium.specs.declared.fault.MediumFault.{MediumFault}

-- each image that a cut now may leave has P
abbrev pub EachCut : (Image → Type 0) → State → Type 0
EachCut P m = (image : Image) → CutLeaves m.may_leave image → P image

-- a cut now leaves what a read gives
abbrev pub IsFlushed : State → Type 0
IsFlushed m = Only m.content m.may_leave

-- A cut at any moment since old leaves an image that has P.
pub record LeavesOnly (P : Image → Type 0) (old new : State) : Type 0 where
  pub later : old.calls ≤ new.calls
  pub failures_stay : old.failures ≤ new.failures
  pub refused_stay : (kind : MediumFault) → old.refused kind ≤ new.refused kind
  pub size_stays : new.size ≡ old.size
  pub each : (image : Image) → new.left_since old.calls image → P image
  -- for a run that began earlier
  pub before : (t : ℕ) (image : Image) → t ≤ old.calls → new.left_since t image
      → old.left_since t image ⊎ P image

-- a cut at any moment since old leaves each sector by one of these sets
abbrev pub StaysWithin : Sets → State → State → Type 0
StaysWithin bound old new = LeavesOnly (CutLeaves bound) old new

-- The sectors from this one on are spared: they hold what they held, and a cut, now or at any
-- moment since old, leaves in them only what it could have left before.
pub record SparesFrom (first : ℕ) (old new : State) : Type 0 where
  pub content : (s : ℕ) → first ≤ s → new.content s ≡ old.content s
  pub sets : (s : ℕ) (c : List ℕ) → first ≤ s → new.may_leave s c → old.may_leave s c
  pub moments : LeavesOnly (λ image. (s : ℕ) → first ≤ s → old.may_leave s (image s)) old new

-- Calls that wrote nothing: no content changed,
-- and what a cut may leave, now and at each moment between, could be left before.
pub record IsQuiet (old new : State) : Type 0 where
  pub later : old.calls ≤ new.calls
  pub failures_stay : old.failures ≤ new.failures
  pub refused_stay : (kind : MediumFault) → old.refused kind ≤ new.refused kind
  pub size_stays : new.size ≡ old.size
  pub content_stays : Stays old.content new.content
  pub sets_shrink : Within new.may_leave old.may_leave
  pub nothing_else : (t : ℕ) (image : Image) → t ≤ old.calls → new.left_since t image
      → old.left_since t image ⊎ CutLeaves old.may_leave image

-- no content, no set and no count has changed
pub record IsUnchanged (old new : State) : Type 0 where
  pub size_stays : new.size ≡ old.size
  pub content_stays : Stays old.content new.content
  pub sets_shrink : Within new.may_leave old.may_leave
  pub sets_grow : Within old.may_leave new.may_leave
  pub left_shrinks : (t : ℕ) (image : Image) → new.left_since t image → old.left_since t image
  pub left_grows : (t : ℕ) (image : Image) → old.left_since t image → new.left_since t image
  pub calls_stay : new.calls ≡ old.calls
  pub made_stays : (kind : MediumFault) → new.made kind ≡ old.made kind
  pub failures_stay : new.failures ≡ old.failures
  pub refused_stay : (kind : MediumFault) → new.refused kind ≡ old.refused kind
