-- What a new image and a medium hold while it is written, and while sectors are cleared.
use Rattle.std.specs.Prelude.{◌≡◌, ◌≢◌, ◌⊎◌, ℕ, ◌+◌, ◌-◌, ◌≤◌, ◌<◌, false, if◌then◌else◌, replicate}
use Rattle.std.{specs.Prelude.{List, [], ◌∷◌}, proofs.Common.arith}
use Rattle.medium.specs.{Medium.{State, Image, CutLeaves, Holds, Stays, Within}, Moments.EachCut}
use Rattle.medium.specs.{Moments.IsFlushed, declared.medium_call.Call.{Call, TheVariants.Write}}
use Rattle.medium.specs.{declared.medium_call.Call.TheVariants.Flush, Tally.{Tally, none, of_all}}
use Rattle.journal.specs.{Formats.shape_of, Sectors.IsHead}
use Rattle.recovery.specs.Calls.{IsBetween, IsWritten, WithOrWithout, cleared_at, AreMade}
use Rattle.recovery.specs.{Calls.zeros_and_head, declared.image_plan.ImagePlan.ImagePlan}
use Rattle.recovery.specs.declared.image_stage.ImageStage.{ImageStage}
use Rattle.recovery.specs.declared.image_stage.ImageStage.TheVariants as stage

-- the first sector that gets zeros behind the super, and the contents under these
pub record Under : Type 0 where
  pub first : ℕ
  pub image : Image
  pub some : 1 ≤ first
  pub most : first ≤ 2

-- The medium when an image of this plan began to be written, over these contents; the moment
-- from which on a cut leaves a part of it, or it; and the calls that write it.
pub record ImageView (M : Type 0) : Type 0 where
  pub start : M
  pub plan : ImagePlan
  pub under : Under
  pub since : ℕ
  pub calls : List Call

-- the contents have D, and each image that a cut now may leave has K
abbrev pub Shows : (Image → Type 0) → (Image → Type 0) → State → Type 0
Shows D K m = D m.content × EachCut K m

module _ (plan : ImagePlan) (under : Under) where
  -- zeros from the first sector up to this one, over what was there
  pub record IsBlank (at : ℕ) (image : Image) : Type 0 where
    pub some : under.first ≤ at
    pub inside : at ≤ plan.end
    pub zeros : (x : ℕ) → under.first ≤ x → x < at → image x ≡ replicate 512 0
    pub elsewhere : (x : ℕ) → ¬ IsBetween under.first at x → image x ≡ under.image x

  -- the head, and zeros up to the end
  pub record IsHeaded (image : Image) : Type 0 where
    pub head : IsHead plan.head.stamp (image 1)
    pub zeros : (x : ℕ) → 2 ≤ x → x < plan.end → image x ≡ replicate 512 0
    pub elsewhere : (x : ℕ) → x ≢ 1 → ¬ IsBetween 2 plan.end x → image x ≡ under.image x

  -- in each sector what was there, zeros or the head
  pub record IsPart (image : Image) : Type 0 where
    pub each : (x : ℕ) → (image x ≡ under.image x)
        ⊎ ((IsBetween under.first plan.end x × (image x ≡ replicate 512 0))
        ⊎ ((x ≡ 1) × IsHead plan.head.stamp (image x)))

  -- the new image
  abbrev pub IsNew : Image → Type 0
  IsNew image = IsWritten (shape_of plan.sizes) plan.head.stamp plan.end under.image image

  -- it, or still a part of it
  abbrev pub IsPartOrNew : Image → Type 0
  IsPartOrNew image = IsPart image ⊎ IsNew image

  -- what a read gives before the next call
  abbrev pub HasImage : ImageStage → Image → Type 0
  HasImage stage.Wipe image = (under.first ≡ 1) × Holds 0 (replicate 512 0) image under.image
  HasImage stage.FlushWipe image = (under.first ≡ 1) × Stays under.image image
  HasImage (stage.Zeros at flush) image = IsBlank at image
  HasImage stage.FlushHead image = IsHeaded image
  HasImage stage.Super image = IsHeaded image
  HasImage stage.FlushSuper image = IsNew image
  HasImage stage.Made image = IsNew image
  HasImage stage.Refused image = Unit {0}

  -- what a cut may leave at any moment: what it could leave before, perhaps with what is under the
  -- zeros in place of the super, or a part of the new image, or it
  abbrev pub MayBeImage : State → Image → Type 0
  MayBeImage old image = WithOrWithout 0 (under.image 0) old.may_leave image ⊎ IsPartOrNew image

  -- what it leaves before the next call
  abbrev pub MidwayImage : ImageStage → State → Image → Type 0
  MidwayImage stage.Wipe old image = CutLeaves old.may_leave image
  MidwayImage stage.FlushWipe old image = WithOrWithout 0 (under.image 0) old.may_leave image
  MidwayImage (stage.Zeros at flush) old image = IsPart image
  MidwayImage stage.FlushHead old image = IsPart image
  MidwayImage stage.Super old image = IsHeaded image × IsPart image
  MidwayImage stage.FlushSuper old image = IsPartOrNew image
  MidwayImage stage.Made old image = IsNew image
  MidwayImage stage.Refused old image = MayBeImage old image

  -- that is one of these
  pub each_midway : (at : ImageStage) (old : State) (image : Image) → MidwayImage at old image
      → MayBeImage old image
  each_midway at old image is = grind arith

-- the calls that are left: zeros and a flush, zeros, perhaps a flush, the head and a flush, the
-- super and a flush
abbrev pub image_left : ImageStage → ℕ → Tally
image_left stage.Wipe end = record { reads = 0; writes = end + 2; flushes = 3 }
image_left stage.FlushWipe end = record { reads = 0; writes = end + 1; flushes = 3 }
image_left (stage.Zeros at flush) end =
    record { reads = 0; writes = end - at + 2; flushes = (if flush then 1 else 0) + 2 }
image_left stage.FlushHead end = record { reads = 0; writes = 1; flushes = 2 }
image_left stage.Super end = record { reads = 0; writes = 1; flushes = 1 }
image_left stage.FlushSuper end = record { reads = 0; writes = 0; flushes = 1 }
image_left at end = none

-- in their order
abbrev pub calls_ahead : ImageStage → ℕ → List Call
calls_ahead stage.Wipe end = Write 0 ∷ Flush ∷ zeros_and_head 1 false end
calls_ahead stage.FlushWipe end = Flush ∷ zeros_and_head 1 false end
calls_ahead (stage.Zeros at flush) end = zeros_and_head at flush end
calls_ahead stage.FlushHead end = Flush ∷ Write 0 ∷ Flush ∷ []
calls_ahead stage.Super end = Write 0 ∷ Flush ∷ []
calls_ahead stage.FlushSuper end = Flush ∷ []
calls_ahead at end = []

-- no call was refused
abbrev pub IsLive : ImageStage → Type 0
IsLive stage.Refused = ⊥
IsLive at = Unit {0}

-- the call is made
abbrev pub IsAfter : ImageStage → ℕ → ImageStage → Type 0
IsAfter stage.Wipe end next = next ≡ stage.FlushWipe
IsAfter stage.FlushWipe end next = next ≡ stage.Zeros 1 false
IsAfter (stage.Zeros at flush) end next = (at < end → next ≡ stage.Zeros (at + 1) flush)
    × (end ≤ at → next ≡ (if flush then stage.Zeros at false else stage.FlushHead))
IsAfter stage.FlushHead end next = next ≡ stage.Super
IsAfter stage.Super end next = next ≡ stage.FlushSuper
IsAfter stage.FlushSuper end next = next ≡ stage.Made
IsAfter at end next = ⊥

-- what the two hold
pub record HoldsImage {M : Type 0} (state : M → State) (at : ImageStage) (plan : ImagePlan)
    (view : ImageView M) (m : M) : Type 0 where
  pub plan_is : view.plan ≡ plan
  pub shows : Shows (HasImage plan view.under at)
      (MidwayImage plan view.under at (state view.start)) (state m)
  pub flushed : at ≡ stage.Made → IsFlushed (state m)
  pub calls : IsLive at
      → (state m).calls + of_all (image_left at plan.end) ≡ view.since + (plan.end + 3)
  -- with those that are left all are made
  pub order : IsLive at → (n : M) → AreMade state (calls_ahead at plan.end) m n
      → AreMade state view.calls view.start n
  pub after_flush : view.since + 1 ≤ (state m).calls → (image : Image)
      → (state m).left_since view.since image → IsPartOrNew plan view.under image

-- ---- sectors that are cleared

-- the medium when the sectors from this one up to that one began to be cleared
pub record ClearView (M : Type 0) : Type 0 where
  pub start : M
  pub from : ℕ
  pub end : ℕ

-- Those before this one are cleared, and a cut may leave zeros in them all.
pub record HoldsCleared {M : Type 0} (state : M → State) (at end : ℕ) (view : ClearView M) (m : M)
    : Type 0 where
  pub begun : view.from ≤ at
  pub end_is : view.end ≡ end
  pub zeros : (x : ℕ) → view.from ≤ x → x < at → (state m).content x ≡ replicate 512 0
  pub elsewhere : (x : ℕ) → ¬ IsBetween view.from end x
      → (state m).content x ≡ (state view.start).content x
  pub within : Within (state m).may_leave
      (cleared_at (IsBetween view.from view.end) (state view.start).may_leave)
