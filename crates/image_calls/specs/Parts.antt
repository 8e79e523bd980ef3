-- What is left of an image that is made in parts, from one to the next.
use Rattle.std.specs.Prelude.{◌≡◌, ℕ, suc, ◌+◌, ◌-◌, ◌<◌, ◌≤◌, List, replicate, Option}
use Rattle.std.specs.Prelude.{Some, None}
use Rattle.medium.specs.{Medium.{State, Image}, Sent.SendsUpTo}
use Rattle.logical_blocks.specs.Blocks.{Array}
use Rattle.journal.specs.{Places.{Shape, first_home, sectors_of}, Formats.shape_of}
use Rattle.journal.specs.{Record.home_of}
use Rattle.recovery.specs.Calls.{IsFormatted, FormatLeaves, AreSizes, MakesNoRead, ImageLeaves}
use Rattle.recovery.specs.Calls.{IsLaid, LayingLeaves}
use Rattle.image_calls.specs.declared.plan.{Aim.Aim, Plan.Plan}
use Rattle.image_calls.specs.declared.plan.Aim.TheVariants as aim
use Rattle.image_calls.specs.declared.plan.Plan.TheVariants as left

-- Between two parts of an image for this array: there is no super, and the sectors from one on are
-- cleared up to another. Since the super was taken away, by the first two calls, no cut has left
-- one. The sectors from the end on are spared.
pub record IsClearing (shape : Shape) (array : Array) (from end at : ℕ) (first now : State)
    : Type 0 where
  pub sizes : AreSizes first.size shape
  pub leaves : ImageLeaves shape array end first now
  pub from_there : from ≤ at
  pub calls : now.calls + from ≡ first.calls + 2 + at
  pub gone : (c : List ℕ) → now.may_leave 0 c → c ≡ replicate 512 0
  pub since : (image : Image) → now.left_since (first.calls + 2) image
      → image 0 ≡ replicate 512 0
  pub zeros : (x : ℕ) → from ≤ x → x < at → now.content x ≡ replicate 512 0

-- home is cleared up to this sector
abbrev pub IsUnderWay : Shape → ℕ → State → State → Type 0
IsUnderWay shape at first now = IsClearing shape (λ b. replicate 512 0) (first_home shape)
    (sectors_of shape) at first now

-- what lies before home is, around what home held
abbrev pub IsLaying : Shape → ℕ → State → State → Type 0
IsLaying shape at first now =
    IsClearing shape (home_of shape first.content) 1 (first_home shape) at first now

-- The image is made, by as many calls as it has sectors, and seven more.
pub record IsMadeAnew (shape : Shape) (first now : State) : Type 0 where
  pub formatted : IsFormatted shape now
  pub leaves : FormatLeaves shape first now
  pub calls : now.calls ≡ first.calls + (sectors_of shape + 7)

-- The log is laid, by five calls more than there are sectors before home.
pub record IsLaidAnew (shape : Shape) (first now : State) : Type 0 where
  pub laid : IsLaid shape first now
  pub leaves : LayingLeaves shape first now
  pub calls : now.calls ≡ first.calls + (first_home shape + 5)

-- What is made of this shape, which began in the first state: under way with this left of it, or
-- made. A format clears home, and then a log is laid.
abbrev pub IsOnWay : {M : Type 0} → (M → State) → Aim → Shape → Option Plan → M → M → Type 0
IsOnWay state aim.Format shape (Some (left.Home plan)) first now =
    (shape ≡ shape_of plan.sizes) × IsUnderWay shape plan.at (state first) (state now)
IsOnWay {M = M} state aim.Format shape (Some (left.Log plan)) first now = (mid : M)
    × IsUnderWay shape (sectors_of shape) (state first) (state mid)
    × (shape ≡ shape_of plan.sizes) × IsLaying shape plan.at (state mid) (state now)
IsOnWay state aim.Format shape None first now = IsMadeAnew shape (state first) (state now)
IsOnWay state aim.Laying shape (Some (left.Home plan)) first now = ⊥
IsOnWay state aim.Laying shape (Some (left.Log plan)) first now =
    (shape ≡ shape_of plan.sizes) × IsLaying shape plan.at (state first) (state now)
IsOnWay state aim.Laying shape None first now = IsLaidAnew shape (state first) (state now)

-- it has just begun, by two calls
abbrev pub IsBegun : {M : Type 0} → (M → State) → Aim → Shape → Plan → M → M → Type 0
IsBegun state what shape plan old new = IsOnWay state what shape (Some plan) old new
    × ((state new).calls ≡ (state old).calls + 2)

-- whatever was under way with this plan is so with what is left now, or made
abbrev pub KeepsOnWay : {M : Type 0} → (M → State) → Plan → Option Plan → M → M → Type 0
KeepsOnWay {M = M} state plan rest old new = (what : Aim) (shape : Shape) (first : M)
    → IsOnWay state what shape (Some plan) first old → IsOnWay state what shape rest first new

-- the medium refused a call, if any was under way
abbrev pub FailsOnWay : {M : Type 0} → (M → State) → Plan → M → M → Type 0
FailsOnWay {M = M} state plan old new = (what : Aim) (shape : Shape) (first : M)
    → IsOnWay state what shape (Some plan) first old → (state old).failures < (state new).failures

-- a log is laid of which all but head and super was
abbrev pub LaysTheRest : {M : Type 0} → (M → State) → Shape → M → M → Type 0
LaysTheRest {M = M} state shape old new = (first : M)
    → IsLaying shape (first_home shape) (state first) (state old)
    → IsLaidAnew shape (state first) (state new)

-- how many parts there are at most
abbrev pub parts_left : Option Plan → ℕ
parts_left (Some (left.Home plan)) =
    plan.sizes.home + suc (plan.sizes.home + plan.sizes.blocks - plan.at)
parts_left (Some (left.Log plan)) = suc (plan.sizes.home - plan.at)
parts_left None = 0

-- at most `most` writes and flushes, and no read
abbrev pub SendsPart : ℕ → State → State → Type 0
SendsPart most old new = MakesNoRead old new × SendsUpTo most old new

-- a medium made them, and goes on from one moment to the other
pub record GoesPart {M : Type 0} (state : M → State) (Follows : M → M → Type 0) (most : ℕ)
    (old new : M) : Type 0 where
  pub sends : SendsPart most (state old) (state new)
  pub follows : Follows old new
