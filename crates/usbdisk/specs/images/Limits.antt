-- The sizes that an image may have, and where its blocks may begin.
use Rattle.std.specs.Prelude.{◌≡◌, ◌⊎◌, ◌≤◌, ◌+◌, ◌*◌, ◌/◌, ◌^◌, ℕ, IsTrue, IfSome, option_map}
use Rattle.std.specs.Int.{is_power_of_two, next_multiple_of}
use Rattle.journal.specs.Places.{IsFirstHome, Shape, shape_with, slot_sectors_of}
use Rattle.usbdisk.specs.declared.console.refusal.Refusal.{Refusal}
use Rattle.usbdisk.specs.declared.console.refusal.Refusal.TheVariants as refused
use Rattle.usbdisk.specs.declared.images.task.NewSizes.{NewSizes}

pub record AreLimits (blocks slots : ℕ) : Type 0 where
  pub some_blocks : 1 ≤ blocks
  pub most_blocks : blocks ≤ 2 ^ 31
  pub some_slots : 1 ≤ slots
  pub most_slots : slots ≤ 64

-- what a page of a device is: a power of two, of at least a sector
pub record IsPage (bytes : ℕ) : Type 0 where
  pub least : 512 ≤ bytes
  pub power : IsTrue (is_power_of_two bytes)

-- the first sector, from the end of a log of these slots on, where a page of so many bytes begins
abbrev pub page_behind : NewSizes → ℕ → ℕ
page_behind sizes bytes =
    next_multiple_of (2 + slot_sectors_of sizes.format * sizes.slots) (bytes / 512)

-- the shape of an image of these sizes: home begins there, or, where no page is told, directly
-- behind the log
abbrev pub shape_wanted : NewSizes → Shape
shape_wanted sizes = shape_with sizes.format sizes.blocks sizes.slots
    (option_map (page_behind sizes) sizes.align)

-- where a page is told it is one, and home may begin where it then does
pub record MayBegin (sizes : NewSizes) : Type 0 where
  pub page : IfSome sizes.align IsPage
  pub home : IsFirstHome sizes.format sizes.slots (shape_wanted sizes).home

-- an image may have these sizes
abbrev pub MayHave : NewSizes → Type 0
MayHave sizes = AreLimits sizes.blocks sizes.slots × MayBegin sizes

-- it may not, and which of them is refused
abbrev pub IsSizesRefusal : NewSizes → Refusal → Type 0
IsSizesRefusal sizes refusal =
    (¬ AreLimits sizes.blocks sizes.slots × (refusal ≡ refused.Sizes))
    ⊎ (AreLimits sizes.blocks sizes.slots × ¬ MayBegin sizes × (refusal ≡ refused.Align))
