-- Scripts as bytes, and what they make of a disk.
use Rattle.std.specs.Prelude.{◌≡◌, ℕ, ◌+◌, ◌*◌, ◌-◌, ◌/◌, ◌==◌, zero, suc, Bool, true, List}
use Rattle.std.specs.Prelude.{[], ◌∷◌, ◌++◌, drop, slice_index, length, ◌≤◌, ◌⊎◌, ◌%◌}
use Rattle.std.specs.Prelude.{slice_range, replicate, if◌then◌else◌, Ok, Err}
use Rattle.byteorder.specs.Endian.{little_number}
use Rattle.logical_blocks.specs.Book.{Book, opened}
use Rattle.journal.specs.Places.{Shape, new_shape, slot_sectors_of}
use Rattle.journal.specs.declared.super_sector.Super.{Super}
use Rattle.journal.specs.Sectors.{version_of}
use Rattle.medium.specs.Sim.{Sim, state_of}
use Rattle.recovery.specs.Calls.{IsFormatted}
use Rattle.page.specs.Books.{StartsOn, Turns}
use Rattle.page.specs.Causes.{Outcome}
use Rattle.page.specs.Scenes.{Shows}
use Rattle.page.specs.Standing.{Standing, between, first_life, standing}
use Rattle.page.specs.declared.scene.Scene.{Scene}
use Rattle.page.specs.declared.script.Head.{Head}
use Rattle.page.specs.declared.extent.Extent.{Extent}
use Rattle.page.specs.declared.fault.Fault.TheVariants.{Lost, Idle, Refused, Failed, NoMemory}
use Rattle.page.specs.declared.step.Command.TheVariants.{Write, Force, Sync, Read, Tick, Unknown}
use Rattle.page.specs.declared.step.Step.{Step}
use Rattle.page.specs.declared.step.Step.TheVariants.{Command, Fuse, Cut, Start}

-- the bytes of a step name blocks and the byte that fills them, or a number
abbrev pub extent_of : List ℕ → Extent
extent_of bytes = record {
  first = slice_index bytes 1;
  count = slice_index bytes 2;
  fill = slice_index bytes 3;
}

abbrev pub number_of : List ℕ → ℕ
number_of bytes = little_number 8 (drop 8 bytes)

-- the step that the first byte asks for
abbrev pub step_by : ℕ → List ℕ → Step
step_by code bytes =
    if code == 0 then Command (Write (extent_of bytes))
    else if code == 1 then Command (Force (extent_of bytes))
    else if code == 2 then Command Sync
    else if code == 3 then Command (Read (extent_of bytes))
    else if code == 4 then Command Tick
    else if code == 5 then Fuse (number_of bytes)
    else if code == 6 then Cut (number_of bytes)
    else if code == 7 then Start else Command Unknown

abbrev pub step_of : List ℕ → Step
step_of bytes = step_by (slice_index bytes 0) bytes

-- a step of a script, of which the first 16 bytes are the head
abbrev pub step_at : List ℕ → ℕ → Step
step_at script i = step_of (slice_range script (16 * i) (16 * i + 16))

-- how a step went, as a byte
abbrev pub code_of : Outcome → ℕ
code_of (Ok done) = 0
code_of (Err Lost) = 1
code_of (Err Idle) = 2
code_of (Err Refused) = 3
code_of (Err Failed) = 4
code_of (Err NoMemory) = 5

-- where so many steps of a script have brought a disk, and how they went
abbrev pub Reaches : List ℕ → Standing → ℕ → List ℕ → Standing → Type 0
Reaches script first zero answers last = (answers ≡ []) × (last ≡ first)
Reaches script first (suc count) answers last =
    (mid : Standing) × (done : List ℕ) × (result : Outcome)
    × (answers ≡ done ++ code_of result ∷ []) × Reaches script first count done mid
    × Turns (step_at script (count + 1)) result mid last

-- a new disk of so many blocks of zeros
abbrev pub formatted : ℕ → Book
formatted blocks = opened blocks (λ b. replicate 512 0) 2 true

-- a scene that so many steps of a script have reached
pub record HasReached (script : List ℕ) (first : Standing) (count : ℕ) (answers : List ℕ)
    (scene : Scene) : Type 0 where
  pub book : Book
  pub shows : Shows scene book
  pub reaches : Reaches script first count answers (standing scene book)

-- a step was played, and how it went is told last
pub record GoesOn (step : Step) (old : Standing) (before answers : List ℕ) (scene : Scene)
    : Type 0 where
  pub book : Book
  pub shows : Shows scene book
  pub result : Outcome
  pub told : answers ≡ before ++ code_of result ∷ []
  pub turns : Turns step result old (standing scene book)

-- the format, the slots, the policy and the blocks that the first bytes of a script ask for
pub record IsHead (script : List ℕ) (head : Head) : Type 0 where
  pub format : slice_index script 0 ≡ version_of head.sizes.format
  pub slots : head.sizes.slots ≡ slice_index script 1
  pub policy : head.goes_ahead ≡ (slice_index script 2 == 1)
  pub few_slots : head.sizes.slots ≤ 4
  pub blocks : head.sizes.blocks ≡ slice_index script 3
  pub few : head.sizes.blocks ≤ 32
  pub home : head.sizes.home ≡ 2 + slot_sectors_of head.sizes.format * head.sizes.slots
  pub long : 16 ≤ length script

-- the bytes are a head and whole steps, and the head asks for what there is
pub record IsScript (script : List ℕ) : Type 0 where
  pub long : 16 ≤ length script
  pub whole : length script % 16 ≡ 0
  pub format : (slice_index script 0 ≡ 1) ⊎ (slice_index script 0 ≡ 2)
  pub some_slots : 1 ≤ slice_index script 1
  pub few_slots : slice_index script 1 ≤ 4
  pub policy : slice_index script 2 ≤ 1
  pub some_blocks : 1 ≤ slice_index script 3
  pub few_blocks : slice_index script 3 ≤ 32

-- a new disk before its first start
abbrev pub new_disk : ℕ → Bool → Sim → Standing
new_disk blocks ahead m = standing (between m first_life ahead) (formatted blocks)

-- the shape of a new image of these sizes
abbrev pub shape_for : Super → Shape
shape_for sizes = new_shape sizes.format sizes.blocks sizes.slots

-- the first start on a new image was good
pub record StartsFirst (shape : Shape) (ahead : Bool) (first : Standing) : Type 0 where
  pub medium : Sim
  pub made : IsFormatted shape (state_of medium)
  pub starts : StartsOn (Ok tt) medium (new_disk shape.blocks ahead medium) first

-- a disk that has just started on a new image
pub record Begins (shape : Shape) (ahead : Bool) (scene : Scene) : Type 0 where
  pub book : Book
  pub shows : Shows scene book
  pub starts : StartsFirst shape ahead (standing scene book)

-- What a whole script makes of a new disk: its steps in order, by the rules of Books. What a cut
-- leaves then, a start serves by them.
pub record IsReached (head : Head) (script answers : List ℕ) (scene : Scene) : Type 0 where
  -- where the first start has brought it, with blocks of zeros
  pub first : Standing
  pub starts : StartsFirst (shape_for head.sizes) head.goes_ahead first
  pub reached : HasReached script first (length script / 16 - 1) answers scene
