-- What is told of an image.
use Rattle.std.specs.Prelude.{◌≡◌, ◌⊎◌, ℕ, ◌+◌, List, [], ◌∷◌, ◌++◌, codes, decimal, Option}
use Rattle.std.specs.Io.KnownBytes.{Appends, Keeps}
use Rattle.journal.specs.{Sectors.version_of, declared.super_sector.Super.Super}
use Rattle.window.specs.Window.{Window, state_of, ComesAfter}
use Rattle.recovery.specs.Causes.{IsDeviceFault, IsInspected, IsLookRefusal}
use Rattle.recovery.specs.declared.inspection.Inspection.{Inspection}
use Rattle.recovery.specs.declared.start_fault.StartFault.{StartFault}
use Rattle.device_file.specs.declared.opening.FirstSectors.{FirstSectors}
use Rattle.usbdisk.specs.{console.Streams.AppendsSome, declared.console.refusal.Refusal.Refusal}
use Rattle.usbdisk.specs.images.Opened.{IsWindowOver, HaveImage, WithFirst, HasNoFirst}
use Rattle.usbdisk.specs.declared.console.refusal.Refusal.TheVariants as refused

-- a word with a space behind it, a number and a line feed
abbrev pub number_line : List ℕ → ℕ → List ℕ
number_line word number = word ++ decimal number ++ 10 ∷ []

-- of each record that waits, from this stamp on, the stamp and how many blocks it has
abbrev pub record_lines : ℕ → List ℕ → List ℕ
record_lines stamp [] = []
record_lines stamp (count ∷ counts) =
    (codes "record " ++ decimal stamp ++ number_line (codes " ") count)
    ++ record_lines (stamp + 1) counts

abbrev pub sizes_text : Inspection → List ℕ
sizes_text found = number_line (codes "format ") (version_of found.sizes.format)
    ++ number_line (codes "blocks ") found.sizes.blocks
    ++ number_line (codes "slots ") found.sizes.slots
    ++ number_line (codes "home ") found.sizes.home
    ++ number_line (codes "head ") found.head

-- what is told of an image
abbrev pub image_text : Inspection → List ℕ
image_text found = sizes_text found ++ record_lines found.head found.waiting.items

-- Over these first sectors of a file, on a device that holds these bytes behind them. What was
-- written then, and now.
module _ (first : FirstSectors) (device : List ℕ) (was now : Option (List ℕ)) where
  -- exactly what they stand for was told
  pub record IsShown : Type 0 where
    pub window : Window
    pub over : IsWindowOver first device 0 window
    pub answer : Inspection
    pub inspected : IsInspected (state_of window) answer
    pub written : Appends was now (image_text answer)

  -- They have a fault, and nothing was told. Where they have a super, and the file all sectors of
  -- its image, the fault is that of no call.
  pub record IsFaulty (refusal : Refusal) : Type 0 where
    pub window : Window
    pub over : IsWindowOver first device 0 window
    pub after : Window
    pub fault : StartFault
    pub cause : IsLookRefusal (state_of window) (state_of after) fault
    pub follows : ComesAfter window after
    pub by_image : (sizes : Super) → HaveImage first sizes → ¬ IsDeviceFault fault
    pub refused_is : refusal ≡ refused.Image fault
    pub kept : Keeps was now

  -- not all was told
  pub record IsShownInPart (refusal : Refusal) : Type 0 where
    pub window : Window
    pub over : IsWindowOver first device 0 window
    pub answer : Inspection
    pub inspected : IsInspected (state_of window) answer
    pub failed : refusal ≡ refused.Streams
    pub written : AppendsSome was now (image_text answer)

  abbrev pub IsNotShown : Refusal → Type 0
  IsNotShown refusal = ((refusal ≡ refused.NoMemory) × Keeps was now)
      ⊎ (IsFaulty refusal ⊎ IsShownInPart refusal)

-- Of a file of `size` sectors: what its reads gave, and what the device holds behind its first
-- sectors, whatever that is.
module _ (holds : ℕ → List ℕ → Type 0) (size : ℕ) (device : List ℕ) (was now : Option (List ℕ))
  where
    -- its first sectors were read, and what they stand for was told
    abbrev pub IsShownOf : Type 0
    IsShownOf = WithFirst holds size (λ first. IsShown first device was now)

    -- they were not read, and nothing was told; or what they stand for was not, or not all of it
    abbrev pub IsNotShownOf : (ℕ → ℕ → Type 0) → Refusal → Type 0
    IsNotShownOf refuses refusal = (HasNoFirst refuses size refusal × Keeps was now)
        ⊎ WithFirst holds size (λ first. IsNotShown first device was now refusal)
