-- A file of sectors, and what it was asked.
use Rattle.std.specs.Prelude.{◌≡◌, ◌⊎◌, ◌<◌, ◌≤◌, ◌+◌, ◌*◌, ◌/◌, ◌^◌, ℕ, true, List, [], ◌∷◌}
use Rattle.std.specs.Prelude.{length, Result, OnOk, OnErr}
use Rattle.std.specs.List.{flat_map}
use Rattle.medium.specs.FileStory as file
use Rattle.medium.specs.FileStory.{AreGiven, AsksFor, IsMissed, IsPut, IsResized, Looks, MayPut}
use Rattle.medium.specs.FileStory.{holds}
use Rattle.medium.specs.declared.file_call.Access.{Access}
use Rattle.medium.specs.declared.file_call.Access.TheVariants.{Make, Replace}
use Rattle.medium.specs.declared.file_call.FileCall.TheVariants.{Open, Lock, Measure, Resize}
use Rattle.device_file.specs.Asked.{Told, begun}
use Rattle.device_file.specs.declared.existing.Existing.{Existing}
use Rattle.device_file.specs.declared.existing.Existing.TheVariants as there
use Rattle.device_file.specs.declared.fault.FileFault.{FileFault}
use Rattle.device_file.specs.declared.run.Run.{Run}

-- a file behind S, of which each call is told
pub record ValueOver (S : Type 0) : Type 0 where
  -- how many sectors it has
  pub size : ℕ
  pub told : Told
  pub file : S

-- a file of the system
abbrev pub FileValue : Type 0
FileValue = ValueOver file.Told

-- The file at this path was opened for this, locked, only then measured, and asked for nothing
-- else. It has whole sectors.
pub record IsOpened (path : List ℕ) (access : Access) (v : FileValue) : Type 0 where
  pub told_is : v.told ≡ begun path access
  pub path_is : v.file.path ≡ path
  pub asked : v.file.asked ≡ Open access ∷ Lock ∷ Measure ∷ []
  pub size_is : v.file.size ≡ 512 * v.size

-- what a file is opened for that is made, or that may be there and is replaced
abbrev pub made_for : Existing → Access
made_for there.Keep = Make
made_for there.Replace = Replace

-- The file at this path was made now, or, where it may be replaced, was there. It was locked, only
-- then emptied, given the length of this many sectors, and asked for nothing else: it has zeros.
pub record IsMade (path : List ℕ) (existing : Existing) (sectors : ℕ) (v : FileValue) : Type 0 where
  pub told_is : v.told ≡ begun path (made_for existing)
  pub path_is : v.file.path ≡ path
  pub asked : v.file.asked
      ≡ Open (made_for existing) ∷ Lock ∷ Resize 0 ∷ Resize (512 * sectors) ∷ []
  pub sectors_are : v.size ≡ sectors
  pub size_is : v.file.size ≡ 512 * sectors
  pub zeros : (p : ℕ) → p < 512 * sectors → holds v.file p ≡ 0

-- it was given this length, and asked for nothing else
pub record Resizes (bytes : ℕ) (old new : file.Told) : Type 0 where
  pub asks : AsksFor true (Resize bytes) old new
  pub resized : IsResized bytes old new

-- looks at a file gave these bytes of this sector
abbrev pub GivesBlock : Looks → ℕ → List ℕ → Type 0
GivesBlock looks sector block = AreGiven looks (512 * sector) block

-- A read of the bytes of count sectors, from the first on, was refused: they end behind the last
-- place of a file, or a look for the last of them was refused or gave none.
abbrev pub RefusesBlocks : Looks → ℕ → ℕ → Type 0
RefusesBlocks looks first count = (bytes : ℕ) × (bytes / 512 ≡ count)
    × ((2 ^ 63 ≤ 512 * first + bytes) ⊎ IsMissed looks (512 * first) bytes)

-- looks at this file of the system gave this block of this sector
abbrev pub HasGiven : FileValue → ℕ → List ℕ → Type 0
HasGiven v sector block = GivesBlock v.file.looks sector block

-- of this file of the system a read of count sectors, from the first on, was refused
abbrev pub HasRefused : FileValue → ℕ → ℕ → Type 0
HasRefused v first count = RefusesBlocks v.file.looks first count

-- the bytes of the blocks of a run, one after the other
abbrev pub bytes_of : Run → List ℕ
bytes_of run = flat_map (λ block. block) run.blocks.items

-- All bytes of a run were put to their place in a file, and no others; or it refused a write of
-- some of them, and no other byte was touched.
pub record PutsRun (run : Run) (old new : file.Told) (result : Result (Unit {0}) FileFault)
    : Type 0 where
  pub ok : OnOk result (IsPut (512 * run.first) (bytes_of run) old new)
  pub err : OnErr result (MayPut (512 * run.first) (length (bytes_of run)) old new)
