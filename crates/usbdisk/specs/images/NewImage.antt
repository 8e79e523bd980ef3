-- A new image in a file of zeros.
use Rattle.std.specs.Prelude.{◌≡◌, ◌⊎◌, ℕ, ◌≤◌, Bool, List, [], ◌∷◌}
use Rattle.std.specs.Prelude.{take, replicate, Result, IfErr, is_ok}
use Rattle.medium.specs.Medium.{Image, CutLeaves, Only}
use Rattle.window.specs.Device.{Device, after}
use Rattle.window.specs.declared.call.DeviceCall.{DeviceCall}
use Rattle.window.specs.declared.call.DeviceCall.TheVariants.{Write, Flush}
use Rattle.journal.specs.Places.{Shape, sectors_of}
use Rattle.journal.specs.Sectors.{IsSuper, IsHead}
use Rattle.journal.specs.Standing.{IsOurs}
use Rattle.recovery.specs.Calls.{IsNoneOrNew}
use Rattle.device_file.specs.Asked.{AsksInOrder, Told}
use Rattle.device_file.specs.declared.fault.FileCall.TheVariants as call
use Rattle.device_file.specs.declared.fault.FileFault.{FileFault}

-- A file that was just made or emptied holds zeros. A cut may leave anything of it until it is
-- synchronised.
abbrev pub emptied : Device
emptied = record { content = λ s. replicate 512 0; may_leave = λ s c. Unit {0} }

-- What is asked of it: what it is now is made durable, then the head, then the super.
abbrev pub making : List ℕ → List ℕ → List DeviceCall
making super head = Flush ∷ Write (record { sector = 1; block = head }) ∷ Flush
    ∷ Write (record { sector = 0; block = super }) ∷ Flush ∷ []

-- A file was asked for these calls so; a refusal names a write or a synchronising. It is as large
-- as before.
pub record GoesThrough {D : Type 0} (told : D → Told) (sectors : D → ℕ) (calls : List DeviceCall)
    (old new : D) (result : Result (Unit {0}) FileFault) : Type 0 where
  pub in_order : AsksInOrder calls (is_ok result) (told old) (told new)
  pub size : sectors new ≡ sectors old
  pub named : IfErr result (λ fault. (fault.call ≡ call.Write) ⊎ (fault.call ≡ call.Sync))

-- a file was asked to become a new image with these sizes
pub record IsAskedToBe (shape : Shape) (good : Bool) (old new : Told) : Type 0 where
  pub super : List ℕ
  pub head : List ℕ
  pub is_super : IsSuper shape super
  pub is_head : IsHead 1 head
  pub in_order : AsksInOrder (making super head) good old new

-- A file was asked so; a refusal names a write or a synchronising. It is as large as before.
pub record BecomesImage {D : Type 0} (told : D → Told) (sectors : D → ℕ) (shape : Shape)
    (old new : D) (result : Result (Unit {0}) FileFault) : Type 0 where
  pub asked : IsAskedToBe shape (is_ok result) (told old) (told new)
  pub size : sectors new ≡ sectors old
  pub named : IfErr result (λ fault. (fault.call ≡ call.Write) ⊎ (fault.call ≡ call.Sync))

-- The one image that a cut may leave of a device of `size` sectors has these sizes, the head at
-- stamp 1, and zeros everywhere else; it is ours, for blocks of zeros, and its next stamp is 2.
pub record IsNewImage (size : ℕ) (shape : Shape) (device : Device) : Type 0 where
  pub durable : Only device.content device.may_leave
  pub super : IsSuper shape (device.content 0)
  pub head : IsHead 1 (device.content 1)
  pub zeros : (s : ℕ) → 2 ≤ s → device.content s ≡ replicate 512 0
  pub ours : IsOurs size shape device.content (λ b. replicate 512 0) 2

-- These calls make a new image of an emptied device. Once the first of them is carried out, a cut
-- leaves no super or the new image.
pub record MakeNewImage (size : ℕ) (shape : Shape) (calls : List DeviceCall) : Type 0 where
  pub all : IsNewImage size shape (after emptied calls)
  pub cuts : (count : ℕ) (image : Image) → 1 ≤ count
      → CutLeaves (after emptied (take count calls)).may_leave image
      → IsNoneOrNew size shape (λ b. replicate 512 0) image

-- so for each super and head, and each device that is long enough
abbrev pub MakingMakesNew : Type 0
MakingMakesNew = (shape : Shape) (super head : List ℕ) (size : ℕ) → IsSuper shape super
    → IsHead 1 head → sectors_of shape ≤ size → MakeNewImage size shape (making super head)
