-- What the program that serves an image file line by line does.
use Rattle.std.specs.Prelude.{◌≡◌, ◌⊎◌, ◌≤◌, ℕ, List, Option, Some, None, IfSome}
use Rattle.std.specs.Io.KnownBytes.{Keeps}
use Rattle.medium.specs.declared.file_call.Access.TheVariants.{Change}
use Rattle.spec.specs.{Packets.bytes_of, declared.packet_size.PacketSize.PacketSize}
use Rattle.usbdisk.specs.declared.console.words.ArgumentFault.{ArgumentFault}
use Rattle.usbdisk.specs.declared.console.words.ArgumentFault.TheVariants as argument
use Rattle.device_file.specs.FileValue.{FileValue, HasGiven, HasRefused, IsOpened}
use Rattle.device_file.specs.{Carried.{at_once_of, told_of}, declared.fault.FileFault.FileFault}
use Rattle.usbdisk.specs.runner.Live.{AreLiveWords, IsLiveLine}
use Rattle.usbdisk.specs.live.Serving.{IsServedOn, IsNotServedOn}
use Rattle.usbdisk.specs.console.Status.{refusal_of_argument}
use Rattle.usbdisk.specs.declared.console.refusal.Refusal.{Refusal}
use Rattle.usbdisk.specs.declared.console.refusal.Refusal.TheVariants as refused

-- how many sectors a file of the system has
abbrev pub size_of : FileValue → ℕ
size_of file = file.size

-- the file was opened to be changed, locked, measured, and asked for nothing else
abbrev pub IsUnasked : FileValue → Type 0
IsUnasked file = IsOpened file.file.path Change file

-- At most 5. At 3 the image has a fault: the file, where one was opened, was asked for nothing, so
-- it refused no write.
pub record IsLiveStatus (status : ℕ) (back : Option FileValue) : Type 0 where
  pub most : status ≤ 5
  pub unasked : status ≡ 3 → IfSome back IsUnasked

-- no file was opened: the null device was not, or the file refused
abbrev pub IsUnopened : Refusal → Type 0
IsUnopened refusal = (refusal ≡ refused.NullDevice)
    ⊎ ((fault : FileFault) × (refusal ≡ refused.File fault))

-- What was written, and what the input had left, then and now, and the file that comes back.
module _ (was now left after : Option (List ℕ)) (back : Option FileValue) where
  -- no file comes back, and nothing was read or written
  pub record IsUntouched : Type 0 where
    pub none : back ≡ None
    pub unread : after ≡ left
    pub kept : Keeps was now

  -- no words were had, for this cause: an argument is no text, or memory ran out
  pub record HasNoWords (cause : ArgumentFault) (refusal : Refusal) : Type 0 where
    pub refused_is : refusal ≡ refusal_of_argument cause
    pub untouched : IsUntouched

-- What the device of an image file holds behind the first sectors, whatever that is; what was
-- written, and what the input had left, then and now. The file of the image comes back, where one
-- was opened: with exactly what it was asked.
module _ (device : List ℕ) (was now left after : Option (List ℕ)) (back : Option FileValue) where
  -- the input was served to its end by a disk on this file
  pub record IsLiveOn (opened : FileValue) (most : ℕ) : Type 0 where
    pub last : FileValue
    pub given : back ≡ Some last
    pub served : IsServedOn told_of at_once_of HasGiven HasRefused size_of device most opened was
        now left after last

  -- why it was not
  pub record IsStoppedOn (opened : FileValue) (most : ℕ) (refusal : Refusal) : Type 0 where
    pub last : FileValue
    pub given : back ≡ Some last
    pub refused : IsNotServedOn told_of at_once_of HasGiven HasRefused size_of device most opened
        was now left after last refusal

  -- The file at the path of this word was opened to be changed, locked, and only then measured, and
  -- the input was served on it.
  abbrev pub IsLive : List ℕ → ℕ → Type 0
  IsLive image most = (file : FileValue) × IsOpened image Change file × IsLiveOn file most

  abbrev pub IsLiveStopped : List ℕ → ℕ → Refusal → Type 0
  IsLiveStopped image most refusal =
      (file : FileValue) × IsOpened image Change file × IsStoppedOn file most refusal

  -- what the words ask for was done
  abbrev pub HasDoneLive : List (List ℕ) → Type 0
  HasDoneLive words =
      (image : List ℕ) × (size : PacketSize)
      × AreLiveWords words image size × IsLive image (bytes_of size)

  -- why words were refused: they are no command line; or there is no image; or what they ask for
  -- was not done to its end
  abbrev pub IsLiveRefusedFor : List (List ℕ) → Refusal → Type 0
  IsLiveRefusedFor words refusal =
      ((refusal ≡ refused.Words) × (¬ IsLiveLine words) × IsUntouched was now left after back)
      ⊎ ((image : List ℕ) × (size : PacketSize) × AreLiveWords words image size
      × ((IsUnopened refusal × IsUntouched was now left after back)
      ⊎ IsLiveStopped image (bytes_of size) refusal))

  -- why a program with these words was refused: there was no memory for them, or that
  abbrev pub IsProgramRefused : List (List ℕ) → Refusal → Type 0
  IsProgramRefused words refusal =
      HasNoWords was now left after back argument.NoMemory refusal
      ⊎ IsLiveRefusedFor words refusal
