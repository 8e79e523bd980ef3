-- How the lines of an input are served on an open file, which comes back.
use Rattle.std.specs.{Prelude.{◌≡◌, ◌⊎◌, ℕ, List, Option, Some, None}, Io.KnownBytes.Keeps}
use Rattle.device_file.specs.{Asked.Told, declared.fault.FileFault.FileFault}
use Rattle.window.specs.declared.call.DeviceCall.{DeviceCall}
use Rattle.usbdisk.specs.declared.console.refusal.Refusal.{Refusal}
use Rattle.usbdisk.specs.runner.Served.{IsServedBy, IsStoppedBy}
use Rattle.usbdisk.specs.declared.runner.player.ServeFault.{ServeFault}
use Rattle.usbdisk.specs.live.Missing.{DiskOn, medium_of}
use Rattle.usbdisk.specs.live.Playing.{AnswersThrough, IsUnanswered}
use Rattle.usbdisk.specs.live.Starting.{IsStartedOn, IsNotStartedOn}
use Rattle.usbdisk.specs.declared.console.refusal.Refusal.TheVariants as refused
use Rattle.usbdisk.specs.declared.runner.player.ServeFault.TheVariants as serve

-- Lines that were not served to their end. An event has no answer where the file refused a call,
-- and this is the call.
abbrev pub refusal_of_serving : ServeFault → Option FileFault → Refusal
refusal_of_serving (serve.Line number) why = refused.Line number
refusal_of_serving serve.Reader why = refused.Input
refusal_of_serving serve.Writer why = refused.Output
refusal_of_serving serve.Player (Some why) = refused.File why
refusal_of_serving serve.Player None = refused.Output

-- What a file was asked, what its reads gave, which of them it refused, how many sectors it has,
-- and which bytes are thought to stand behind the first ones: whatever they are. Packets have at
-- most `most` bytes. What was written, and what the input had left, then and now.
module _ {D : Type 0} (told : D → Told) (at_once : D → List DeviceCall → D → Type 0)
    (holds : D → ℕ → List ℕ → Type 0) (refuses : D → ℕ → ℕ → Type 0) (size : D → ℕ)
    (device : List ℕ) (most : ℕ) (file : D) (was now left after : Option (List ℕ)) where
  -- A disk started on the file, and the input was served to its end. The file comes back as the
  -- last answer left it: it was asked for nothing afterwards.
  pub record IsServedOn (back : D) : Type 0 where
    pub first : DiskOn D
    pub started : IsStartedOn told at_once holds size device most file first
    pub last : DiskOn D
    pub served : IsServedBy (AnswersThrough told at_once holds refuses)
        (IsUnanswered told at_once holds refuses) most was now first last left after
    pub given : back ≡ (medium_of last).file

  -- A disk started on the file, and the input was served in part. The file comes back as the last
  -- event left it.
  pub record IsStoppedOn (back : D) (refusal : Refusal) : Type 0 where
    pub first : DiskOn D
    pub started : IsStartedOn told at_once holds size device most file first
    pub last : DiskOn D
    pub fault : ServeFault
    pub stopped : IsStoppedBy (AnswersThrough told at_once holds refuses)
        (IsUnanswered told at_once holds refuses) most was now first last left after fault
    pub refused_is : refusal ≡ refusal_of_serving fault (medium_of last).fault
    pub given : back ≡ (medium_of last).file

  -- No disk started, and nothing was read or written; or the input was served in part.
  abbrev pub IsNotServedOn : D → Refusal → Type 0
  IsNotServedOn back refusal =
      (IsNotStartedOn told at_once holds size device most file refuses back refusal × (after ≡ left)
      × Keeps was now)
      ⊎ IsStoppedOn back refusal
