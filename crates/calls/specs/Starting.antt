-- What is started goes into a handle, and what is there goes.
use Rattle.std.specs.Prelude.{◌≡◌, ◌≢◌, ◌⊎◌, ℕ, ◌==◌, Option, Some, None, if◌then◌else◌}
use Rattle.recovery.specs.declared.start_fault.StartFault.TheVariants as start
use Rattle.scsi.specs.Identification.{IsLegible}
use Rattle.spec.specs.declared.packet_size.PacketSize.{PacketSize}
use Rattle.spec.specs.Packets.{bytes_of}
use Rattle.disk_machine.specs.Codes.{EMPTY, STARTED, BAD_IDENTITY, BAD_PACKET_SIZE}
use Rattle.disk_machine.specs.Starting.{identity_of}
use Rattle.image_calls.specs.Reading.{unread}
use Rattle.image_calls.specs.declared.reach.Reach.{Reach}
use Rattle.calls.specs.Handles.{Held}
use Rattle.calls.specs.Recovers.{IsFirst}
use Rattle.calls.specs.Kept.{kept_by}
use Rattle.calls.specs.declared.held.DiskPlan.{DiskPlan}
use Rattle.calls.specs.declared.held.ImageWork.{ImageWork}
use Rattle.calls.specs.declared.held.Service.{Service}
use Rattle.calls.specs.declared.held.Held.TheVariants as held
use Rattle.calls.specs.declared.held.Service.TheVariants as service
use Rattle.calls.specs.declared.options.UsbDiskOptions.{UsbDiskOptions}

-- the first sectors are to be read; of a device without any there is no image
abbrev pub started : ImageWork → ℕ → Reach → Held
started what sectors reach =
    if sectors == 0 then held.NoWork start.BadSuper else held.Opening (unread sectors reach) what

-- it goes into the handle, or there is no memory for it and the handle stays
abbrev pub Opens : ImageWork → ℕ → Reach → Option Held → Option Held → ℕ → Type 0
Opens what sectors reach old new code =
    ((code ≡ 0) × (new ≡ Some (started what sectors reach))) ⊎ ((code ≡ 1) × (new ≡ old))

-- a recovery of the image is to begin, or there is no memory for it and the handle stays
abbrev pub Recovers : Service → ℕ → Option Held → Option Held → ℕ → Type 0
Recovers what sectors old new code =
    ((code ≡ 0) × ((first : Held) × IsFirst what sectors first × (new ≡ Some first)))
    ⊎ ((code ≡ 1) × (new ≡ old))

-- what the options say that a disk is to be
abbrev pub plan_of : UsbDiskOptions → PacketSize → DiskPlan
plan_of options size = record {
  identity = identity_of options.identity;
  size = size;
  kept = kept_by options.kept;
}

-- What is there stays. What is wrong with the options is told before anything is done. Else the
-- image is to be recovered.
abbrev pub StartsDisk : UsbDiskOptions → Option Held → Option Held → ℕ → Type 0
StartsDisk options (Some old) new code = (code ≡ STARTED) × (new ≡ Some old)
StartsDisk options None new code =
    ((options.packet ≢ 64) × (options.packet ≢ 512) × (code ≡ BAD_PACKET_SIZE) × (new ≡ None))
    ⊎ ((size : PacketSize) × (options.packet ≡ bytes_of size)
    × (((¬ IsLegible (identity_of options.identity)) × (code ≡ BAD_IDENTITY) × (new ≡ None))
    ⊎ (IsLegible (identity_of options.identity)
    × Recovers (service.Disk (plan_of options size)) options.sectors None new code)))

-- a store, of which the options tell the sectors and how many records are kept
abbrev pub StartsStore : UsbDiskOptions → Option Held → Option Held → ℕ → Type 0
StartsStore options (Some old) new code = (code ≡ STARTED) × (new ≡ Some old)
StartsStore options None new code =
    Recovers (service.Store (kept_by options.kept)) options.sectors None new code

-- what the handle holds goes
abbrev pub Stops : Option Held → Option Held → ℕ → Type 0
Stops (Some old) new code = (code ≡ 0) × (new ≡ None)
Stops None new code = (code ≡ EMPTY) × (new ≡ None)
