-- Which sectors a READ that is pending lacks, and when a command that is pending makes a step.
use Rattle.std.specs.Prelude.{◌≡◌, ◌≢◌, ◌⊎◌, ◌↔◌, ◌≤◌, ℕ, Bool, true, IsTrue, Option, Some, None}
use Rattle.std.specs.Prelude.{length}
use Rattle.scsi_unit.specs.declared.reading.HomeSectors.{HomeSectors}
use Rattle.window.specs.{Window.Window, declared.ask.DeviceRead.DeviceRead}
use Rattle.bot_machine.specs.LaggingDisk.{MayPromiseNext}
use Rattle.bot_machine.specs.declared.pending.Pending.{Pending}
use Rattle.disk_machine.specs.Seen.{medium_of, needed_home}
use Rattle.disk_machine.specs.Machine.{Machine, IsCaughtUp, has_refused}
use Rattle.disk_machine.specs.declared.lack.Lack.TheVariants as lack
use Rattle.window.specs.Sight as sight

-- The sectors of a device that are to be shown, of these home sectors: those behind the first ones,
-- which lie in memory, and not all of them are in sight.
abbrev pub AreMissing : Window → HomeSectors → ℕ → ℕ → Type 0
AreMissing m home first count = sight.AreMissing m home.first home.count first count

-- each of these home sectors is in sight
abbrev pub AreInSight : Window → HomeSectors → Type 0
AreInSight m home = sight.AreInSight m home.first home.count

-- ---- a READ that is pending

-- the next step reads home sectors, of which the device is to read these first
pub record Lacks (s : Machine) (home : DeviceRead) : Type 0 where
  pub needed : HomeSectors
  pub needs : needed_home s.disk ≡ Some needed
  pub missing : AreMissing (medium_of s.disk) needed home.first home.count
  pub tried : s.lack ≢ lack.Unread home

-- each home sector that the next step reads is in sight, or the device could not read it when it
-- was asked
abbrev pub LacksNone : Machine → Type 0
LacksNone s = (needed : HomeSectors) → needed_home s.disk ≡ Some needed
    → AreInSight (medium_of s.disk) needed
    ⊎ ((home : DeviceRead) × AreMissing (medium_of s.disk) needed home.first home.count
    × (s.lack ≡ lack.Unread home))

-- ---- a step of what is pending

-- A step that reads lacks no sector, unless the device refused a call; for each other few calls
-- wait.
abbrev pub HasPlace : Machine → Option HomeSectors → Type 0
HasPlace s None = length (medium_of s.disk).outbox ≤ s.most
HasPlace s (Some needed) = LacksNone s ⊎ (has_refused s.asked ≡ true)

-- the device has carried out all calls, or refused one
abbrev pub IsDoneFor : Machine → Type 0
IsDoneFor s = IsCaughtUp s ⊎ (has_refused s.asked ≡ true)

-- A command is pending, and makes a step: one that may promise when the device has carried out all
-- calls.
pub record MayGoOn (s : Machine) : Type 0 where
  pub pending : Pending
  pub is : s.disk.pending ≡ Some pending
  pub may_promise : Bool
  pub told : IsTrue may_promise ↔ MayPromiseNext s.disk
  pub all_done : may_promise ≡ true → IsDoneFor s
  pub place : HasPlace s (needed_home s.disk)
