-- The recovery of an image, which a device carries out in runs of neighbouring sectors.
use Rattle.std.specs.Prelude.{◌≡◌, ◌⊎◌, ℕ, ◌≤◌, min, Bool, true, false, List, [], length, Result}
use Rattle.std.specs.Prelude.{Ok, Err}
use Rattle.medium.specs.{Medium.{Image, Stays}, Tally.{Tally, none}, Writes.sector_of}
use Rattle.window.specs.{Story.{given, are_whole}, OutboxMedium.sent, Parts.CoversParts}
use Rattle.window.specs.{Window.{Window, state_of, mirror_of}, declared.ask.DeviceAsk.DeviceAsk}
use Rattle.window.specs.{declared.done_fault.DoneFault.DoneFault}
use Rattle.image_calls.specs.{Carried.ended_by}
use Rattle.image_calls.specs.Running.{IsRunning, RunAsks, RunEnds, HandedOut, handed, AreHonest}
use Rattle.image_calls.specs.{Running.IsReading, declared.asked.Asked.Asked, Near.IsNear}
use Rattle.image_calls.specs.{declared.recovering.Recovering.Recovering}
use Rattle.recovery.specs.{Causes.start_fault_of, HoldsStart.{HoldsStart, StartView, MayStart}}
use Rattle.recovery.specs.{Recovered.{RecoveryLeaves, LeftByRecovery}, Stages.StartStage}
use Rattle.recovery.specs.{Stages.stage_at}
use Rattle.recovery.specs.Starting.{EndsStart, IsStarting, IsStartStep, start_left, start_kind}
use Rattle.recovery.specs.{declared.recovered.Recovered.Recovered}
use Rattle.recovery.specs.{declared.start_fault.StartFault.StartFault}
use Rattle.recovery.specs.{declared.starting.Starting.Starting}
use Rattle.store_calls.specs.{MachineBehind.IsMediumBehind}
use Rattle.store_calls.specs.declared.recovered_device.RecoveredDevice.{RecoveredDevice}
use Rattle.window.specs.OutboxMedium as outbox
use Rattle.image_calls.specs.declared.asked.Asked.TheVariants as asked
use Rattle.recovery.specs.declared.start_point.StartPoint.TheVariants as point

-- ---- a start, as a machine whose calls a device carries out

abbrev pub stage_of : Starting → StartStage
stage_of s = stage_at s.stage s.survey s.step

abbrev fits : Starting → ℕ → Type 0
fits s size = s.sectors ≡ size

abbrev holds : Starting → List ℕ → Window → StartView Window → Type 0
holds s had m view =
    (s.least ≡ view.least) × HoldsStart state_of view.least (stage_of s) had view.start m

abbrev may : StartView Window → Image → Type 0
may view image = MayStart (state_of view.start) image

abbrev left : Starting → Tally
left s = start_left (stage_of s)

abbrev Due : Starting → Type 0
Due s = IsStarting (stage_of s)

abbrev sectors_of : Starting → ℕ
sectors_of s = s.sectors

abbrev After : Starting → List ℕ → Starting → Type 0
After s got t = (t.sectors ≡ s.sectors) × (t.least ≡ s.least)
    × IsStartStep s.sectors s.least (stage_of s) got (stage_of t)

abbrev Gone : Starting → Starting → Type 0
Gone s t = (t.sectors ≡ s.sectors) × (t.least ≡ s.least)
    × (t.stage ≡ point.Refused (start_fault_of (start_kind (stage_of s))))

-- A recovery was begun when the device was this medium, and it has come to that one, whose calls
-- are those that the device was told. Of a device that tells what it holds.
pub record IsRecovering (m : Window) (s : Recovering) (n : Window) : Type 0 where
  pub first : Starting
  pub began : List ℕ
  pub running : IsRunning fits holds may sectors_of sectors_of left ⊥ Due After Gone first began m
      s.running n
  pub held : holds first began m (record { start = m; least = 0 })

-- Whatever the device was when it was begun, of so many sectors, which was given whole ones alone.
-- Nothing is read ahead with sector 0.
pub record BeginsRecovery (sectors : ℕ) (s : Recovering) : Type 0 where
  pub sectors_are : s.sectors ≡ sectors
  pub until_is : s.until ≡ 1
  pub begins : (m : Window) → (state_of m).size ≡ sectors
      → are_whole (given m.seen.told.asked) ≡ true → IsRecovering m s m

-- ---- what its calls are

-- The next call of the start, if the device is at none and has refused none: sectors before
-- `s.until` are read ahead.
abbrev pub AsksToRecover : Recovering → List ℕ → DeviceAsk → Recovering → List ℕ → Type 0
AsksToRecover old buffer what new filled =
    RunAsks fits holds may sectors_of sectors_of left ⊥ Due After Gone old.until
    old.running.carried.asked old.running buffer what new.running filled
    × (new.until ≡ old.until) × (new.sectors ≡ old.sectors)

-- these bytes were read first
abbrev pub ReadsFirst : Recovering → Bool → List ℕ → Type 0
ReadsFirst s ok bytes = (s.until ≡ 1) × IsReading s.running.carried.asked × (ok ≡ true)
    × (512 ≤ length bytes)

-- Before the first read sector 0 alone is read ahead, and from then on all before the blocks, as
-- the sector tells it that was read first.
abbrev pub ReachesTo : Recovering → Bool → List ℕ → ℕ → Type 0
ReachesTo old ok bytes until = ((¬ ReadsFirst old ok bytes) × (until ≡ old.until))
    ⊎ (ReadsFirst old ok bytes × (count : ℕ) × IsNear (sector_of bytes 0) count
    × (until ≡ min count old.sectors))

-- it is told that; what is not taken changes nothing
abbrev pub HearsOfRecovery : Recovering → Bool → List ℕ → Result (Unit {0}) DoneFault
    → Recovering → Type 0
HearsOfRecovery old ok bytes result new =
    RunEnds fits holds may sectors_of sectors_of left ⊥ Due After Gone old.running ok bytes result
    new.running
    × (new.sectors ≡ old.sectors) × IfTaken old ok bytes result new
  where
    IfTaken : Recovering → Bool → List ℕ → Result (Unit {0}) DoneFault → Recovering → Type 0
    IfTaken old ok bytes (Ok done) new = ReachesTo old ok bytes new.until
    IfTaken old ok bytes (Err why) new = new.until ≡ old.until

-- So the recovery goes on, on the medium that the device has come to: by calls of a medium that
-- handed it what it was told, and nothing else.
abbrev pub GoesOnAsked : Recovering → DeviceAsk → Recovering → List ℕ → Type 0
GoesOnAsked old what new filled = (m n : Window) → IsRecovering m old n
    → (k : Window) × IsRecovering m new k × HandedOut (handed what filled) n k

abbrev pub GoesOnHeard : Recovering → Bool → List ℕ → Result (Unit {0}) DoneFault → Recovering
    → Type 0
GoesOnHeard old ok bytes result new = (m n : Window)
    → AreHonest old.running.carried.asked old.running.reading ok bytes n
    → IsRecovering m old n → (k : Window) × IsRecovering m new k
    × HandedOut [] (ended_by result old.running.carried.asked ok n) k

-- ---- what is so at each moment of it

-- What is left at each moment is what a recovery leaves: a later start finds the array of before.
-- What a loss of power leaves of the device, wherever in what it was told it is, is left at such a
-- moment; so also where it has carried out any part of a run, in any order.
pub record LeavesAsRecovery (m n : Window) : Type 0 where
  pub leaves : RecoveryLeaves (state_of m) (state_of n)
  pub device : given m.seen.told.asked ≡ sent (mirror_of m)
      → outbox.CoversDevice (mirror_of m) (mirror_of n)
  pub parts : given m.seen.told.asked ≡ sent (mirror_of m)
      → CoversParts (mirror_of m) (mirror_of n)

abbrev pub IsSafe : Recovering → Type 0
IsSafe s = (m n : Window) → IsRecovering m s n → LeavesAsRecovery m n

-- ---- its end

-- none is at its end that is at a call, or has one left
abbrev pub IsOverAt : Asked → Recovering → Type 0
IsOverAt asked.Nothing s = start_left (stage_of s.running.carried.machine) ≡ none
IsOverAt (asked.At next) s = ⊥
IsOverAt (asked.Refused kind) s = Unit {0}

abbrev pub IsOver : Recovering → Type 0
IsOver s = IsOverAt s.running.carried.asked s

-- the device is at a call, or one is left
abbrev pub IsUnderWayAt : Asked → Recovering → Type 0
IsUnderWayAt asked.Nothing s = IsStarting (stage_of s.running.carried.machine)
IsUnderWayAt (asked.At next) s = Unit {0}
IsUnderWayAt (asked.Refused kind) s = ⊥

abbrev pub TellsOver : Recovering → Bool → Type 0
TellsOver s true = IsOver s
TellsOver s false = IsUnderWayAt s.running.carried.asked s

-- where the device refused a call, for that; else as `recover` that made these calls
abbrev pub EndsAt : Asked → Window → Window → Result Recovered StartFault → Type 0
EndsAt asked.Nothing m n result = EndsStart 0 (state_of m) (state_of n) result
EndsAt (asked.At next) m n result = ⊥
EndsAt (asked.Refused kind) m n result = result ≡ Err (start_fault_of kind)

abbrev pub Ends : Recovering → Result Recovered StartFault → Type 0
Ends s result = (m n : Window) → IsRecovering m s n → EndsAt s.running.carried.asked m n result

-- what was found, if it is good
abbrev pub found_of : Result RecoveredDevice StartFault → Result Recovered StartFault
found_of (Ok on) = Ok on.found
found_of (Err why) = Err why

-- Where the device holds what the recovery left, a medium of it that knows no more than the super
-- is as the recovery left it.
abbrev pub IsLeftBy : Recovering → RecoveredDevice → Type 0
IsLeftBy s on = (holds : List ℕ) (room : ℕ) (first m n : Window)
    → IsMediumBehind on holds room first → IsRecovering m s n
    → Stays (state_of n).content (state_of first).content
    → LeftByRecovery (state_of m) (state_of n) on.found (state_of first)
