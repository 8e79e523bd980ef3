-- The device carries out a recovery, in runs, and a disk or a store begins behind it.
use Rattle.std.specs.Prelude.{◌≡◌, ◌≢◌, ◌⊎◌, ℕ, List, Result, Ok, Err}
use Rattle.recovery.specs.declared.start_fault.StartFault.{StartFault}
use Rattle.recovery.specs.declared.start_fault.StartFault.TheVariants as start
use Rattle.image_calls.specs.Recovering.{BeginsRecovery, IsUnderWayAt, IsOver, Ends, found_of}
use Rattle.image_calls.specs.Recovering.{IsLeftBy}
use Rattle.image_calls.specs.declared.recovering.Recovering.{Recovering}
use Rattle.store_calls.specs.declared.recovered_device.RecoveredDevice.{RecoveredDevice}
use Rattle.calls.specs.{Behind.BeginBehindPost, Handles.Held}
use Rattle.calls.specs.declared.held.Service.{Service}
use Rattle.calls.specs.declared.held.Held.TheVariants as held

-- this recovery is under way, on a device of so many sectors, and this begins behind it
abbrev pub IsRecoveryOf : Recovering → ℕ → Service → Held → Type 0
IsRecoveryOf s sectors what (held.Recovering b on before) =
    (b.value ≡ s) × (on ≡ sectors) × (before ≡ what)
IsRecoveryOf s sectors what (held.Opening o work) = ⊥
IsRecoveryOf s sectors what (held.Disk d) = ⊥
IsRecoveryOf s sectors what (held.Store d) = ⊥
IsRecoveryOf s sectors what (held.Image d) = ⊥
IsRecoveryOf s sectors what (held.Failed before why) = ⊥
IsRecoveryOf s sectors what (held.NoWork why) = ⊥

-- the first call of a recovery is to be asked for; of a device without sectors there is no image
abbrev pub IsFirst : Service → ℕ → Held → Type 0
IsFirst what sectors new = ((sectors ≡ 0) × (new ≡ held.Failed what start.BadSuper))
    ⊎ ((sectors ≢ 0) × (s : Recovering) × BeginsRecovery sectors s
    × IsRecoveryOf s sectors what new)

-- What comes behind one that ended so: what was started begins on the device, which the recovery
-- left so, or there is nothing.
abbrev pub RecoveryEnded : List ℕ → Service → Recovering → Result RecoveredDevice StartFault → Held
    → Type 0
RecoveryEnded content what s (Ok on) new = IsLeftBy s on × BeginBehindPost content what on new
RecoveryEnded content what s (Err why) new = new ≡ held.Failed what why

-- It goes on, or it is at its end, good or refused.
abbrev pub ComesBehind : List ℕ → Service → Recovering → ℕ → Held → Type 0
ComesBehind content what s sectors new =
    (IsUnderWayAt s.running.carried.asked s × IsRecoveryOf s sectors what new)
    ⊎ (IsOver s × (result : Result RecoveredDevice StartFault) × Ends s (found_of result)
    × RecoveryEnded content what s result new)

-- a call of a recovery has ended; where there is none, nothing changes
abbrev pub RecoversOn : List ℕ → Held → Held → Held → Type 0
RecoversOn content (held.Recovering b sectors what) old new =
    ComesBehind content what b.value sectors new
RecoversOn content (held.Opening o work) old new = new ≡ old
RecoversOn content (held.Disk s) old new = new ≡ old
RecoversOn content (held.Store s) old new = new ≡ old
RecoversOn content (held.Image s) old new = new ≡ old
RecoversOn content (held.Failed what why) old new = new ≡ old
RecoversOn content (held.NoWork why) old new = new ≡ old
