-- What the device tells of what it was asked for.
use Rattle.std.specs.Prelude.{◌≡◌, ℕ, Bool, List, Result, Ok, Err}
use Rattle.window.specs.declared.done_fault.DoneFault.{DoneFault}
use Rattle.window.specs.declared.done_fault.DoneFault.TheVariants as fault
use Rattle.image_calls.specs.Reading.{Reading, HasRead}
use Rattle.image_calls.specs.Recovering.{HearsOfRecovery, GoesOnHeard}
use Rattle.image_calls.specs.declared.recovering.Recovering.{Recovering}
use Rattle.image_calls.specs.declared.read_end.ReadEnd.{ReadEnd}
use Rattle.disk_machine.specs.Codes.{BAD_LENGTH}
use Rattle.disk_machine.specs.Machine.{Machine}
use Rattle.disk_machine.specs.{Asking.HearsSafely, Moves.ServesAtRest}
use Rattle.store_calls.specs.Asking as stores
use Rattle.store_calls.specs.StoreMachine as store
use Rattle.image_calls.specs.Machines as images
use Rattle.calls.specs.Codes.{NOT_ASKED}
use Rattle.calls.specs.Handles.{Held}
use Rattle.calls.specs.Recovers.{IsRecoveryOf, ComesBehind}
use Rattle.calls.specs.Beginning.{EndsSo}
use Rattle.calls.specs.declared.held.ImageWork.{ImageWork}
use Rattle.calls.specs.declared.held.Service.{Service}
use Rattle.calls.specs.declared.held.Held.TheVariants as held

abbrev pub code_of_fault : DoneFault → ℕ
code_of_fault fault.NothingAsked = NOT_ASKED
code_of_fault fault.BadLength = BAD_LENGTH

abbrev pub code_of_done : Result (Unit {0}) DoneFault → ℕ
code_of_done (Ok done) = 0
code_of_done (Err why) = code_of_fault why

-- what was told of a read of the first sectors is taken, or nothing changes
abbrev pub EndsRead : List ℕ → Result ReadEnd DoneFault → ImageWork → Reading → Held → Held → ℕ
    → Type 0
EndsRead content (Ok end) work o old new code = (code ≡ 0) × EndsSo content work o end new
EndsRead content (Err why) work o old new code = (code ≡ code_of_fault why) × (new ≡ old)

-- what was told of a call of the recovery is taken, or nothing changes
abbrev pub EndsCall : List ℕ → Result (Unit {0}) DoneFault → Service → Recovering → ℕ → Held → ℕ
    → Type 0
EndsCall content (Ok done) what s sectors new code =
    (code ≡ 0) × ComesBehind content what s sectors new
EndsCall content (Err why) what s sectors new code =
    (code ≡ code_of_fault why) × IsRecoveryOf s sectors what new

-- What the device was asked for last has ended, good or not; of a read these are the bytes. Behind
-- the first sectors the device holds this content.
abbrev pub HearsAt : List ℕ → Bool → List ℕ → Held → Held → Held → ℕ → Type 0
HearsAt content ok bytes (held.Recovering b sectors what) old new code =
    (result : Result (Unit {0}) DoneFault) × (s' : Recovering)
    × HearsOfRecovery b.value ok bytes result s' × GoesOnHeard b.value ok bytes result s'
    × EndsCall content result what s' sectors new code
HearsAt content ok bytes (held.Opening o work) old new code = (result : Result ReadEnd DoneFault)
    × (o' : Reading) × HasRead o ok bytes result o' × EndsRead content result work o' old new code
HearsAt content ok bytes (held.Disk s) old new code = (result : Result (Unit {0}) DoneFault)
    × (s' : Machine) × (new ≡ held.Disk s') × (code ≡ code_of_done result)
    × HearsSafely s ok bytes result s' × ServesAtRest s'
HearsAt content ok bytes (held.Store s) old new code = (result : Result (Unit {0}) DoneFault)
    × (s' : store.Machine) × (new ≡ held.Store s') × (code ≡ code_of_done result)
    × stores.Ends s ok bytes result s'
HearsAt content ok bytes (held.Image s) old new code = (result : Result (Unit {0}) DoneFault)
    × (s' : images.Machine) × (new ≡ held.Image s') × (code ≡ code_of_done result)
    × images.Hears s ok result s' × images.GoesOn s s'
HearsAt content ok bytes (held.Failed what why) old new code = (code ≡ NOT_ASKED) × (new ≡ old)
HearsAt content ok bytes (held.NoWork why) old new code = (code ≡ NOT_ASKED) × (new ≡ old)

abbrev pub TellsDone : List ℕ → Bool → List ℕ → Held → Held → ℕ → Type 0
TellsDone content ok bytes old new code = HearsAt content ok bytes old old new code
