-- What is done while the bus rests.
use Rattle.std.specs.Prelude.{◌≡◌, ℕ, Bool, true, false}
use Rattle.disk_machine.specs.Ahead.{LooksAhead}
use Rattle.disk_machine.specs.Idling.{Idles}
use Rattle.disk_machine.specs.Machine.{Machine}
use Rattle.store_calls.specs.StoreMachine as store
use Rattle.store_calls.specs.Transfers as stores
use Rattle.calls.specs.Bus.{ToDisk}
use Rattle.calls.specs.Codes.{OTHER_KIND}
use Rattle.calls.specs.Handles.{Held}
use Rattle.calls.specs.declared.held.Service.{Service}
use Rattle.calls.specs.declared.held.Service.TheVariants as service
use Rattle.calls.specs.declared.held.Held.TheVariants as held

abbrev pub code_of_bool : Bool → ℕ
code_of_bool false = 0
code_of_bool true = 1

-- Steps in the background of a disk or a store, and whether some are left. Some are of one that is
-- not there yet.
abbrev pub MakesAt : Held → Held → Held → ℕ → Type 0
MakesAt (held.Recovering b sectors what) old new code = (new ≡ old) × (code ≡ 1)
MakesAt (held.Opening o work) old new code = (new ≡ old) × (code ≡ OTHER_KIND)
MakesAt (held.Disk s) old new code = (s' : Machine) × (left : Bool)
    × (new ≡ held.Disk s') × (code ≡ code_of_bool left) × Idles s s' left
MakesAt (held.Store s) old new code = (s' : store.Machine) × (left : Bool)
    × (new ≡ held.Store s') × (code ≡ code_of_bool left) × stores.IdlesStore s s' left
MakesAt (held.Image s) old new code = (new ≡ old) × (code ≡ OTHER_KIND)
MakesAt (held.Failed what why) old new code = (new ≡ old) × (code ≡ 1)
MakesAt (held.NoWork why) old new code = (new ≡ old) × (code ≡ OTHER_KIND)

abbrev pub MakesSteps : Held → Held → ℕ → Type 0
MakesSteps old new code = MakesAt old old new code

-- nothing is read ahead of a disk that is not there yet
abbrev pub ReadsNone : Service → ℕ → Type 0
ReadsNone (service.Disk plan) code = code ≡ 0
ReadsNone (service.Store kept) code = code ≡ OTHER_KIND

-- whether the device is to read these sectors when it is free
abbrev pub ReadsAhead : ℕ → ℕ → Held → Held → ℕ → Type 0
ReadsAhead first count old new code = ToDisk
    (λ s s' answer. (reads : Bool) × (answer ≡ code_of_bool reads)
    × LooksAhead s first count s' reads) ReadsNone (Unit {0}) old old new code
