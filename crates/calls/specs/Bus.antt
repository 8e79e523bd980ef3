-- What transfers, tokens and requests of the bus do.
use Rattle.std.specs.Prelude.{◌≡◌, ◌⊎◌, ℕ, ◌<◌, ◌≤◌, List, length}
use Rattle.spec.specs.Packets.{bytes_of}
use Rattle.disk_machine.specs.Codes.{BAD_LENGTH}
use Rattle.disk_machine.specs.Machine.{Machine}
use Rattle.disk_machine.specs.Packets as machine
use Rattle.disk_machine.specs.Transfers.{TakesTransfer, SendsInto}
use Rattle.calls.specs.Codes.{OTHER_KIND}
use Rattle.calls.specs.Handles.{Held}
use Rattle.calls.specs.declared.held.Service.{Service}
use Rattle.calls.specs.declared.held.Service.TheVariants as service
use Rattle.calls.specs.declared.held.Held.TheVariants as held

-- there is something of another kind
abbrev pub IsOther : Type 0 → ℕ → Type 0
IsOther Stays code = (code ≡ OTHER_KIND) × Stays

-- The disk does this, and stays. Where it is not there yet, or where there is something of another
-- kind, the handle stays, and the second or the third is so.
abbrev pub ToDisk : (Machine → Machine → ℕ → Type 0) → (Service → ℕ → Type 0) → Type 0 → Held
    → Held → Held → ℕ → Type 0
ToDisk Does Waits Stays (held.Recovering b sectors what) old new code =
    (new ≡ old) × Waits what code
ToDisk Does Waits Stays (held.Opening o work) old new code = (new ≡ old) × IsOther Stays code
ToDisk Does Waits Stays (held.Disk s) old new code =
    (s' : Machine) × (new ≡ held.Disk s') × Does s s' code
ToDisk Does Waits Stays (held.Store s) old new code = (new ≡ old) × IsOther Stays code
ToDisk Does Waits Stays (held.Image s) old new code = (new ≡ old) × IsOther Stays code
ToDisk Does Waits Stays (held.Failed what why) old new code = (new ≡ old) × Waits what code
ToDisk Does Waits Stays (held.NoWork why) old new code = (new ≡ old) × IsOther Stays code

-- bytes to Bulk-Out of a disk that is not there yet: NAK, and none is taken
abbrev pub WaitsOut : ℕ → Service → ℕ → ℕ → Type 0
WaitsOut was (service.Disk plan) taken code = (code ≡ 1) × (taken ≡ 0)
WaitsOut was (service.Store kept) taken code = IsOther (taken ≡ was) code

abbrev pub TakesOut : List ℕ → ℕ → ℕ → Held → Held → ℕ → Type 0
TakesOut bytes was taken old new code = ToDisk
    (λ s s' answer. TakesTransfer s bytes s' taken answer)
    (λ what answer. WaitsOut was what taken answer) (taken ≡ was) old old new code

-- tokens to Bulk-In of a disk that is not there yet: NAK, where the room has place for a packet
abbrev pub WaitsIn : List ℕ → ℕ → Service → ℕ → ℕ → Type 0
WaitsIn room was (service.Disk plan) given code =
    ((length room < bytes_of plan.size) × (code ≡ BAD_LENGTH) × (given ≡ was))
    ⊎ ((bytes_of plan.size ≤ length room) × (code ≡ 1) × (given ≡ 0))
WaitsIn room was (service.Store kept) given code = IsOther (given ≡ was) code

abbrev pub SendsIn : List ℕ → ℕ → List ℕ → ℕ → Held → Held → ℕ → Type 0
SendsIn room was filled given old new code = ToDisk
    (λ s s' answer. SendsInto s room was s' filled given answer)
    (λ what answer. (filled ≡ room) × WaitsIn room was what given answer)
    ((filled ≡ room) × (given ≡ was)) old old new code

-- a request to a disk that is not there yet: STALL
abbrev pub IsStalled : ℕ → Service → ℕ → ℕ → Type 0
IsStalled was (service.Disk plan) told code = (code ≡ 2) × (told ≡ 0)
IsStalled was (service.Store kept) told code = IsOther (told ≡ was) code

abbrev pub AnswersSetup : List ℕ → List ℕ → ℕ → List ℕ → ℕ → Held → Held → ℕ → Type 0
AnswersSetup packet room was filled size old new code = ToDisk
    (λ s s' answer. machine.AnswersSetup s packet room s' filled size answer)
    (λ what answer. (filled ≡ room) × IsStalled was what size answer)
    ((filled ≡ room) × (size ≡ was)) old old new code
