-- What the device is to do next.
use Rattle.std.specs.Prelude.{◌≡◌, ◌⊎◌, ℕ, ◌/◌, List, length}
use Rattle.store_calls.specs.Outbox.{IsNoRoom}
use Rattle.window.specs.declared.ask.DeviceAsk.{DeviceAsk}
use Rattle.window.specs.declared.ask.DeviceAsk.TheVariants as ask
use Rattle.image_calls.specs.Reading.{Reading, AsksToRead}
use Rattle.image_calls.specs.Recovering.{AsksToRecover, GoesOnAsked}
use Rattle.image_calls.specs.declared.recovering.Recovering.{Recovering}
use Rattle.disk_machine.specs.Codes.{BAD_LENGTH}
use Rattle.disk_machine.specs.Machine.{Machine}
use Rattle.disk_machine.specs.Asking.{AsksFor}
use Rattle.disk_machine.specs.Idling.{WorksAhead}
use Rattle.disk_machine.specs.Moves.{StaysSafe}
use Rattle.store_calls.specs.Asking as stores
use Rattle.store_calls.specs.StoreMachine as store
use Rattle.store_calls.specs.Transfers as transfers
use Rattle.image_calls.specs.Machines as images
use Rattle.calls.specs.Asks.{told_as}
use Rattle.calls.specs.Handles.{Held}
use Rattle.calls.specs.Recovers.{IsRecoveryOf}
use Rattle.calls.specs.declared.asks.UsbDiskCall.{UsbDiskCall}
use Rattle.calls.specs.declared.held.Held.TheVariants as held

-- What the device is asked for: the next call of the recovery, the next of the first sectors, or
-- what the disk, the store or the work asks for. The bytes of a write lie at the front of the room.
-- Where there is nothing, it is asked for nothing. A disk and a store work ahead before they are
-- asked, where their device has nothing to do.
abbrev pub Asks : Held → List ℕ → DeviceAsk → Held → Held → List ℕ → Type 0
Asks (held.Recovering b sectors service) room what old new filled = (s' : Recovering)
    × IsRecoveryOf s' sectors service new
    × AsksToRecover b.value room what s' filled × GoesOnAsked b.value what s' filled
Asks (held.Opening o work) room what old new filled = (o' : Reading)
    × (new ≡ held.Opening o' work) × (filled ≡ room) × AsksToRead o (length room / 512) what o'
Asks (held.Disk s) room what old new filled = (mid : Machine) × (s' : Machine)
    × (new ≡ held.Disk s') × WorksAhead s mid × AsksFor mid room what s' filled × StaysSafe mid s'
Asks (held.Store s) room what old new filled = (mid : store.Machine) × (s' : store.Machine)
    × (new ≡ held.Store s') × transfers.WorksStoreAhead s mid
    × stores.TellsNext mid room what s' filled
Asks (held.Image s) room what old new filled = (s' : images.Machine)
    × (new ≡ held.Image s') × images.Asks s room what s' filled × images.GoesOn s s'
Asks (held.Failed service why) room what old new filled =
    (what ≡ ask.Nothing) × (new ≡ old) × (filled ≡ room)
Asks (held.NoWork why) room what old new filled =
    (what ≡ ask.Nothing) × (new ≡ old) × (filled ≡ room)

-- The next call is told. Room for no sector, or for a part of one, changes nothing.
abbrev pub HandsOut : UsbDiskCall → List ℕ → UsbDiskCall → List ℕ → Held → Held → ℕ → Type 0
HandsOut call room call' filled old new code =
    (IsNoRoom (length room) × (code ≡ BAD_LENGTH) × (new ≡ old) × (call' ≡ call)
    × (filled ≡ room))
    ⊎ ((¬ IsNoRoom (length room)) × (code ≡ 0)
    × ((what : DeviceAsk) × (call' ≡ told_as what) × Asks old room what old new filled))
