-- What a handle is at.
use Rattle.std.specs.Prelude.{◌≡◌, ℕ}
use Rattle.window.specs.declared.state.MachineState.{MachineState}
use Rattle.window.specs.declared.state.MachineState.TheVariants as state
use Rattle.disk_machine.specs.Codes.{number_of}
use Rattle.disk_machine.specs.Moves.{state_of}
use Rattle.store_calls.specs.StoreMachine as store
use Rattle.image_calls.specs.Machines as images
use Rattle.image_calls.specs.declared.image_asked.ImageCall.TheVariants as kind
use Rattle.image_calls.specs.declared.state.ImageState.{ImageState}
use Rattle.image_calls.specs.declared.state.ImageState.TheVariants as image
use Rattle.recovery.specs.declared.start_fault.StartFault.TheVariants as start
use Rattle.calls.specs.Handles.{Held}
use Rattle.calls.specs.declared.held.Held.TheVariants as held

abbrev pub code_of_state : MachineState → ℕ
code_of_state state.Starting = 0
code_of_state state.Serving = 1
code_of_state state.Refused = 2

-- of the work on an image; where the device refused a call of it, there is none
abbrev pub IsImageAt : ImageState → ℕ → ℕ → Type 0
IsImageAt image.Working fault code = (code ≡ 0) × (fault ≡ 0)
IsImageAt image.Done fault code = (code ≡ 3) × (fault ≡ 0)
IsImageAt (image.Refused kind.Write) fault code = (code ≡ 4) × (fault ≡ number_of start.Write)
IsImageAt (image.Refused kind.Flush) fault code = (code ≡ 4) × (fault ≡ number_of start.Flush)

-- The number of what it is at. Why there is nothing is told, and else 0.
abbrev pub IsAt : Held → ℕ → ℕ → Type 0
IsAt (held.Recovering b sectors what) fault code = (code ≡ 0) × (fault ≡ 0)
IsAt (held.Opening o work) fault code = (code ≡ 0) × (fault ≡ 0)
IsAt (held.Disk s) fault code = (code ≡ code_of_state (state_of s)) × (fault ≡ 0)
IsAt (held.Store s) fault code = (code ≡ code_of_state (store.stage_of s)) × (fault ≡ 0)
IsAt (held.Image s) fault code = IsImageAt (images.state_of s) fault code
IsAt (held.Failed what why) fault code = (code ≡ 4) × (fault ≡ number_of why)
IsAt (held.NoWork why) fault code = (code ≡ 4) × (fault ≡ number_of why)

-- and it stays
abbrev pub TellsState : ℕ → Held → Held → ℕ → Type 0
TellsState fault old new code = (new ≡ old) × IsAt old fault code
