-- What the disk's fields stand for.
use Rattle.std.specs.Prelude.{◌≡◌, ◌≢◌, ⊤, ◌≤◌, ◌<◌, ℕ, ◌-◌, ◌*◌, min, Bool, true, false, List, []}
use Rattle.std.specs.Prelude.{take, length, slice_range, Option, Some, None, ◌+◌, Result, IfOk}
use Rattle.spec.specs.{declared.case.Case.Case, declared.case.Case.TheVariants.{C5, C6}}
use Rattle.spec.specs.{declared.case.Endpoint.Endpoint, Cases.{IsCase, size_of_way}}
use Rattle.scsi.specs.{Sense.Sense, Rules.Intention}
use Rattle.spec.specs.Packets.{bytes_of, packets_of}
use Rattle.spec.specs.Requests.{Request, mass_storage_reset, get_max_lun, clear_halt, get_status}
use Rattle.spec.specs.Exchange.{Script, Line, finished, taking, sending, Moment, at_once}
use Rattle.spec.specs.Exchange.{after_data, never, moment_of, laid_out, told}
use Rattle.scsi_unit.specs.UnitValue.{answer_of}
use Rattle.bot_machine.specs.declared.exchange.Exchange.{Exchange}
use Rattle.spec.specs.declared.case.Endpoint.TheVariants as endpoint
use Rattle.scsi.specs.declared.intent.Intent.TheVariants as intent
use Rattle.bot_machine.specs.declared.exchange.When.{When}
use Rattle.bot_machine.specs.declared.exchange.When.TheVariants.{AtOnce, AfterData, Never}
use Rattle.bot_machine.specs.declared.request.ControlRequest.{ControlRequest}
use Rattle.bot_machine.specs.declared.request.ControlRequest.TheVariants.{MassStorageReset}
use Rattle.bot_machine.specs.declared.request.ControlRequest.TheVariants.{GetMaxLun, ClearHalt}
use Rattle.bot_machine.specs.declared.request.ControlRequest.TheVariants.{GetStatus}
use Rattle.bot_machine.specs.{declared.bulk_state.Taking.Taking, declared.bulk_state.Phase.Phase}
use Rattle.bot_machine.specs.declared.bulk_state.Phase.TheVariants.{Command, DataOut, DataIn}
use Rattle.bot_machine.specs.declared.bulk_state.Phase.TheVariants.{Status}
use Rattle.bot_machine.specs.declared.bulk_state.BulkState.{BulkState}

-- the halt that is still to come
abbrev pub halt_of : Bool → Option Endpoint
halt_of true = Some endpoint.In
halt_of false = None

-- the rest of an exchange whose data is taken
abbrev pub taking_of : Taking → List ℕ → Script
taking_of t taken =
    taking t.exchange.case t.exchange.command t.exchange.intended (take t.filled taken) t.due

-- what is left of the exchange, by the size of a packet, the phase, the buffer, which holds the
-- bytes taken or those to send, as the phase tells, and the status wrapper
abbrev pub left_of : ℕ → Phase → List ℕ → List ℕ → Script
left_of size Command buffer status = finished
left_of size (DataOut t) buffer status = taking_of t buffer
left_of size (DataIn from to halt) buffer status =
    sending (packets_of size (slice_range buffer from to)) (halt_of halt) status
left_of size Status buffer status = sending [] None status

-- the line, but for what is left of the exchange
abbrev pub line_with : BulkState → Script → Line
line_with bulk left = record {
  packet_size = bytes_of bulk.size;
  in_halted = bulk.in_halted;
  out_halted = bulk.out_halted;
  locked = bulk.locked;
  left = left;
}

abbrev pub line_of : BulkState → List ℕ → Line
line_of bulk buffer =
    line_with bulk (left_of (bytes_of bulk.size) bulk.phase buffer bulk.status)

-- Data is taken, or all of it came: the case takes data, and the bytes taken are the intended ones
-- of those that came, of as many blocks as a transfer has at most. What the unit intends to take
-- now, if it still does, is what it intended when the wrapper came; and it intends to send nothing.
pub record IsTaking (limit : ℕ) (intention : List ℕ → Intention) (t : Taking) : Type 0 where
  pub is_case : IsCase t.exchange.case t.exchange.command.host t.exchange.intended
  pub moment : moment_of t.exchange.case ≡ after_data
  pub within : t.due ≤ size_of_way t.exchange.command.host
  pub room : size_of_way t.exchange.intended ≤ 512 * limit
  pub filled_is : t.filled
      ≡ min (size_of_way t.exchange.intended) (size_of_way t.exchange.command.host - t.due)
  pub intended : (n : ℕ) → intention t.exchange.command.block.items ≡ intent.Out n
      → size_of_way t.exchange.intended ≡ n
  pub sends_none : (n : ℕ) → intention t.exchange.command.block.items ≢ intent.In n

-- What is sent lies in this buffer: where a command is carried out at once, the one that it wrote
-- to. One that waits for its data sends none, and any buffer does.
abbrev pub LiesIn : List ℕ → Case → List ℕ → Type 0
LiesIn buffer case out = moment_of case ≡ at_once → buffer ≡ out

-- what holds of a phase, by the most blocks of a transfer and what the unit intends for a command
-- block
abbrev pub IsInPhase : ℕ → (List ℕ → Intention) → Phase → Type 0
IsInPhase limit intention Command = ⊤
IsInPhase limit intention (DataOut t) = IsTaking limit intention t
IsInPhase limit intention (DataIn from to halt) = (from < to) × (to ≤ 512 * limit)
IsInPhase limit intention Status = ⊤

-- what holds of the fields of every disk
pub record Invariant (limit : ℕ) (intention : List ℕ → Intention) (phase : Phase)
    (buffer : List ℕ) : Type 0 where
  pub room : length buffer ≡ 512 * limit
  pub phase_holds : IsInPhase limit intention phase

-- when a command is carried out
abbrev pub moment_meant : When → Moment
moment_meant AtOnce = at_once
moment_meant AfterData = after_data
moment_meant Never = never

-- the request that is asked for
abbrev pub request_meant : ControlRequest → Request
request_meant MassStorageReset = mass_storage_reset
request_meant GetMaxLun = get_max_lun
request_meant (ClearHalt endpoint) = clear_halt endpoint
request_meant (GetStatus endpoint) = get_status endpoint

-- how many of the bytes that a good command gave are sent
abbrev pub sent_size : Case → ℕ → ℕ
sent_size C5 size = size
sent_size C6 size = size
sent_size case size = 0

-- The line changes so, whatever was taken or is sent. The phase and the size of a packet stay.
pub record ChangesLine (old : BulkState) (change : Line → Line) (new : BulkState) : Type 0 where
  pub line : (buffer : List ℕ) → line_of new buffer ≡ change (line_of old buffer)
  pub phase : new.phase ≡ old.phase
  pub size : new.size ≡ old.size

-- `sent` bytes of the buffer are laid out, a halt after them, and the status wrapper.
pub record LaysOut (old : BulkState) (sent : ℕ) (halt : Option Endpoint) (status : List ℕ)
    (new : BulkState) : Type 0 where
  pub line : (buffer : List ℕ) (left : Script) → sent ≤ length buffer
      → line_of new buffer
      ≡ laid_out (packets_of (bytes_of old.size) (take sent buffer)) halt status
      (line_with old left)
  pub size : new.size ≡ old.size
  pub phase : (limit : ℕ) (intention : List ℕ → Intention) → sent ≤ 512 * limit
      → IsInPhase limit intention new.phase

-- The answer to the command of an exchange is laid out: what a good one sends are the first bytes
-- of the buffer. Where the command waited for its data it sends none, whatever the buffer.
pub record LaysOutAnswer (old : BulkState) (exchange : Exchange) (answer : Result ℕ Sense)
    (new : BulkState) : Type 0 where
  pub line : (buffer out : List ℕ) (left : Script) → LiesIn buffer exchange.case out
      → IfOk answer (λ size. size ≤ length out)
      → line_of new buffer ≡ told exchange.case exchange.command exchange.intended
      (answer_of answer out) (line_with old left)
  pub size : new.size ≡ old.size
  pub phase : (limit : ℕ) (intention : List ℕ → Intention)
      → IfOk answer (λ size. size ≤ 512 * limit) → IsInPhase limit intention new.phase

-- A packet of the buffer's bytes from one place to another is sent, up to this end. What is left is
-- sent next; behind the last packet the endpoint is halted, if it is to be, and the status is next.
pub record MovesOn (old : BulkState) (from to : ℕ) (halt : Bool) (end : ℕ) (new : BulkState)
    : Type 0 where
  pub ends : end ≡ min to (from + bytes_of old.size)
  pub more : end < to → new ≡ record old { phase = DataIn end to halt }
  pub last : to ≤ end → new ≡ record old { in_halted = halt; phase = Status }
  pub phase : (limit : ℕ) (intention : List ℕ → Intention) → to ≤ 512 * limit
      → IsInPhase limit intention new.phase
