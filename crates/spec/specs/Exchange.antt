-- The exchange of a command, laid out at once, and the line to the host that it goes over
-- (Bulk-Only Transport 1.0, 5 and 6).
use Rattle.std.specs.Prelude.{ℕ, Bool, true, false, if◌then◌else◌, List, [], ◌∷◌, Option, Some}
use Rattle.std.specs.Prelude.{None, Result, Ok, Err}
use Rattle.spec.specs.declared.wrapper.Cbw.{Cbw}
use Rattle.spec.specs.declared.way.Way.{Way}
use Rattle.spec.specs.declared.case.Case.{Case}
use Rattle.spec.specs.declared.case.Case.TheVariants.{C1, C4, C5, C6, C9, C11}
use Rattle.spec.specs.declared.case.Case.TheVariants.{C12}
use Rattle.spec.specs.declared.case.Endpoint.{Endpoint}
use Rattle.spec.specs.declared.case.Outcome.{Outcome}
use Rattle.spec.specs.declared.status.Status.{Status}
use Rattle.spec.specs.declared.status.Status.TheVariants.{Passed, Failed}
use Rattle.spec.specs.StatusWrapper.{status_wrapper}
use Rattle.spec.specs.Cases.{outcome_of, size_of_way}
use Rattle.spec.specs.declared.event.Answer.{Answer}
use Rattle.spec.specs.declared.event.Answer.TheVariants.{Ack, Nak, Stall, Data, Byte, Two}
use Rattle.spec.specs.Packets.{packets_of}
use Rattle.spec.specs.Requests.{Request, mass_storage_reset, get_max_lun, clear_halt, get_status}
use Rattle.spec.specs.declared.case.Endpoint.TheVariants as endpoint

-- what is left of an exchange
pub data Script : Type 0 where
  -- nothing: a command wrapper is expected
  finished : Script
  -- bytes to take: the case, the command, what it intends,
  -- the intended bytes that came, and how many are still to come
  taking : Case → Cbw → Way → List ℕ → ℕ → Script
  -- packets to send, the endpoint that is halted with the last of them, and the status wrapper
  sending : List (List ℕ) → Option Endpoint → List ℕ → Script

-- the line to the host, and what is left of the exchange on it
pub record Line : Type 0 where
  -- how many bytes a packet has at most
  pub packet_size : ℕ
  pub in_halted : Bool
  pub out_halted : Bool
  -- both endpoints stay halted until a mass storage reset: a packet spelled no command wrapper
  pub locked : Bool
  pub left : Script

-- a line for packets of this size: nothing is halted, and a command wrapper is expected
abbrev pub at_rest : ℕ → Line
at_rest size = record {
  packet_size = size;
  in_halted = false;
  out_halted = false;
  locked = false;
  left = finished;
}

abbrev pub halted : Endpoint → Line → Bool
halted endpoint.In s = s.in_halted
halted endpoint.Out s = s.out_halted

-- the endpoint is halted from now on, or no longer
abbrev pub set_halt : Endpoint → Bool → Line → Line
set_halt endpoint.In halt s = record s { in_halted = halt }
set_halt endpoint.Out halt s = record s { out_halted = halt }

-- packets, a halt with the last of them or at once where there is none, and a status wrapper
abbrev pub laid_out : List (List ℕ) → Option Endpoint → List ℕ → Line → Line
laid_out [] None status s = record s { left = sending [] None status }
laid_out [] (Some end) status s = set_halt end true (record s { left = sending [] None status })
laid_out (first ∷ more) halt status s = record s { left = sending (first ∷ more) halt status }

-- the next packet, or the status wrapper where no packet is left
abbrev pub next_packet : Script → Answer
next_packet (sending [] halt status) = Data (record { items = status })
next_packet (sending (packet ∷ packets) halt status) = Data (record { items = packet })
next_packet left = Nak

abbrev pub after_packet : Script → Line → Line
after_packet (sending [] halt status) s = record s { left = finished }
after_packet (sending (packet ∷ packets) halt status) s = laid_out packets halt status s
after_packet left s = s

-- a token to Bulk-In
abbrev pub in_answer : Line → Answer
in_answer s = if s.in_halted then Stall else next_packet s.left

abbrev pub after_in : Line → Line
after_in s = if s.in_halted then s else after_packet s.left s

-- a control request
abbrev pub request_answer : Request → Line → Answer
request_answer mass_storage_reset s = Ack
request_answer get_max_lun s = Byte 0
request_answer (clear_halt endpoint) s = Ack
request_answer (get_status endpoint) s = Two ((if halted endpoint s then 1 else 0) ∷ 0 ∷ [])

abbrev pub after_request : Request → Line → Line
after_request mass_storage_reset s = record s { locked = false; left = finished }
after_request get_max_lun s = s
after_request (clear_halt endpoint) s = if s.locked then s else set_halt endpoint false s
after_request (get_status endpoint) s = s

-- when a command is carried out
pub data Moment : Type 0 where
  -- in the event of its wrapper
  at_once : Moment
  -- in the event of the last byte of its data
  after_data : Moment
  -- not at all: the phases differ
  never : Moment

abbrev pub moment_of : Case → Moment
moment_of C1 = at_once
moment_of C4 = at_once
moment_of C5 = at_once
moment_of C6 = at_once
moment_of C9 = after_data
moment_of C11 = after_data
moment_of C12 = after_data
moment_of case = never

-- a command that intended to send and failed goes on as case 4
abbrev pub case_if_failed : Case → Case
case_if_failed C5 = C4
case_if_failed C6 = C4
case_if_failed case = case

-- data goes to the host in cases 5 and 6 alone, in packets of this size
abbrev pub sent_in : ℕ → Case → List ℕ → List (List ℕ)
sent_in size C5 bytes = packets_of size bytes
sent_in size C6 bytes = packets_of size bytes
sent_in size case bytes = []

-- the outcome of a case for a command and what it intends, and the status wrapper that tells it
abbrev pub outcome_for : Case → Cbw → Way → Outcome
outcome_for case command intended = outcome_of case (size_of_way command.host)
    (size_of_way intended)

abbrev pub status_for : Case → Cbw → Way → Status → List ℕ
status_for case command intended status =
    status_wrapper command.tag (outcome_for case command intended).residue status

-- a command that sends nothing: the halt of its case, and its status
abbrev pub told_at_once : Case → Cbw → Way → Status → Line → Line
told_at_once case command intended status s =
    laid_out [] (outcome_for case command intended).halt (status_for case command intended status) s

-- a command that was carried out: its packets, the halt of its case, and its status
abbrev pub told : {F : Type 0} → Case → Cbw → Way → Result (List ℕ) F → Line → Line
told case command intended (Ok bytes) s =
    laid_out (sent_in s.packet_size case bytes) (outcome_for case command intended).halt
    (status_for case command intended Passed) s
told case command intended (Err fault) s =
    told_at_once (case_if_failed case) command intended Failed s
