-- Wrappers by turns: the command wrappers that a run takes, and the status wrappers that it sends.
use Rattle.std.specs.Prelude.{◌≡◌, ⊤, ℕ, Bool, true, false, List, [], ◌∷◌, ◌++◌, Option, Some, None}
use Rattle.std.specs.Prelude.{Result}
use Rattle.spec.specs.{declared.way.Way.Way, declared.status.Status.Status, CommandWrapper.field_at}
use Rattle.spec.specs.{StatusWrapper.status_wrapper, declared.event.Event.Event}
use Rattle.spec.specs.declared.event.Answer.{Answer}
use Rattle.spec.specs.Exchange.{Script, finished, taking, sending, Line}
use Rattle.spec.specs.Conversation.{Conversation, Run}
use Rattle.spec.specs.declared.event.Event.TheVariants as event

-- a status wrapper is still to be sent, behind data or not
abbrev pub owes_status : Script → Bool
owes_status finished = false
owes_status (taking case command intended bytes due) = false
owes_status (sending packets halt status) = true

-- what a step does of these
pub data Mark : Type 0 where
  -- a command wrapper with this tag is taken
  takes : ℕ → Mark
  -- a status wrapper is sent
  tells : List ℕ → Mark
  -- a setup packet leaves nothing of an exchange
  drops : Mark

-- a packet to Bulk-Out, which is halted or not: what was left before it, and what is left after it
abbrev pub marks_of_out : Bool → Script → List ℕ → Script → List Mark
marks_of_out false finished packet finished = []
marks_of_out false finished packet left = takes (field_at packet 4) ∷ []
marks_of_out halted before packet left = []

-- a token to Bulk-In, which is halted or not
abbrev pub marks_of_in : Bool → Script → List Mark
marks_of_in false (sending [] halt status) = tells status ∷ []
marks_of_in halted left = []

-- a setup packet: what is left after it
abbrev pub marks_of_setup : Script → List Mark
marks_of_setup finished = drops ∷ []
marks_of_setup left = []

-- an event, and the line before it and after it
abbrev pub marks_of : Line → Event → Line → List Mark
marks_of old (event.Out packet) new = marks_of_out old.out_halted old.left packet.items new.left
marks_of old event.In new = marks_of_in old.in_halted old.left
marks_of old (event.Setup packet) new = marks_of_setup new.left
marks_of old event.Tick new = []

-- the status wrapper of a command with this tag
abbrev pub IsStatusOf : ℕ → List ℕ → Type 0
IsStatusOf tag bytes =
    (residue : ℕ) × (status : Status) × (bytes ≡ status_wrapper tag residue status)

-- each command wrapper is followed by one status wrapper with its tag, before the next is taken,
-- unless the exchange is dropped; a status may be owed from before
abbrev pub ByTurns : Option ℕ → List Mark → Type 0
ByTurns owed [] = ⊤
ByTurns None (takes tag ∷ marks) = ByTurns (Some tag) marks
ByTurns None (tells bytes ∷ marks) = ⊥
ByTurns (Some tag) (takes other ∷ marks) = ⊥
ByTurns (Some tag) (tells bytes ∷ marks) = IsStatusOf tag bytes × ByTurns None marks
ByTurns owed (drops ∷ marks) = ByTurns None marks

module _ {S F : Type 0} (Intends : S → List ℕ → Way → Type 0)
    (CarriesOut : Bool → List ℕ → List ℕ → S → Result (List ℕ) F → S → Type 0)
    (Ticks : Bool → S → S → Type 0) where
  -- the marks of a run
  abbrev pub marks_in : (old : Conversation S) (events : List Event) (answers : List Answer)
      (refusals : List Bool) (new : Conversation S)
      → Run Intends CarriesOut Ticks old events answers refusals new → List Mark
  marks_in old (event ∷ events) (answer ∷ answers) (refused ∷ refusals) new (mid, step, rest) =
      marks_of old.line event mid.line ++ marks_in mid events answers refusals new rest
  marks_in old events answers refusals new run = []
