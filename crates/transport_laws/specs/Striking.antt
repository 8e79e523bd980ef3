-- Steps in the background may be struck: a host sees nothing of them.
use Rattle.std.specs.Prelude.{◌≡◌, ⊤, Bool, false, List, [], ◌∷◌}
use Rattle.logical_blocks.specs.Book.{StampsOut, with_progress}
use Rattle.scsi.specs.Rules.{UnitState}
use Rattle.spec.specs.declared.event.Event.{Event}
use Rattle.spec.specs.{declared.event.Answer.Answer, Conversation.Conversation}
use Rattle.spec.specs.UnitConversation.{write_of_event, UnitRun}
use Rattle.spec.specs.declared.event.Event.TheVariants as event

-- the events that are no steps in the background
abbrev pub without_ticks : List Event → List Event
without_ticks [] = []
without_ticks (event.Out packet ∷ events) = event.Out packet ∷ without_ticks events
without_ticks (event.In ∷ events) = event.In ∷ without_ticks events
without_ticks (event.Setup packet ∷ events) = event.Setup packet ∷ without_ticks events
without_ticks (event.Tick ∷ events) = without_ticks events

-- the answers to these
abbrev pub answers_without_ticks : List Event → List Answer → List Answer
answers_without_ticks (event.Out packet ∷ events) (answer ∷ answers) =
    answer ∷ answers_without_ticks events answers
answers_without_ticks (event.In ∷ events) (answer ∷ answers) =
    answer ∷ answers_without_ticks events answers
answers_without_ticks (event.Setup packet ∷ events) (answer ∷ answers) =
    answer ∷ answers_without_ticks events answers
answers_without_ticks (event.Tick ∷ events) (answer ∷ answers) =
    answers_without_ticks events answers
answers_without_ticks events answers = []

-- stamps are left in an event, with the write in progress in it counted
abbrev pub HasStamps : Conversation UnitState → Event → Type 0
HasStamps s happens = ¬ StampsOut (with_progress s.unit.book (write_of_event s happens))

-- in no event of a run the medium refused a call, and stamps are left in each
abbrev pub IsUntroubled
    : (old : Conversation UnitState) (events : List Event) (answers : List Answer)
    (refusals : List Bool) (new : Conversation UnitState)
    → UnitRun old events answers refusals new → Type 0
IsUntroubled old (happens ∷ events) (answer ∷ answers) (refused ∷ refusals) new (mid, step, rest) =
    (refused ≡ false) × HasStamps old happens × IsUntroubled mid events answers refusals new rest
IsUntroubled old events answers refusals new run = ⊤

-- Two runs from the same state, whose events differ in steps in the background alone, give the same
-- packets and end in the same state, where neither is troubled.
abbrev pub TicksAreStruck : Type 0
TicksAreStruck = (old new other : Conversation UnitState) (events fewer : List Event)
    (answers told : List Answer) (refusals refused : List Bool)
    (run : UnitRun old events answers refusals new) (again : UnitRun old fewer told refused other)
    → without_ticks events ≡ without_ticks fewer
    → IsUntroubled old events answers refusals new run
    → IsUntroubled old fewer told refused other again
    → (answers_without_ticks events answers ≡ answers_without_ticks fewer told) × (new ≡ other)
