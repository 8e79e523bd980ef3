-- The conversation of a host and a unit, by the rules of the unit, and the write that is in
-- progress in an event of it.
use Rattle.std.specs.Prelude.{◌≡◌, ℕ, List, Bool, Option, None, ◌==◌, ◌&&◌, nat_le}
use Rattle.std.specs.Prelude.{false, if◌then◌else◌, ◌++◌, length, take}
use Rattle.spec.specs.declared.way.Way.{Way}
use Rattle.scsi.specs.Rules.{Intention, UnitState, intention, CarriesOut, Ticks, write_in_progress}
use Rattle.logical_blocks.specs.Blocks.{Write}
use Rattle.spec.specs.declared.event.Event.{Event}
use Rattle.spec.specs.declared.event.Answer.{Answer}
use Rattle.spec.specs.Exchange.{Line, Script, taking}
use Rattle.spec.specs.Conversation.{Conversation, Step, Run}
use Rattle.spec.specs.Cases.{size_of_way}
use Rattle.spec.specs.declared.way.Way.TheVariants as ways
use Rattle.scsi.specs.declared.intent.Intent.TheVariants as intent
use Rattle.spec.specs.declared.event.Event.TheVariants as event

-- a command that is refused intends to move nothing
abbrev pub way_of : Intention → Way
way_of (intent.In n) = ways.In n
way_of (intent.Out n) = ways.Out n
way_of intended = ways.Nothing

-- what the unit in some state intends for a command block
abbrev pub Intends : UnitState → List ℕ → Way → Type 0
Intends unit block intended = intended ≡ way_of (intention unit block)

-- a unit behind a line
abbrev pub on_line : Line → UnitState → Conversation UnitState
on_line line unit = record { line = line; unit = unit }

-- one event by the rules of the unit, where the medium refused a call in it or refused none
abbrev pub UnitStep : Bool → Conversation UnitState → Event → Answer → Conversation UnitState
    → Type 0
UnitStep refused old event answer new = Step Intends CarriesOut Ticks refused old event answer new

-- events by the rules of the unit
abbrev pub UnitRun : Conversation UnitState → List Event → List Answer → List Bool
    → Conversation UnitState → Type 0
UnitRun old events answers refusals new =
    Run Intends CarriesOut Ticks old events answers refusals new

-- The write that is in progress in a packet to Bulk-Out, of at most `most` bytes: that of the
-- command whose last bytes it has. A command that is carried out in the event of its wrapper takes
-- no bytes, and writes none.
abbrev pub write_of_packet : ℕ → Bool → Script → List ℕ → UnitState → Option Write
write_of_packet most false (taking case command intended bytes due) packet unit =
    if (length packet == due) && nat_le due most
    then write_in_progress unit command.block.items (take (size_of_way intended) (bytes ++ packet))
    else None
write_of_packet most halted left packet unit = None

-- the write that is in progress in an event, if there is one
abbrev pub write_of_event : Conversation UnitState → Event → Option Write
write_of_event s (event.Out packet) =
    write_of_packet s.line.packet_size s.line.out_halted s.line.left packet.items s.unit
write_of_event s event = None
