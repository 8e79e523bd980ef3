-- What a line does to the disk of its script.
use Rattle.std.specs.Prelude.{ℕ, List, [], ◌∷◌, map, replicate}
use Rattle.spec.specs.{declared.event.Event.Event, Packets.{bytes_of, packets_of}}
use Rattle.usbdisk.specs.declared.runner.line.ScriptLine.{ScriptLine}
use Rattle.usbdisk.specs.declared.runner.line.ScriptLine.TheVariants.{Out, Fill, In, Setup, Tick}
use Rattle.spec.specs.declared.event.Event.TheVariants as event

-- a packet to Bulk-Out
abbrev pub packet_out : List ℕ → Event
packet_out packet = event.Out (record { items = packet })

-- the events that a line plays, one after another
abbrev pub events_of : ScriptLine → List Event
events_of (Out packet) = event.Out packet ∷ []
events_of (Fill byte count size) =
    map packet_out (packets_of (bytes_of size) (replicate count byte))
events_of In = event.In ∷ []
events_of (Setup packet) = event.Setup packet ∷ []
events_of (Tick count) = replicate count event.Tick
events_of asked = []
