-- The two disks of which the promise speaks.
use Rattle.std.specs.Prelude.{ℕ, List, Option, Some, None}
use Rattle.logical_blocks.specs.Blocks.{Write}
use Rattle.logical_blocks.specs.Book.{Book}
use Rattle.scsi.specs.Rules.{UnitState, opened_unit}
use Rattle.spec.specs.declared.event.Event.{Event}
use Rattle.spec.specs.Exchange.{at_rest}
use Rattle.spec.specs.Conversation.{Conversation}
use Rattle.spec.specs.UnitConversation.{write_of_event, on_line, UnitStep}
use Rattle.spec.specs.Lagging.{Lagging, settled, write_of_pending, UnitLagStep}
use Rattle.spec.specs.Lives.{Presentation, DiskRules}

-- a disk that has just started with this book
abbrev pub started : ℕ → Presentation → Book → Conversation UnitState
started limit disk book = on_line (at_rest disk.packet_size) (opened_unit limit disk.identity book)

-- A disk that acts on each packet in the packet's own event. Between two events no write is in
-- progress.
abbrev pub prompt_disk : DiskRules
prompt_disk = record {
  State = Conversation UnitState;
  started = started;
  book = λ s. s.unit.book;
  step = UnitStep;
  write_in = write_of_event;
  write_now = λ s. None;
}

-- the write of what is pending, if it has one
abbrev pub pending_write : Option (List ℕ) → Conversation UnitState → Option Write
pending_write None s = None
pending_write (Some packet) s = write_of_pending s packet

-- The write that is in progress in an event, where this is pending: that of the packet, whatever
-- the event is.
abbrev pub event_write : Option (List ℕ) → Conversation UnitState → Event → Option Write
event_write None s event = write_of_event s event
event_write (Some packet) s event = write_of_pending s packet

-- A disk whose device may be behind: the event of a packet lasts until the packet is acted on.
-- While one is pending, a loss of power falls inside that event.
abbrev pub lagging_disk : DiskRules
lagging_disk = record {
  State = Lagging UnitState;
  started = λ limit disk book. settled (started limit disk book);
  book = λ s. s.now.unit.book;
  step = UnitLagStep;
  write_in = λ s event. event_write s.pending s.now event;
  write_now = λ s. pending_write s.pending s.now;
}
