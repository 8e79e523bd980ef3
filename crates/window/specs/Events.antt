-- What happened to a medium that reads on demand, as its story has it.
use Rattle.window.specs.Seen.{Seen, begun, read, read_from, missed, gave, refused, took_first}
use Rattle.window.specs.Seen.{shown}
use Rattle.window.specs.declared.story.Event.{Event}
use Rattle.window.specs.declared.story.Event.TheVariants.{Began, Read, ReadFrom, Missed, Gave}
use Rattle.window.specs.declared.story.Event.TheVariants.{Refused, Took, Shown}

-- what was seen with this event
abbrev pub told_by : Event → Seen
told_by (Began opening device) =
    begun opening.now.size opening.now.near.bytes.items device.now.bytes
told_by (Read story sector) = read story.now.seen sector
told_by (ReadFrom story first count) = read_from story.now.seen first count
told_by (Missed story sector) = missed story.now.seen sector
told_by (Gave story call) = gave story.now.seen call.now
told_by (Refused story call) = refused story.now.seen call.now
told_by (Took story outbox) = took_first story.now.seen outbox.now.items
told_by (Shown story pane) =
    shown story.now.seen pane.now.from pane.now.held pane.now.sectors.bytes.items
