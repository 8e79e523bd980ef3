-- What happened to a file of the system, as its story has it.
use Rattle.std.specs.Prelude.{[], ◌∷◌}
use Rattle.window.specs.declared.call.DeviceCall.TheVariants.{Flush}
use Rattle.device_file.specs.Asked.{Told, answered, begun, writes_of}
use Rattle.device_file.specs.declared.story.Event.{Event}
use Rattle.device_file.specs.declared.story.Event.TheVariants.{Opened, Wrote, Synced}

-- what was asked with this event
abbrev pub told_by : Event → Told
told_by (Opened path access) = begun path.now access
told_by (Wrote story run good) =
    answered good (writes_of run.now.first run.now.blocks.items) story.now.told
told_by (Synced story good) = answered good (Flush ∷ []) story.now.told
