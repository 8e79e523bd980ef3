use Rattle.std.proofs.Common.{◌≡◌, ◌⊎◌, ◌<◌, [], length}
use Rattle.device_file.specs.Asked.{writes_of}
use Rattle.device_file.specs.Outbox.{LetsGo}
use Rattle.device_file.proofs.carrying.gather.Given as goal

abbrev pub invariant-calls : goal.invariant-calls
invariant-calls l = LetsGo (writes_of l.run.first l.run.blocks.items) l.initial.window l.window
    × (length l.run.blocks.items ≡ l.counter)
    × (((l.run.blocks.items ≡ []) × (l.window ≡ l.initial.window) × (l.counter ≡ 0))
    ⊎ (length l.window.outbox < length l.initial.window.outbox))
