use Rattle.std.proofs.Common.{take}
use Rattle.window.specs.Panes.{AreLaid}
use Rattle.window.proofs.pane.Pane.lay_over.Given as goal

-- the first calls were laid over
abbrev pub invariant-loop-place : goal.invariant-loop-place
invariant-loop-place l = AreLaid (take l.place l.outbox.items) l.fn.self l.self
