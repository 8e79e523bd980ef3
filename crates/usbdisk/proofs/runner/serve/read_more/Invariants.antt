use Rattle.std.{proofs.Common.[], specs.Io.KnownBytes.Consumes}
use Rattle.usbdisk.proofs.runner.serve.read_more.Given as goal

-- no byte was taken
abbrev pub invariant-reads : goal.invariant-reads
invariant-reads g l = record { none : Consumes (g.S.LineSource.left l.fn.source) (g.S.LineSource.left l.source) [] }
