use Rattle.std.{proofs.Common.{ℕ, List}, specs.Io.KnownBytes.Consumes}
use Rattle.usbdisk.specs.runner.Served.{HasServed}
use Rattle.usbdisk.proofs.runner.serve.serve_player.Given as goal

-- what was read so far was served
abbrev pub invariant-reads : goal.invariant-reads
invariant-reads g l = record {
  so_far : (read : List ℕ) × Consumes (g.S.LineSource.left l.fn.source) (g.S.LineSource.left l.source) read
      × HasServed g.P.Player.goes g.P.Player.stops (g.P.Player.most l.fn.player) (g.W.Write.contents l.fn.out)
      (g.W.Write.contents l.out) l.fn.player l.player l.line.bytes.items l.line.number read;
}
