use Rattle.std.specs.Prelude.{All}
use Rattle.spec.specs.Packets.{bytes_of}
use Rattle.usbdisk.specs.{declared.runner.line.ScriptKind.TheVariants.Lives, runner.Left.parts_left, runner.Line.IsScriptLine}
use Rattle.usbdisk.specs.runner.Lines.{lines_of}
use Rattle.usbdisk.proofs.ActingLines.{ArePlayedTo}
use Rattle.usbdisk.proofs.runner.lifetimes.play_lives.Given as goal

abbrev pub invariant-loop-bytes : goal.invariant-loop-bytes
invariant-loop-bytes g l = record {
  left : All (IsScriptLine Lives (bytes_of l.script.size)) (parts_left l.bytes-iterator);
  so_far : ArePlayedTo (bytes_of l.script.size) (g.W.Write.contents l.fn.out) (g.W.Write.contents l.out) l.fn.lives
      (lines_of l.script.bytes.now) (parts_left l.bytes-iterator) l.lives;
}
