use Rattle.spec.specs.Packets.{bytes_of}
use Rattle.usbdisk.{specs.{runner.Left.parts_left, runner.Lines.lines_of}, proofs.CheckedLines.IsReadTo}
use Rattle.usbdisk.proofs.runner.check.check_script.Given as goal

abbrev pub invariant-loop-line : goal.invariant-loop-line
invariant-loop-line l = IsReadTo l.kind (bytes_of l.size) (lines_of l.script) (parts_left l.line-iterator) l.number
