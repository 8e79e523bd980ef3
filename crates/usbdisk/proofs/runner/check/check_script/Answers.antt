use Rattle.std.proofs.Common.{arith}
use Rattle.spec.specs.Packets.{bytes_of}
use Rattle.usbdisk.{specs.{runner.Left.parts_left, runner.Lines.lines_of}, proofs.CheckedLines.{read-more, read-all, number-bound}}
use Rattle.usbdisk.proofs.runner.check.check_script.Goals as goal

pub overflow_add-number : goal.overflow_add-number
overflow_add-number c =
    omega (
      arith,
      number-bound c.args.kind (bytes_of c.args.size) c.args.script.now (parts_left c.loop-line.line-iterator) c.loop-line.number
          c.loop-line.invariant,
    )

pub loop-line-preserved : goal.loop-line-preserved
loop-line-preserved c =
    read-more c.args.kind (bytes_of c.args.size) (lines_of c.args.script.now) (parts_left c.loop-line.line-iterator)
    (parts_left c.next.new.self) c.in-Some.line.now c.in-Some.ensures.steps c.loop-line.number c.loop-line.invariant
    (c.in-Some-read_line.field-0, c.in-Some-read_line.ensures.spelled.0, c.in-Some-read_line.ensures.spelled.1)

pub returns-clause-good : goal.returns-clause-good
returns-clause-good c =
    read-all c.args.kind (bytes_of c.args.size) (lines_of c.args.script.now) (parts_left c.loop-line.line-iterator) c.loop-line.number
    c.in-None.ensures.steps.0 c.loop-line.invariant
