use Rattle.std.proofs.{Common.{[], take}, KnownBytes.{Consumes-nil, Consumes-trans}}
use Rattle.usbdisk.proofs.runner.serve.read_more.Goals as goal

pub reads-init : goal.reads-init
reads-init g c = record { none = Consumes-nil (g.S.LineSource.left c.args.source.now) }

pub read_behind-requires : goal.read_behind-requires
read_behind-requires g c = c.requires c.reads.source c.reads.invariant.none

pub returns-in-Ok-clause-bytes : goal.returns-in-Ok-clause-bytes
returns-in-Ok-clause-bytes g c =
    let left = g.S.LineSource.left in (
      Consumes-trans (left c.args.source.now) (left c.reads.source) (left c.read_behind.new.self) [] (take c.in-Ok.count
          c.read_behind.new.buf) c.reads.invariant.none c.in-Ok.ensures.bytes.0,
      c.in-Ok.ensures.bytes.1,
    )
