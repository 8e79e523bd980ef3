use Rattle.std.proofs.{Common.{◌++◌, [], take, rules}, KnownBytes.{Consumes-nil, Consumes-trans}}
use Rattle.std.{proofs.lemmas.Result.{err_from_is_err_and, on_ok_weaker}, specs.Io.KnownBytes.IsAtEnd}
use Rattle.usbdisk.proofs.Options.{if_err}
use Rattle.usbdisk.proofs.ServedLines.{taken-none, taken-nothing, served-none, served-all, served-unread, stopped-last, stopped-in}
use Rattle.usbdisk.proofs.runner.serve.serve_player.Goals as goal

pub reads-init : goal.reads-init
reads-init g c = record {
  so_far = (
    [],
    Consumes-nil (g.S.LineSource.left c.args.source.now),
    rw (c.new-line.ensures.bytes, c.new-line.ensures.number)
        (served-none g.met.P.Player.laws g.P.Player.stops (g.W.Write.contents c.args.out.now) c.args.player.now),
  );
}

pub read_more-requires : goal.read_more-requires
read_more-requires g c later none =
    let so = c.reads.invariant.so_far in
    let left = g.S.LineSource.left in
    c.requires.asks later _ _ so.0 (taken-nothing (left c.args.source.now) (left c.reads.source) (left later) so.0 so.1 none)
    (served-unread g.met.P.Player.laws so.2)

pub returns-then-count-eq0 : goal.returns-then-count-eq0
returns-then-count-eq0 g c =
    let laws = g.met.P.Player.laws in
    let so = c.reads.invariant.so_far in
    let out = g.W.Write.contents c.answer_line.new.out in
    let left = g.S.LineSource.left in
    let took = c.in_ok-count.ensures.bytes in
    let taken = taken-none (left c.args.source.now) (left c.reads.source) (left c.read_more.new.source) so.0 c.read_more.new.chunk
    c.in_ok-count.count so.1 took.0 c.if-count-eq0.true in
    let end : IsAtEnd (left c.read_more.new.source) = took.1 c.if-count-eq0.true (search rules) in
    record {
      served = on_ok_weaker c.answer_line.result (served-all laws so.2 out c.answer_line.new.player _ _ taken end)
          c.answer_line.ensures.answered;
      stopped = if_err c.answer_line.result (stopped-last laws so.2 out c.answer_line.new.player _ _ taken end)
          c.answer_line.ensures.stopped;
    }

pub returns-in_err-serve_bytes-clause-stopped : goal.returns-in_err-serve_bytes-clause-stopped
returns-in_err-serve_bytes-clause-stopped g c =
    let so = c.reads.invariant.so_far in
    let contents = g.W.Write.contents in
    let left = g.S.LineSource.left in
    let chunk = take c.in_ok-count.count c.read_more.new.chunk in
    let p = err_from_is_err_and c.from_residual-in_err-serve_bytes.result c.from_residual-in_err-serve_bytes.ensures.1 in
    rw (p.1, p.2)
    (stopped-in g.P.Player.goes g.P.Player.stops (g.P.Player.most c.args.player.now) (contents c.args.out.now)
    (contents c.serve_bytes.new.out) c.args.player.now c.serve_bytes.new.player (left c.args.source.now)
    (left c.read_more.new.source) (so.0 ++ chunk)
    (Consumes-trans (left c.args.source.now) (left c.reads.source) (left c.read_more.new.source) so.0 chunk so.1
    c.in_ok-count.ensures.bytes.0)
    c.in_err-serve_bytes.field-0.0
    (λ more. c.in_err-serve_bytes.ensures.stops (contents c.args.out.now) c.args.player.now so.0 more so.2))

pub returns-in_err-count-clause-stopped : goal.returns-in_err-count-clause-stopped
returns-in_err-count-clause-stopped g c =
    let so = c.reads.invariant.so_far in
    let left = g.S.LineSource.left in
    let failed = c.in_err-count.ensures.bytes in
    let p = err_from_is_err_and c.from_residual.result c.from_residual.ensures.1 in
    rw (p.1, p.2, failed.0) (
      so.0,
      taken-nothing (left c.args.source.now) (left c.reads.source) (left c.read_more.new.source) so.0 so.1 failed.1,
      served-unread g.met.P.Player.laws so.2,
    )

pub reads-preserved : goal.reads-preserved
reads-preserved g c =
    let so = c.reads.invariant.so_far in
    let left = g.S.LineSource.left in
    let chunk = take c.in_ok-count.count c.read_more.new.chunk in
    record {
      so_far = (
        so.0 ++ chunk,
        Consumes-trans (left c.args.source.now) (left c.reads.source) (left c.read_more.new.source) so.0 chunk so.1
            c.in_ok-count.ensures.bytes.0,
        c.in_ok-serve_bytes.ensures.goes_on (g.W.Write.contents c.args.out.now) c.args.player.now so.0 so.2,
      );
    }

pub returns-clause-stopped : goal.returns-clause-stopped
returns-clause-stopped g c =
    let so = c.reads.invariant.so_far in
    (so.0, so.1, served-unread g.met.P.Player.laws so.2)
