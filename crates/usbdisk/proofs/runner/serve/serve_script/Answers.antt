use Rattle.std.proofs.{Common.{[], append-nil}, lemmas.Result.{err_from_is_err_and, on_ok_weaker}}
use Rattle.usbdisk.proofs.Options.{if_err}
use Rattle.usbdisk.proofs.ServedLines.{served-none, answered-last, stops-last}
use Rattle.usbdisk.proofs.runner.serve.serve_script.Goals as goal

pub returns : goal.returns
returns g c =
    let laws = g.met.P.Player.laws in
    let was = g.W.Write.contents c.args.out.now in
    let so = c.in_ok-serve_bytes.ensures.goes_on was c.args.player.now []
    (rw (c.new-line.ensures.bytes, c.new-line.ensures.number) (served-none laws g.P.Player.stops was c.args.player.now)) in
    record {
      answered = on_ok_weaker c.answer_line.result (answered-last laws so _ _) c.answer_line.ensures.answered;
      stopped = if_err c.answer_line.result (stops-last laws so _ _) c.answer_line.ensures.stopped;
    }

pub returns-in_err-serve_bytes-clause-stopped : goal.returns-in_err-serve_bytes-clause-stopped
returns-in_err-serve_bytes-clause-stopped g c =
    let was = g.W.Write.contents c.args.out.now in
    let stops = c.in_err-serve_bytes.ensures.stops was c.args.player.now [] []
    (rw (c.new-line.ensures.bytes, c.new-line.ensures.number)
    (served-none g.met.P.Player.laws g.P.Player.stops was c.args.player.now)) in
    let p = err_from_is_err_and c.from_residual.result c.from_residual.ensures.1 in
    rw (p.1, p.2) (rw (append-nil c.args.script.now) at stops)
