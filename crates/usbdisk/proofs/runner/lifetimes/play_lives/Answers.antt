use Rattle.std.proofs.{Common.{[], ◌∙◌, ap, sym, arith}, lemmas.List.Elements.All-rest}
use Rattle.bot_machine.specs.Device.{Device}
use Rattle.spec.specs.Packets.{bytes_of}
use Rattle.usbdisk.specs.{runner.Left.parts_left, runner.Line.IsScriptLine, declared.runner.line.ScriptKind.TheVariants.Lives}
use Rattle.usbdisk.proofs.ActingLines.{lines-none, lines-all, lines-more, lines-break}
use Rattle.usbdisk.proofs.runner.lifetimes.play_lives.Goals as goal

pub loop-bytes-init : goal.loop-bytes-init
loop-bytes-init g c =
    let same = ap parts_left c.into_iter-bytes-iterator.ensures.into_iter_gives ∙ c.lines-bytes-items.ensures in
    record {
      left = rw same c.requires.good;
      so_far = lines-none (g.W.Write.contents c.args.out.now) c.args.lives same;
    }

pub play_line-requires : goal.play_line-requires
play_line-requires g c =
    let left = rw c.in-Some.ensures.steps at c.loop-bytes.invariant.left in
    let stays = ap (λ (d : Device). d.packet_size) c.loop-bytes.invariant.so_far.tells.acted.goes_on.device_stays in
    record { good = left 0 [] (omega arith); packets = stays ∙ c.requires.packets }

pub loop-bytes-preserved : goal.loop-bytes-preserved
loop-bytes-preserved g c =
    let here = c.in-Ok.ensures.played in
    record {
      left = All-rest (IsScriptLine Lives (bytes_of c.args.script.size)) _ _ _ c.in-Some.ensures.steps c.loop-bytes.invariant.left;
      so_far = lines-more c.loop-bytes.invariant.so_far c.in-Some.ensures.steps here.1 here.2;
    }

pub returns-in-Err-clause-broken : goal.returns-in-Err-clause-broken
returns-in-Err-clause-broken g c =
    let here = c.in-Err.ensures.broken in
    lines-break c.loop-bytes.invariant.so_far c.in-Some.ensures.steps here.1 here.2 (sym c.into_medium.ensures)

pub returns-clause-played : goal.returns-clause-played
returns-clause-played g c = lines-all c.loop-bytes.invariant.so_far c.in-None.ensures.steps.0 (sym c.into_medium-2.ensures)
