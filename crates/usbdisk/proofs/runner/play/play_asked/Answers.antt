use Rattle.std.proofs.{Common.{◌∷◌, [], ◌++◌, ◌∙◌, ℕ, ap, sym, subst, append_assoc}, lemmas.Result.err_from_is_err_and}
use Rattle.bot_machine.specs.Fitting.{IsWithin}
use Rattle.usbdisk.specs.{runner.Events.events_of, runner.Served.IsUnanswered}
use Rattle.usbdisk.proofs.{ToldEvents.{tells-none, tells-one, tells-more, ends-here, most_stays}, Within.next_within}
use Rattle.usbdisk.proofs.runner.play.play_asked.Goals as goal

pub loop-event-init : goal.loop-event-init
loop-event-init g c = record {
  so_far = (
    [],
    ap events_of (sym c.into_iter-event-iterator.ensures.into_iter_gives),
    tells-none g.met.P.Player.laws (g.W.Write.contents c.args.out.now) c.args.player.now,
  );
}

pub play_event-requires : goal.play_event-requires
play_event-requires g c =
    let so = c.loop-event.invariant.so_far in
    subst (λ (most : ℕ). IsWithin most c.in-Some.event) (sym (most_stays g.met.P.Player.laws so.2))
    (next_within (g.P.Player.most c.args.player.now) so.0 (events_of c.loop-event.event-iterator) (events_of c.args.asked)
    (events_of c.next.new.self) c.in-Some.event so.1 c.in-Some.ensures.steps c.requires.within)

pub loop-event-preserved : goal.loop-event-preserved
loop-event-preserved g c =
    let laws = g.met.P.Player.laws in
    let so = c.loop-event.invariant.so_far in
    let event = c.in-Some.event in
    let here = c.in_ok-play_event.ensures.played in
    record {
      so_far = (
        so.0 ++ event ∷ [],
        so.1 ∙ ap (λ l. so.0 ++ l) c.in-Some.ensures.steps ∙ sym (append_assoc so.0 (event ∷ []) (events_of c.next.new.self)),
        tells-more laws so.2 (tells-one laws (g.W.Write.contents c.loop-event.out) (g.W.Write.contents c.play_event.new.out)
            c.loop-event.player c.play_event.new.player event here.0 here.1 here.2),
      );
    }

pub returns-in_err-play_event-clause-cut_short : goal.returns-in_err-play_event-clause-cut_short
returns-in_err-play_event-clause-cut_short g c =
    let contents = g.W.Write.contents in
    let so = c.loop-event.invariant.so_far in
    let event = c.in-Some.event in
    let fault = c.in_err-play_event.field-0.0 in
    let p = err_from_is_err_and c.from_residual.result c.from_residual.ensures.1 in
    rw (p.1, p.2) (record {
      part = so.0;
      event = event;
      rest = events_of c.next.new.self;
      parts = so.1 ∙ ap (λ l. so.0 ++ l) c.in-Some.ensures.steps;
      ends = ends-here g.met.P.Player.laws so.2 g.P.Player.stops (g.P.Player.most c.args.player.now)
          (contents c.play_event.new.out) c.play_event.new.player fault event
          (subst (λ (m : ℕ). IsUnanswered g.P.Player.goes g.P.Player.stops m (contents c.loop-event.out) (contents c.play_event.new.out)
          c.loop-event.player c.play_event.new.player event fault) (most_stays g.met.P.Player.laws so.2)
          c.in_err-play_event.ensures.cut_short);
    })
