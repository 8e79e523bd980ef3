use Rattle.store_calls.proofs.{Untouched.shown_untouched}
use Rattle.store_calls.proofs.outbox.show_sectors.Goals as goal

pub returns : goal.returns
returns c = record {
  shown = c.show.ensures.shown;
  cached = c.show.ensures.cached;
  untouched = λ on. shown_untouched c.args.store.now c.show.new.self c.args.first c.args.bytes.now c.show.result c.show.ensures.shown
      c.show.ensures.cached c.show.ensures.policy on;
}
