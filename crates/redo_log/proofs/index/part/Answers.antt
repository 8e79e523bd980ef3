use Rattle.std.proofs.{Common.{length, arith}, lemmas.List.take_all, lemmas.List.Kept.AllPairs-filter}
use Rattle.redo_log.specs.Index.{is_outside}
use Rattle.redo_log.proofs.{SortedIndex.{Above, look_filter}, LeavingIndex.{front_outside, back_outside, places_rise, kept_others}}
use Rattle.redo_log.proofs.index.part.Goals as goal

pub keep_others-requires : goal.keep_others-requires
keep_others-requires c =
    let index = c.args.index.now in
    let first = rw (take_all (length index) index (omega arith)) at c.below-from.ensures in
    let last = rw (take_all (length index) index (omega arith)) at c.below-end.ensures in
    record {
      bounds = (places_rise c.args.slot c.args.numbers.now index c.requires first last, last.inside);
      outside = front_outside c.args.slot c.args.numbers.now index c.requires first;
    }

pub returns : goal.returns
returns c =
    let index = c.args.index.now in
    let last = rw (take_all (length index) index (omega arith)) at c.below-end.ensures in
    let kept = kept_others c.args.slot c.below-end.result c.keep_others.result index c.keep_others.new.index
    c.keep_others.ensures.kept c.keep_others.ensures.rest
    (back_outside c.args.slot c.args.numbers.now index c.requires last) in
    record {
      gap = (c.keep_others.ensures.bounds.0, omega (arith, last.inside, c.keep_others.ensures.bounds.1));
      goes = record {
        sorted = rw kept (AllPairs-filter (λ c. Above c.block) (is_outside c.args.slot) index c.requires.sorted);
        looks = λ b. rw kept (look_filter c.args.slot index c.requires.sorted b);
      };
      same = c.keep_others.ensures.bounds.1;
    }
