use Rattle.std.proofs.Common.{◌≡◌, true, refl, rules}
use Rattle.window.specs.{Window.state_of, WindowLaws.is_sound}
use Rattle.blocks.proofs.{TurnsJoined.stays}
use Rattle.store_calls.specs.{WritingBack.IsLeft, declared.writing_back.Aim.TheVariants.Batch, Idling.AsksAhead}
use Rattle.blocks.specs.{declared.work.Work.TheVariants.Ahead}
use Rattle.store_calls.proofs.Stepping.{none_made, steps_append}
use Rattle.store_calls.proofs.resting.work_at_rest.Goals as goal

pub returns-else-not-put_off : goal.returns-else-not-put_off
returns-else-not-put_off c =
    let none : ¬ IsLeft Batch c.args.store.now = search rules in
    let noted : c.args.put_off ≡ true = search rules in record {
      batch = λ left. absurd (none left);
      ahead = λ no is. absurd (search rules);
      rests = λ no is. refl;
      appends = steps_append AsksAhead Ahead 0 c.args.store.now c.args.store.now c.foresee.ensures
          (none_made AsksAhead Ahead c.args.store.now);
      turn = stays (state_of c.args.store.now.medium) c.args.store.now.cached (is_sound c.args.store.now.medium);
    }
