use Rattle.page.specs.Scripts.{IsReached}
use Rattle.page.proofs.play.play_script.Goals as goal

pub returns-then-hand_out-clause-played : goal.returns-then-hand_out-clause-played
returns-then-hand_out-clause-played c = λ code.
    let r : IsReached c.in-Some.head c.args.steps.now c.reach.new.answers.items c.in-Some-reach.scene =
    c.in-Some-reach.ensures c.new-bytes.ensures.items in
    record {
      bytes = c.show.new.to.items;
      is_told = record {
        head = c.in-Some.head;
        is_head = c.in-Some.ensures.some;
        answers = c.reach.new.answers.items;
        scene = c.in-Some-reach.scene;
        reached = r;
        numbers = c.show.ensures.told;
        bytes = c.show.ensures.bytes r.reached.book r.reached.shows c.if-not-show.false;
      };
      front = rw c.deref.ensures.value at (c.hand_out.ensures.front c.if-hand_out.true);
    }

pub returns-clause-room : goal.returns-clause-room
returns-clause-room c = λ code.
    let r : IsReached c.in-Some.head c.args.steps.now c.reach.new.answers.items c.in-Some-reach.scene =
    c.in-Some-reach.ensures c.new-bytes.ensures.items in
    record {
      bytes = c.show.new.to.items;
      is_told = record {
        head = c.in-Some.head;
        is_head = c.in-Some.ensures.some;
        answers = c.reach.new.answers.items;
        scene = c.in-Some-reach.scene;
        reached = r;
        numbers = c.show.ensures.told;
        bytes = c.show.ensures.bytes r.reached.book r.reached.shows c.if-not-show.false;
      };
      lacks = rw c.deref.ensures.value at (c.hand_out.ensures.lacks.0 c.if-hand_out.false);
    }
