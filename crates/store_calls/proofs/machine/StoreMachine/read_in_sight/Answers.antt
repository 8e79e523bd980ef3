use Rattle.std.proofs.{Common.refl}
use Rattle.store_calls.proofs.{Doing.read_safe}
use Rattle.store_calls.proofs.machine.StoreMachine.read_in_sight.Goals as goal

pub returns-in-Ok : goal.returns-in-Ok
returns-in-Ok c = record {
  seen = c.requires.seen;
  read = c.in-Ok.ensures.ok;
  others = refl;
  stays = read_safe c.args.self.now _ _ _ refl c.in-Ok.ensures.ok.all;
}

pub returns-in-Err : goal.returns-in-Err
returns-in-Err c = record {
  is = c.in-Err.ensures.err.0;
  unread = c.in-Err.ensures.err.1;
  others = refl;
  stays = read_safe c.args.self.now _ _ _ refl c.in-Err.ensures.err.1.all;
}
