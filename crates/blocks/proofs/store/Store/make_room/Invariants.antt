use Rattle.std.proofs.Common.{◌≡◌, false}
use Rattle.medium.specs.Sent.{sent}
use Rattle.redo_log.specs.Value.{HasRoom}
use Rattle.theorems.proofs.Steady.{Retires}
use Rattle.blocks.specs.{Passing.PassesPaid, StoreValue.{is_dead, steps_left}}
use Rattle.blocks.proofs.store.Store.make_room.Given as goal

abbrev pub invariant-loop-self : goal.invariant-loop-self
invariant-loop-self g l = record {
  passes : PassesPaid g.M.Medium.state g.M.Medium.follows (sent (g.M.Medium.state l.self.medium)) l.fn.self l.self;
  live : is_dead l.self.cached ≡ false;
  stays : HasRoom l.fn.self.cached.log → l.self ≡ l.fn.self;
  retires : Retires l.fn.self.cached.log l.self.cached.log (g.M.Medium.state l.fn.self.medium) (g.M.Medium.state l.self.medium);
  idle : l.self.cached.log.steps_left ≡ 0;
  active : l.self.cached.active ≡ l.fn.self.cached.active;
  frozen : l.self.cached.frozen ≡ l.fn.self.cached.frozen;
}

abbrev pub decreases-loop-self : goal.decreases-loop-self
decreases-loop-self g l = steps_left l.self.cached
