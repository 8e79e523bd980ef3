use Rattle.std.proofs.Common.{◌≡◌, ◌<◌, ◌≤◌, ◌+◌, false}
use Rattle.medium.specs.{Sent.sent, declared.fault.MediumFault.TheVariants.Flush}
use Rattle.theorems.specs.Retiring.{left_flushes}
use Rattle.blocks.specs.{Passing.PassesPaid, StoreValue.{is_dead, steps_left}}
use Rattle.blocks.proofs.store.Store.write_out.Given as goal

abbrev pub invariant-loop : goal.invariant-loop
invariant-loop g l = record {
  passes : PassesPaid g.M.Medium.state g.M.Medium.follows (sent (g.M.Medium.state l.self.medium)) l.fn.self l.self;
  live : is_dead l.self.cached ≡ false;
  under_way : 0 < l.self.cached.log.steps_left;
  so_far : l.self.cached.log ≡ record l.fn.self.cached.log { steps_left = l.self.cached.log.steps_left };
  exactly : (g.M.Medium.state l.self.medium).calls + l.self.cached.log.steps_left
      ≡ (g.M.Medium.state l.fn.self.medium).calls + l.fn.self.cached.log.steps_left;
  sends : sent (g.M.Medium.state l.self.medium) + l.self.cached.log.steps_left
      ≤ sent (g.M.Medium.state l.fn.self.medium) + l.fn.self.cached.log.steps_left;
  flushes : (g.M.Medium.state l.self.medium).made Flush + left_flushes l.self.cached.log
      ≡ (g.M.Medium.state l.fn.self.medium).made Flush + left_flushes l.fn.self.cached.log;
  head : l.self.cached.log.head ≡ l.fn.self.cached.log.head;
  active : l.self.cached.active ≡ l.fn.self.cached.active;
}

abbrev pub decreases-loop : goal.decreases-loop
decreases-loop g l = steps_left l.self.cached
