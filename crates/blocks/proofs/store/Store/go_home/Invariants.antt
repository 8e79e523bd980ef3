use Rattle.std.proofs.Common.{◌≡◌, false}
use Rattle.medium.specs.{Sent.sent, declared.fault.MediumFault.TheVariants.Flush}
use Rattle.theorems.proofs.Steady.{GoesHome}
use Rattle.blocks.specs.{Background.StaysIdle, Passing.PassesPaid, StoreValue.{is_dead, steps_left}}
use Rattle.blocks.proofs.store.Store.go_home.Given as goal

abbrev pub invariant-loop-self : goal.invariant-loop-self
invariant-loop-self g l = record {
  passes : PassesPaid g.M.Medium.state g.M.Medium.follows (sent (g.M.Medium.state l.self.medium)) l.fn.self l.self;
  live : is_dead l.self.cached ≡ false;
  home : GoesHome l.fn.self.cached.log l.self.cached.log (g.M.Medium.state l.fn.self.medium).calls (g.M.Medium.state l.self.medium).calls
      (sent (g.M.Medium.state l.fn.self.medium)) (sent (g.M.Medium.state l.self.medium));
  flushed : (g.M.Medium.state l.self.medium).made Flush ≡ (g.M.Medium.state l.fn.self.medium).made Flush;
  stays : StaysIdle l.fn.self.cached l.self.cached;
}

abbrev pub decreases-loop-self : goal.decreases-loop-self
decreases-loop-self g l = steps_left l.self.cached
