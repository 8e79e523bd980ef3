use Rattle.theorems.proofs.{Logging.{keeps_the_rules, every_log}, Making.every_making, LogRuns.every_run}
use Rattle.theorems.proofs.orders.log_laws.Goals as goal

pub returns : goal.returns
returns g c = record {
  rules = keeps_the_rules;
  orders = every_log g.M.Medium.state g.met.M.Medium.sound;
  makings = every_making g.M.Medium.state g.met.M.Medium.sound g.M.Medium.follows;
  runs = every_run g.M.Medium.state g.met.M.Medium.sound g.M.Medium.follows;
}
