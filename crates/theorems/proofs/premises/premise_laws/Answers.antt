use Rattle.theorems.proofs.Witnesses.{opening_met, log_met}
use Rattle.theorems.proofs.premises.premise_laws.Goals as goal

pub returns : goal.returns
returns g c = record {
  opening = opening_met g.M.Medium.state g.M.Medium.follows;
  log = log_met g.M.Medium.state g.M.Medium.follows g.met.M.Medium.sound;
}
