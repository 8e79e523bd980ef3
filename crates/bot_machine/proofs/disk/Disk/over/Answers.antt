use Rattle.std.proofs.Common.{rules}
use Rattle.std.proofs.lemmas.List.{places}
use Rattle.bot_machine.proofs.disk.Disk.over.Goals as goal

pub invariant_of-result : goal.invariant_of-result
invariant_of-result g c = record {
  room = search (rules, places);
  phase_holds = c.at_rest.ensures.phase _ _;
}
