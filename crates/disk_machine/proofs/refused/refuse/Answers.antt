-- What was emptied is told that the device refused.
use Rattle.disk_machine.proofs.refused.refuse.Goals as goal

pub returns : goal.returns
returns c = record {
  mid = c.drain.new.disk;
  drained = c.drain.ensures;
  step = c.refuse.ensures.step;
  dead = c.refuse.ensures.dead;
  medium = c.refuse.ensures.medium;
}
