use Rattle.scsi_unit.proofs.UnitLaws.{keeps_intentions, is_function, keeps_writes, writes_are_writes, stays_faulted, ticks_only}
use Rattle.scsi_unit.proofs.{UnitLaws.{keeps_limit, knows_images}, CommandCalls.{steady_is_cheap, records_flush_once}}
use Rattle.scsi_unit.proofs.laws.unit_laws.Goals as goal

pub returns : goal.returns
returns c = record {
  commands = record {
    function = is_function;
    intentions = keeps_intentions;
    writes = keeps_writes;
    are_writes = writes_are_writes;
    faults = stays_faulted;
  };
  ticks = ticks_only;
  limit = keeps_limit;
  images = knows_images;
  costs = record { steady = steady_is_cheap; once = records_flush_once };
}
