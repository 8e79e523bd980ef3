use Rattle.std.proofs.Common.{refl}
use Rattle.usbdisk.proofs.live.starting.carry_start.Goals as goal

pub returns-in-None-clause-ok : goal.returns-in-None-clause-ok
returns-in-None-clause-ok g c = (
  record { carried = c.pop.ensures.armed; others = c.pop.ensures.others },
  rw (c.fault.ensures, c.medium.ensures.is) at c.in-None.is,
)

pub returns-in-Some-clause-err : goal.returns-in-Some-clause-err
returns-in-Some-clause-err g c = rw c.with.ensures (record {
  disk = c.pop.new.self;
  so = record { carried = c.pop.ensures.armed; others = c.pop.ensures.others };
  fault = c.in-Some.fault;
  fault_is = rw (c.fault.ensures, c.medium.ensures.is) at c.in-Some.is;
  refused_is = refl;
  given = rw (c.into_file.ensures, c.into_medium.ensures);
})
