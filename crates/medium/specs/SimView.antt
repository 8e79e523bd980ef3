-- How a medium in memory is kept.
use Rattle.std.specs.Prelude.{◌≤◌, vec_capacity}
use Rattle.medium.specs.Tally.{Tally}
use Rattle.medium.specs.Sim.{Sim, IsWellFormed}
use Rattle.medium.specs.declared.tally.Calls.{Calls}
use Rattle.medium.specs.declared.sim.SimMedium.TheInside.{Inside}

abbrev pub tally_of : Calls → Tally
tally_of r = record { reads = r.reads.number; writes = r.writes.number; flushes = r.flushes.number }

abbrev pub view_of : Inside → Sim
view_of m = record {
  flushed = m.bytes.items;
  unflushed = m.writes.items;
  room = m.room;
  power = m.power;
  flushes = m.flushes;
  calls = m.calls.number;
  made = tally_of m.made;
  refused = tally_of m.refused;
  without_room = m.without_room.number;
}

pub record Invariant (m : Inside) : Type 0 where
  pub well_formed : IsWellFormed (view_of m)
  pub reserved : m.room ≤ vec_capacity m.writes
