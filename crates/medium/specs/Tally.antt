-- How many calls of each kind there were, or how many of them were refused.
use Rattle.std.specs.Prelude.{ℕ, ◌+◌}
use Rattle.medium.specs.declared.fault.MediumFault.{MediumFault}
use Rattle.medium.specs.declared.fault.MediumFault.TheVariants.{Read, Write, Flush}

pub record Tally : Type 0 where
  pub reads : ℕ
  pub writes : ℕ
  pub flushes : ℕ

abbrev pub none : Tally
none = record { reads = 0; writes = 0; flushes = 0 }

-- how many of one kind
abbrev pub of_kind : Tally → MediumFault → ℕ
of_kind r Read = r.reads
of_kind r Write = r.writes
of_kind r Flush = r.flushes

-- how many of all kinds
abbrev pub of_all : Tally → ℕ
of_all r = r.reads + r.writes + r.flushes

-- one more of this kind
abbrev pub one_more : Tally → MediumFault → Tally
one_more r Read = record r { reads = r.reads + 1 }
one_more r Write = record r { writes = r.writes + 1 }
one_more r Flush = record r { flushes = r.flushes + 1 }
