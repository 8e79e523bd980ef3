use Rattle.std.proofs.Common.{◌≡◌, drop}
use Rattle.medium.specs.Writes.{sector_of, applied, latest}
use Rattle.medium.proofs.sectors.load_after.Given as goal

abbrev pub invariant-loop-write : goal.invariant-loop-write
invariant-loop-write l = latest (drop l.write-index l.writes) l.sector l.to ≡ applied l.writes (sector_of l.bytes) l.sector
