use Rattle.std.proofs.Common.{◌≡◌, ℕ, length, drop}
use Rattle.medium.specs.Writes.{sector_of, applied, latest, kept_writes, keeps, LieWithin}
use Rattle.medium.proofs.sectors.apply.Given as goal

abbrev pub invariant-loop-i : goal.invariant-loop-i
invariant-loop-i l = record {
  room : LieWithin (length l.bytes) (drop l.i l.writes);
  left : (s : ℕ)
      → latest (kept_writes (keeps l.kept) l.i (drop l.i l.writes)) s (sector_of l.bytes s)
      ≡ applied (kept_writes (keeps l.kept) 0 l.writes) (sector_of l.fn.bytes) s;
}
