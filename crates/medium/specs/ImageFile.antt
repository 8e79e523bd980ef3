-- A medium over an image file: its copy in memory, from which reads are answered, and its file.
use Rattle.std.specs.Prelude.{◌≡◌, ℕ, ◌+◌, ◌*◌, ◌/◌, ◌%◌, ◌<◌, ◌≤◌, List, [], length, true, false}
use Rattle.medium.specs.Medium.{State, Holds, CutLeaves}
use Rattle.medium.specs.Tally.{Tally, none, of_kind, of_all, one_more}
use Rattle.medium.specs.Writes.{sector_of}
use Rattle.medium.specs.FileStory.{Told, HoldsFirst, IsPut, MayPut, answered}
use Rattle.medium.specs.declared.fault.MediumFault.{MediumFault}
use Rattle.medium.specs.declared.fault.MediumFault.TheVariants.{Write, Flush}
use Rattle.medium.specs.declared.file_call.FileCall.TheVariants.{Sync}

pub record Copied : Type 0 where
  -- the bytes of all sectors
  pub bytes : List ℕ
  pub calls : ℕ
  -- how many calls of each kind, and how many of them were refused
  pub made : Tally
  pub refused : Tally
  -- what the file holds, and what it was asked
  pub file : Told

-- A cut leaves what a read gives: what the file then holds is not known here, and is a premise.
-- Earlier moments are answered with the sets of this one.
abbrev pub state_of : Copied → State
state_of m = record {
  size = length m.bytes / 512;
  content = sector_of m.bytes;
  may_leave = λ s c. c ≡ sector_of m.bytes s;
  left_since = λ t image. CutLeaves (λ s c. c ≡ sector_of m.bytes s) image;
  calls = m.calls;
  made = of_kind m.made;
  failures = of_all m.refused;
  refused = of_kind m.refused;
  looked = [];
}

-- a copy of these bytes over this file, before the first call
abbrev pub fresh : Told → List ℕ → Copied
fresh file bytes = record { bytes = bytes; calls = 0; made = none; refused = none; file = file }

-- the bytes of 1 to 65,536 sectors
pub record IsImage (bytes : List ℕ) : Type 0 where
  pub some : 0 < length bytes
  pub whole : length bytes % 512 ≡ 0
  pub bounded : length bytes ≤ 65536 * 512

-- a call of this kind that happened, and changed nothing
abbrev pub called : Copied → MediumFault → Copied
called m kind = record m { calls = m.calls + 1; made = one_more m.made kind }

-- a call of this kind that was refused, and changed nothing
abbrev pub refused : Copied → MediumFault → Copied
refused m kind = record (called m kind) { refused = one_more m.refused kind }

-- a flush that happened: what the file was asked for last, and did, is to make all durable
abbrev pub flushed : Copied → Copied
flushed m = record (called m Flush) { file = answered true Sync m.file }

-- a flush that the file refused
abbrev pub unflushed : Copied → Copied
unflushed m = record (refused m Flush) { file = answered false Sync m.file }

-- a write that happened: exactly this block was put to its place in the file, and into the copy
pub record IsWritten (s : ℕ) (block : List ℕ) (old new : Copied) : Type 0 where
  pub sectors : Holds s block (sector_of old.bytes) (sector_of new.bytes)
  pub length_stays : length new.bytes ≡ length old.bytes
  pub calls_are : new.calls ≡ old.calls + 1
  pub made_is : new.made ≡ one_more old.made Write
  pub refused_stay : new.refused ≡ old.refused
  pub put : IsPut (512 * s) block old.file new.file

-- A write that the file refused: the copy is as it was, and of the file, which was asked for writes
-- to this sector alone, what that holds may have changed.
pub record IsNotWritten (s : ℕ) (old new : Copied) : Type 0 where
  pub is : new ≡ record (refused old Write) { file = new.file }
  pub put : MayPut (512 * s) 512 old.file new.file

-- the file holds what reads give, and no more
pub record IsCopy (m : Copied) : Type 0 where
  pub size : m.file.size ≡ length m.bytes
  pub bytes_are : HoldsFirst m.bytes m.file

-- the second comes after the first, by calls of a medium alone
pub record ComesAfter (old new : Copied) : Type 0 where
  pub path_stays : new.file.path ≡ old.file.path
  pub length_stays : length new.bytes ≡ length old.bytes
  pub later : old.calls ≤ new.calls
  pub failures_stay : of_all old.refused ≤ of_all new.refused
  pub writes_stay : old.refused.writes ≤ new.refused.writes
  -- the file stays a copy as long as no write is refused
  pub copy_stays : IsCopy old → new.refused.writes ≡ old.refused.writes → IsCopy new
