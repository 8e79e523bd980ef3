-- A medium in memory: what its sectors hold, and what a cut may leave of them.
use Rattle.std.specs.Prelude.{◌≡◌, ◌⊎◌, ℕ, ◌+◌, ◌-◌, ◌/◌, ◌%◌, ◌^◌, ◌<◌, ◌≤◌, min, Bool, true}
use Rattle.std.specs.Prelude.{false, Some, List, [], ◌∷◌, ◌++◌, length, if◌then◌else◌, nat_lt}
use Rattle.medium.specs.Medium.{State, Image, Sets, CutLeaves}
use Rattle.medium.specs.Power as power
use Rattle.medium.specs.Power.{admits, powered}
use Rattle.medium.specs.Tally.{Tally, of_kind, of_all, one_more}
use Rattle.medium.specs.Writes.{sector_of, applied, IsWritten, are_whole, kept_writes, LieWithin}
use Rattle.medium.specs.declared.fault.MediumFault.{MediumFault}
use Rattle.medium.specs.declared.fault.MediumFault.TheVariants.{Read, Write, Flush}
use Rattle.medium.specs.declared.power.Power.{Power}
use Rattle.medium.specs.declared.unflushed.UnflushedWrite.{UnflushedWrite}

pub record Sim : Type 0 where
  -- the bytes of all sectors, without the unflushed writes
  pub flushed : List ℕ
  -- the writes since, in order of issue
  pub unflushed : List UnflushedWrite
  -- how many of them there is room for
  pub room : ℕ
  pub power : Power
  -- how many flushes happened, up to the greatest number
  pub flushes : ℕ
  pub calls : ℕ
  -- how many calls of each kind, and how many of them were refused
  pub made : Tally
  pub refused : Tally
  -- how many writes came while there was no room for one
  pub without_room : ℕ

-- How many sectors there are. A model with an unflushed write of another length is given none, so
-- that the law on lengths holds of every model; no real medium is such.
abbrev pub size_of : Sim → ℕ
size_of m = if are_whole m.unflushed then length m.flushed / 512 else 0

-- what a read gives
abbrev pub content_of : Sim → Image
content_of m = applied m.unflushed (sector_of m.flushed)

-- a cut leaves a sector as it was flushed, or as one of the writes since would have it
abbrev pub sets_of : Sim → Sets
sets_of m s c = (c ≡ sector_of m.flushed s) ⊎ IsWritten m.unflushed s c

-- earlier moments are answered with the sets of this one
abbrev pub state_of : Sim → State
state_of m = record {
  size = size_of m;
  content = content_of m;
  may_leave = sets_of m;
  left_since = λ t image. CutLeaves (sets_of m) image;
  calls = m.calls;
  made = of_kind m.made;
  failures = of_all m.refused;
  refused = of_kind m.refused;
  looked = [];
}

-- there is room for one more write
abbrev pub fits : Sim → Bool
fits m = nat_lt (length m.unflushed) m.room

-- a call of this kind is counted, and moves the fuse, the failure and the power
abbrev pub after_call : Sim → MediumFault → Bool → Sim
after_call m kind room = record m {
  power = power.after_call m.power kind room;
  calls = m.calls + 1;
  made = one_more m.made kind;
  refused = if admits m.power kind room then m.refused else one_more m.refused kind;
  without_room = if room then m.without_room else m.without_room + 1;
}

-- it is told whether a call of this kind happens, and the call is counted
pub record IsAdmitted (kind : MediumFault) (room told : Bool) (old new : Sim) : Type 0 where
  pub happens : told ≡ admits old.power kind room
  pub after : new ≡ after_call old kind room

-- a write that happens is the last of the unflushed ones
abbrev pub after_write : Sim → ℕ → List ℕ → Sim
after_write m s bytes =
    if admits m.power Write (fits m)
    then record (after_call m Write (fits m)) {
      unflushed = m.unflushed
          ++ record { sector = s; block = bytes } ∷ [];
    }
    else after_call m Write (fits m)

-- A flush that happens: each sector is flushed as a read gives it, and nothing is unflushed.
pub record IsFlush (old new : Sim) : Type 0 where
  pub image : (s : ℕ) → sector_of new.flushed s ≡ content_of old s
  pub size_stays : length new.flushed ≡ length old.flushed
  pub none : new.unflushed ≡ []
  pub flushes_are : new.flushes ≡ min (2 ^ 64 - 1) (old.flushes + 1)
  pub room_stays : new.room ≡ old.room
  pub power_is : new.power ≡ power.after_call old.power Flush true
  pub calls_are : new.calls ≡ old.calls + 1
  pub made_is : new.made ≡ one_more old.made Flush
  pub refused_stay : new.refused ≡ old.refused
  pub without_room_stays : new.without_room ≡ old.without_room

-- A cut: the kept writes are applied in order of issue, and the others are lost.
pub record IsCut (keep : ℕ → Bool) (old new : Sim) : Type 0 where
  pub image : (s : ℕ) → sector_of new.flushed s
      ≡ applied (kept_writes keep 0 old.unflushed) (sector_of old.flushed) s
  pub size_stays : length new.flushed ≡ length old.flushed
  pub none : new.unflushed ≡ []
  pub power_on : new.power ≡ powered
  pub room_stays : new.room ≡ old.room
  pub flushes_stay : new.flushes ≡ old.flushes
  pub calls_stay : new.calls ≡ old.calls
  pub made_stays : new.made ≡ old.made
  pub refused_stay : new.refused ≡ old.refused
  pub without_room_stays : new.without_room ≡ old.without_room

-- a fuse of `writes` writes and flushes is armed, and nothing else has changed
abbrev pub IsFused : ℕ → Sim → Sim → Type 0
IsFused writes old new = new ≡ record old { power = record old.power { fuse = Some writes } }

-- a failure of the call with this number from now is armed, and nothing else has changed
abbrev pub IsFailing : ℕ → Sim → Sim → Type 0
IsFailing call old new = new ≡ record old { power = record old.power { fail = Some call } }

-- one call of a medium
pub data SimCall : Type 0 where
  reading : SimCall
  -- a sector by its number, and its bytes
  writing : ℕ → List ℕ → SimCall
  flushing : SimCall

-- a flush that happens, or one that is refused
abbrev pub Flushes : Bool → Sim → Sim → Type 0
Flushes true old new = IsFlush old new
Flushes false old new = new ≡ after_call old Flush true

-- what one call makes of a medium
abbrev pub Makes : SimCall → Sim → Sim → Type 0
Makes reading old new = new ≡ after_call old Read true
Makes (writing s bytes) old new = new ≡ after_write old s bytes
Makes flushing old new = Flushes (admits old.power Flush true) old new

-- what some calls make of it, one after the other
abbrev pub MakeAll : List SimCall → Sim → Sim → Type 0
MakeAll [] old new = new ≡ old
MakeAll (call ∷ calls) old new = (mid : Sim) × Makes call old mid × MakeAll calls mid new

-- The second comes after the first, by calls of a medium alone. So nothing arms a fuse or a
-- failure: a fuse falls with the writes and flushes that happen, a failure counts down with the
-- calls, and a call is refused only where one of them says so or there is no room for a write.
pub record ComesAfter (old new : Sim) : Type 0 where
  pub calls : List SimCall
  pub made : MakeAll calls old new

-- what holds of every medium in memory
pub record IsWellFormed (m : Sim) : Type 0 where
  pub some : 0 < length m.flushed
  pub whole : length m.flushed % 512 ≡ 0
  pub within : LieWithin (length m.flushed) m.unflushed
  pub whole_writes : are_whole m.unflushed ≡ true
  pub held : length m.unflushed ≤ m.room
