-- A record under way: what its medium holds, and what a cut may leave.
use Rattle.std.specs.Prelude.{◌≡◌, ◌⊎◌, ◌<◌, ◌≤◌, ℕ, ◌+◌, ◌*◌, List, [], ◌∷◌, ◌++◌, length, get_or}
use Rattle.std.specs.Prelude.{drop}
use Rattle.medium.specs.Medium.{Image}
use Rattle.logical_blocks.specs.Blocks.{Array}
use Rattle.journal.specs.{Places.Shape, Record.{Entry, with_blocks}}
use Rattle.journal.specs.Layout.{Layout, KeepsIn, LoggedIn, RestsIn, IsFree, part_at, IsRecordOf}

-- what a log has
pub record View : Type 0 where
  pub shape : Shape
  pub head : ℕ
  -- the durable records, the oldest first
  pub records : List (List Entry)
  -- the record under way
  pub under_way : List Entry
  -- the array that the durable records and the blocks at home make
  pub array : Array

-- the stamp of the record under way
abbrev pub stamp_of : View → ℕ
stamp_of v = v.head + length v.records

-- the oldest durable record is retired
abbrev pub with_less : View → View
with_less v = record v { head = v.head + 1; records = drop 1 v.records }

-- the record under way is durable
abbrev pub with_record : View → View
with_record v =
    record v {
      records = v.records ++ v.under_way ∷ [];
      under_way = [];
      array = with_blocks v.under_way v.array;
    }

-- the image has the super, the head and the durable records of this view, and home makes its array
-- with them
abbrev pub KeepsView : Layout → View → Image → Type 0
KeepsView L v image = KeepsIn L v.shape image v.head v.records v.array

-- the image stands for the view's array: its records, and no more, follow the head, and its log
-- carries no stamp from the next on
abbrev pub Found : Layout → View → Image → Type 0
Found L v image = LoggedIn L v.shape image v.head v.records v.array

-- the view's records are there, none is under way, and the log carries no stamp from the next one
-- on
abbrev pub Resting : Layout → View → Image → Type 0
Resting L v image = RestsIn L v.shape image v.head v.records v.array

-- What a cut may leave where the first `so_far` parts of a record are written: that it is not
-- whole, or, where these are all, that it is, with its blocks.
abbrev pub MayLeave : Layout → View → ℕ → Image → Type 0
MayLeave L v so_far image = Found L v image
    ⊎ ((L.parts (length v.under_way) ≤ so_far) × Found L (with_record v) image)

module _ (L : Layout) (shape : Shape) (stamp : ℕ) (entries : List Entry) where
  -- the first `count` parts of this record are there
  abbrev pub HasParts : ℕ → Image → Type 0
  HasParts count image = (p : ℕ) → p < count → p < L.parts (length entries)
      → image (part_at L shape stamp (length entries) p) ≡ L.part stamp entries p

  -- this sector is of a part of this record, one below `so_far`, and has its bytes
  pub record IsPart (so_far sector : ℕ) (bytes : List ℕ) : Type 0 where
    pub part : ℕ
    pub early : part < so_far
    pub inside : part < L.parts (length entries)
    pub place_is : sector ≡ part_at L shape stamp (length entries) part
    pub there : bytes ≡ L.part stamp entries part

-- the durable records are there, and the first `count` parts of the record under way
pub record Stored (L : Layout) (v : View) (count : ℕ) (image : Image) : Type 0 where
  pub keeps : KeepsView L v image
  pub parts : HasParts L v.shape (stamp_of v) v.under_way count image

-- Parts of the record under way below `durable` are there, and others below `so_far` may be. No
-- other sector of the log carries its stamp or a later one.
pub record Guarded (L : Layout) (v : View) (so_far durable : ℕ) (image : Image) : Type 0 where
  pub stored : Stored L v durable image
  pub carries : (slot o : ℕ) → slot < v.shape.slots → o < L.slot_sectors
      → IsPart L v.shape (stamp_of v) v.under_way so_far (2 + L.slot_sectors * slot + o)
      (image (2 + L.slot_sectors * slot + o))
      ⊎ IsFree L (stamp_of v) o (image (2 + L.slot_sectors * slot + o))

-- a log of this view has room for one record more, the one under way
pub record HasSlots (L : Layout) (v : View) : Type 0 where
  pub some : 1 ≤ v.shape.slots
  pub room : length v.records < v.shape.slots
  pub behind : 2 + L.slot_sectors * v.shape.slots ≤ v.shape.home
  pub under_way : IsRecordOf L v.shape.blocks (stamp_of v) v.under_way

-- the blocks of the oldest record are at home
abbrev pub IsHomed : View → Image → Type 0
IsHomed v image = (i : ℕ) → i < length (get_or v.records 0 [])
    → image (v.shape.home + (get_or (get_or v.records 0 []) i (0, [])).0)
    ≡ (get_or (get_or v.records 0 []) i (0, [])).1
