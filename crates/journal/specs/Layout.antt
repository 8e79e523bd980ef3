-- How records lie in a log, whatever the format, and what a ring of records asks of that.
use Rattle.std.specs.Prelude.{◌≡◌, ◌<◌, ◌≤◌, ℕ, ◌+◌, ◌*◌, ◌-◌, ◌%◌, ◌^◌, List, [], length, get_or}
use Rattle.std.specs.Prelude.{All, if◌then◌else◌, nat_lt, ◌⊎◌, replicate}
use Rattle.medium.specs.Medium.{Image}
use Rattle.logical_blocks.specs.Blocks.{Array}
use Rattle.journal.specs.{Places.Shape, Sectors.{IsSuper, IsHead, IsRising}}
use Rattle.journal.specs.Record.{Entry, numbers_of, with_records, home_of}

-- The sectors of a record are numbered in the order in which they are written, from 0 to parts n -
-- 1.
pub record Layout : Type 1 where
  -- how many sectors a slot has
  pub slot_sectors : ℕ
  -- how many blocks a record has at most
  pub most : ℕ
  -- how many sectors a record of this many blocks writes
  pub parts : ℕ → ℕ
  -- how many of them stand before its barrier, a flush behind which the others are written
  pub before_barrier : ℕ → ℕ
  -- offset n p: where in the slot part p of a record of n blocks stands
  pub offset : ℕ → ℕ → ℕ
  -- part s entries p: the bytes of part p of the record with stamp s
  pub part : ℕ → List Entry → ℕ → List ℕ
  -- carries o s bytes: at offset o of a slot these bytes carry stamp s
  pub carries : ℕ → ℕ → List ℕ → Type 0
  -- the only record that may be whole in the slot that begins at this sector
  pub read : Image → ℕ → List Entry

-- In both formats there are descriptors, from the beginning of a slot on, n data places and a
-- commit. Of part p this is what is so of descriptor p, of the i-th data place, or of the commit.
unfoldable pub by_part : {X : Type 0} → (ℕ → X) → (ℕ → X) → X → ℕ → ℕ → ℕ → X
by_part descriptor place commit descriptors n p =
    if nat_lt p descriptors then descriptor p
    else (if nat_lt p (descriptors + n) then place (p - descriptors) else commit)

-- what a record may consist of
pub record AreEntries (most blocks : ℕ) (entries : List Entry) : Type 0 where
  pub some : 1 ≤ length entries
  pub few : length entries ≤ most
  pub rising : IsRising (numbers_of entries)
  pub inside : All (λ b. b < blocks) (numbers_of entries)
  pub small : All (λ b. b < 2 ^ 31) (numbers_of entries)
  pub sized : All (λ e. length e.1 ≡ 512) entries

module _ (L : Layout) (shape : Shape) where
  -- the first sector of the slot of this stamp
  abbrev pub slot_at : ℕ → ℕ
  slot_at stamp = 2 + L.slot_sectors * (stamp % shape.slots)

  -- where part p of a record of n blocks with this stamp stands
  abbrev pub part_at : ℕ → ℕ → ℕ → ℕ
  part_at stamp n p = slot_at stamp + L.offset n p

  -- the record of this stamp is whole in this image, with these blocks: each part is at its place
  pub record IsWholeIn (image : Image) (stamp : ℕ) (entries : List Entry) : Type 0 where
    pub fit : AreEntries L.most shape.blocks entries
    pub least : 1 ≤ stamp
    pub below : stamp < 2 ^ 63 - 1
    pub there : (p : ℕ) → p < L.parts (length entries)
        → image (part_at stamp (length entries) p) ≡ L.part stamp entries p

  -- the record of this stamp is whole in this image
  abbrev pub HasWholeIn : Image → ℕ → Type 0
  HasWholeIn image stamp = (entries : List Entry) × IsWholeIn image stamp entries

  -- each sector of the log carries stamps below this one alone
  abbrev pub CarriesBelowIn : Image → ℕ → Type 0
  CarriesBelowIn image end = (slot o stamp : ℕ) → slot < shape.slots → o < L.slot_sectors
      → L.carries o stamp (image (2 + L.slot_sectors * slot + o)) → stamp < end

  -- the image has this head, these whole records from it on, and home with them laid over is this
  -- array
  pub record KeepsIn (image : Image) (head : ℕ) (records : List (List Entry)) (array : Array)
      : Type 0 where
    pub super : IsSuper shape (image 0)
    pub head_is : IsHead head (image 1)
    pub whole : (j : ℕ) → j < length records → IsWholeIn image (head + j) (get_or records j [])
    pub blocks : (b : ℕ) → b < shape.blocks → with_records records (home_of shape image) b ≡ array b

  -- The image keeps these records, the one behind them is not whole, and its log carries no stamp
  -- behind that one's.
  pub record LoggedIn (image : Image) (head : ℕ) (records : List (List Entry)) (array : Array)
      : Type 0 where
    pub keeps : KeepsIn image head records array
    pub few : length records ≤ shape.slots
    pub ends : length records < shape.slots → ¬ HasWholeIn image (head + length records)
    pub carries : CarriesBelowIn image (head + length records + 1)

  -- The image keeps these records, and its log carries no stamp from the next one on.
  pub record RestsIn (image : Image) (head : ℕ) (records : List (List Entry)) (array : Array)
      : Type 0 where
    pub keeps : KeepsIn image head records array
    pub carries : CarriesBelowIn image (head + length records)

-- at this offset these bytes carry stamps below this one alone
abbrev pub IsFree : Layout → ℕ → ℕ → List ℕ → Type 0
IsFree L stamp o bytes = (s : ℕ) → L.carries o s bytes → s < stamp

-- ---- what a ring of records asks of a layout

-- what a record with this stamp is
pub record IsRecordOf (L : Layout) (blocks stamp : ℕ) (entries : List Entry) : Type 0 where
  pub fit : AreEntries L.most blocks entries
  pub least : 1 ≤ stamp
  pub below : stamp < 2 ^ 63 - 1

pub record Laws (L : Layout) : Type 0 where
  -- the parts stand in the slot, apart from each other, the last one at its end
  pub some_parts : (n : ℕ) → 1 ≤ L.parts n
  pub inside : (n p : ℕ) → n ≤ L.most → p < L.parts n → L.offset n p < L.slot_sectors
  pub apart : (n p q : ℕ) → n ≤ L.most → p < L.parts n → q < L.parts n
      → L.offset n p ≡ L.offset n q → p ≡ q
  pub last : (n : ℕ) → L.offset n (L.parts n - 1) ≡ L.slot_sectors - 1
  -- a part carries its record's stamp, but those that are flushed before the last one is written
  -- need not
  pub carries : (blocks stamp : ℕ) (entries : List Entry) (p : ℕ)
      → IsRecordOf L blocks stamp entries → p < L.parts (length entries)
      → (p < L.before_barrier (length entries))
      ⊎ L.carries (L.offset (length entries) p) stamp (L.part stamp entries p)
  pub last_is_behind : (n : ℕ) → L.before_barrier n < L.parts n
  -- and no other
  pub one_stamp : (blocks stamp other : ℕ) (entries : List Entry) (p : ℕ)
      → IsRecordOf L blocks stamp entries → p < L.parts (length entries)
      → L.carries (L.offset (length entries) p) other (L.part stamp entries p) → other ≡ stamp
  -- the last part is that of the stamp and the count of the blocks
  pub last_part : (stamp : ℕ) (a b : List Entry) → length a ≡ length b
      → L.part stamp a (L.parts (length a) - 1) ≡ L.part stamp b (L.parts (length b) - 1)
  -- and gives this count
  pub count : (blocks stamp : ℕ) (a b : List Entry) → IsRecordOf L blocks stamp a
      → IsRecordOf L blocks stamp b
      → L.part stamp a (L.parts (length a) - 1) ≡ L.part stamp b (L.parts (length b) - 1)
      → length a ≡ length b
  -- a whole record is the one that its slot spells
  pub read : (shape : Shape) (image : Image) (stamp : ℕ) (entries : List Entry)
      → IsWholeIn L shape image stamp entries → entries ≡ L.read image (slot_at L shape stamp)
  -- a sector of zeros carries stamp 0 alone
  pub zeros : (o stamp : ℕ) → L.carries o stamp (replicate 512 0) → stamp ≡ 0
