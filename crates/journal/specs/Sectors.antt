-- What the bytes of a super, a head, a descriptor and a commit are.
use Rattle.std.specs.Prelude.{◌≡◌, ◌<◌, ℕ, ◌*◌, ◌-◌, List, ◌++◌, length, replicate, drop, get_or}
use Rattle.std.specs.Prelude.{codes, flat_map, ◌≤◌, ◌^◌, [], ◌∷◌, slice_index, All, ◌⊎◌}
use Rattle.byteorder.specs.Endian.{little_bytes, little_number}
use Rattle.journal.specs.declared.log_format.LogFormat.{LogFormat}
use Rattle.journal.specs.declared.log_format.LogFormat.TheVariants.{One, Two}
use Rattle.journal.specs.{Places.{Shape, IsFirstHome}, declared.super_fault.SuperFault.SuperFault}
use Rattle.journal.specs.declared.super_fault.SuperFault.TheVariants.{Magic, Version, Rest, Sizes}

-- these bytes, and zeros behind them
unfoldable pub padded : List ℕ → List ℕ
padded bytes = bytes ++ replicate (512 - length bytes) 0

-- a sector of these numbers, eight bytes each, and zeros behind them
unfoldable pub spelling : List ℕ → List ℕ
spelling numbers = padded (flat_map (little_bytes 8) numbers)

-- the i-th number of a sector
unfoldable pub number_in : List ℕ → ℕ → ℕ
number_in bytes i = little_number 8 (drop (8 * i) bytes)

-- the first number of a sector that begins with this text of eight characters
abbrev pub mark : List ℕ → ℕ
mark text = little_number 8 text

abbrev pub super_mark : ℕ
super_mark = mark (codes "RDSUPER1")

abbrev pub head_mark : ℕ
head_mark = mark (codes "RDHEAD01")

abbrev pub descriptor_mark : ℕ
descriptor_mark = mark (codes "RDDESCR1")

abbrev pub commit_mark : ℕ
commit_mark = mark (codes "RDCOMMIT")

-- `many` items, of which the i-th is this
pub record AreItems {X : Type 0} (many : ℕ) (item : ℕ → X) (none : X) (items : List X)
    : Type 0 where
  pub count : length items ≡ many
  pub each : (i : ℕ) → i < many → get_or items i none ≡ item i

-- ---- what the bytes of a super, a head, a descriptor and a commit are

-- the version that a super has for its format
abbrev pub version_of : LogFormat → ℕ
version_of One = 1
version_of Two = 2

-- the bytes of a super: the version, the sizes, and the first sectors of log and home
pub record IsSuper (shape : Shape) (bytes : List ℕ) : Type 0 where
  pub spelled : bytes ≡ spelling
      (super_mark ∷ version_of shape.format ∷ shape.blocks ∷ shape.slots ∷ 2 ∷ shape.home ∷ [])
  pub some_blocks : 1 ≤ shape.blocks
  pub most_blocks : shape.blocks ≤ 2 ^ 31
  pub some_slots : 1 ≤ shape.slots
  pub most_slots : shape.slots ≤ 64
  pub home_is : IsFirstHome shape.format shape.slots shape.home

-- the bytes of a head, whose stamp is that of the oldest record that may be needed
pub record IsHead (stamp : ℕ) (bytes : List ℕ) : Type 0 where
  pub spelled : bytes ≡ spelling (head_mark ∷ stamp ∷ [])
  pub least : 1 ≤ stamp
  pub most : stamp < 2 ^ 63

-- each number is below those behind it
abbrev pub IsRising : List ℕ → Type 0
IsRising numbers = (i j : ℕ) → i < j → j < length numbers
    → slice_index numbers i < slice_index numbers j

-- the block numbers that a record may have: 1 to 48, which rise
pub record AreBlockNumbers (numbers : List ℕ) : Type 0 where
  pub some : 1 ≤ length numbers
  pub few : length numbers ≤ 48
  pub rising : IsRising numbers
  pub fit : All (λ b. b < 2 ^ 31) numbers

-- the bytes of a descriptor, with the block numbers of the record
pub record IsDescriptor (stamp : ℕ) (numbers bytes : List ℕ) : Type 0 where
  pub spelled : bytes ≡ spelling (descriptor_mark ∷ stamp ∷ length numbers ∷ numbers)
  pub least : 1 ≤ stamp
  pub most : stamp < 2 ^ 63 - 1
  pub block_numbers : AreBlockNumbers numbers

-- the bytes of a commit with this mark, and with the count of the record's blocks, which are
-- `limit` at most
pub record IsCommitOf (mark limit stamp count : ℕ) (bytes : List ℕ) : Type 0 where
  pub spelled : bytes ≡ spelling (mark ∷ stamp ∷ count ∷ [])
  pub least : 1 ≤ stamp
  pub most : stamp < 2 ^ 63 - 1
  pub some : 1 ≤ count
  pub few : count ≤ limit

-- the bytes of a commit of format 1
abbrev pub IsCommit : ℕ → ℕ → List ℕ → Type 0
IsCommit stamp count bytes = IsCommitOf commit_mark 48 stamp count bytes

-- ---- what is wrong with a sector that should be a super

-- it begins with the mark of a super
abbrev pub HasMagic : List ℕ → Type 0
HasMagic bytes = number_in bytes 0 ≡ super_mark

-- its version is 1 or 2
abbrev pub HasVersion : List ℕ → Type 0
HasVersion bytes = (number_in bytes 1 ≡ 1) ⊎ (number_in bytes 1 ≡ 2)

-- behind its six numbers there are zeros
abbrev pub HasZeroRest : List ℕ → Type 0
HasZeroRest bytes = drop 48 bytes ≡ replicate 464 0

-- the first fault of a sector that is no super
abbrev pub IsSuperFault : SuperFault → List ℕ → Type 0
IsSuperFault Magic bytes = ¬ HasMagic bytes
IsSuperFault Version bytes = HasMagic bytes × (¬ HasVersion bytes)
IsSuperFault Rest bytes = HasMagic bytes × HasVersion bytes × (¬ HasZeroRest bytes)
IsSuperFault Sizes bytes =
    HasMagic bytes × HasVersion bytes × HasZeroRest bytes
    × ((shape : Shape) → ¬ IsSuper shape bytes)
