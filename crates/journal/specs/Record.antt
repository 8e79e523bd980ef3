-- Records of blocks, what their sectors are made from, and arrays with records laid over them.
use Rattle.std.specs.Prelude.{ℕ, List, map, ◌≡◌, ◌≤◌, ◌<◌, ◌+◌, ◌*◌, [], ◌∷◌, get_or, slice_range}
use Rattle.std.specs.Prelude.{if◌then◌else◌, ◌==◌, ◌++◌, take, drop, Option, Some, None, Result}
use Rattle.std.specs.Prelude.{◌-◌, ◌^◌, length, All}
use Rattle.medium.specs.{Medium.{Image, State, Passes, LooksOnly}, Moments.IsQuiet}
use Rattle.medium.specs.declared.fault.MediumFault.{MediumFault, TheVariants.Read}
use Rattle.logical_blocks.specs.Blocks.{Array}
use Rattle.journal.specs.{Places.Shape, declared.log_format.LogFormat.{LogFormat, TheVariants.One}}
use Rattle.journal.specs.{declared.log_format.LogFormat.TheVariants.Two, Sectors.IsRising}

-- a block's number and its bytes
abbrev pub Entry : Type 0
Entry = ℕ × List ℕ

-- the block numbers of a record
abbrev pub numbers_of : List Entry → List ℕ
numbers_of entries = map (λ e. e.0) entries

-- ---- records of blocks, and arrays with records laid over them

-- the block of this number of a record
abbrev pub block_of : List Entry → ℕ → List ℕ
block_of entries i = (get_or entries i (0, [])).1

-- each number with its 512 bytes, of which the first are the i-th
abbrev pub entries_from : ℕ → List ℕ → List ℕ → List Entry
entries_from i [] bytes = []
entries_from i (b ∷ numbers) bytes =
    (b, slice_range bytes (512 * i) (512 * i + 512)) ∷ entries_from (i + 1) numbers bytes

-- the blocks with these numbers, whose bytes stand one after the other
abbrev pub entries_of : List ℕ → List ℕ → List Entry
entries_of numbers bytes = entries_from 0 numbers bytes

-- the array with these blocks in place of its own
abbrev pub with_blocks : List Entry → Array → Array
with_blocks [] array b = array b
with_blocks (e ∷ entries) array b = if e.0 == b then e.1 else with_blocks entries array b

-- the array with the blocks of these records laid over it, in order
abbrev pub with_records : List (List Entry) → Array → Array
with_records [] array b = array b
with_records (entries ∷ records) array b = with_records records (with_blocks entries array) b

-- the blocks at home
abbrev pub home_of : Shape → Image → Array
home_of shape image b = image (shape.home + b)

-- laying these records over an array leaves nothing of its block b
abbrev pub Hides : List (List Entry) → ℕ → Type 0
Hides records b = (a c : Array) → with_records records a b ≡ with_records records c b

-- both images have the same bytes from this sector up to that one
abbrev pub Agree : ℕ → ℕ → Image → Image → Type 0
Agree from end a b = (x : ℕ) → from ≤ x → x < end → a x ≡ b x

-- ---- the copies of blocks in the log

-- these bytes, with others in place of the first ones
abbrev pub begun_with : Option (List ℕ) → List ℕ → List ℕ
begun_with None bytes = bytes
begun_with (Some first) bytes = first ++ drop 8 bytes

-- The first bytes of the i-th block that its data place does not have. In format 2 the stamp of the
-- record stands there.
abbrev pub first_of : LogFormat → List Entry → ℕ → Option (List ℕ)
first_of One entries i = None
first_of Two entries i = Some (take 8 (block_of entries i))

-- one read, and of such a sector
pub record ReadsOne {M : Type 0} (state : M → State) (Follows : M → M → Type 0)
    (IsRead : ℕ → Type 0) (old new : M) (result : Result (Unit {0}) MediumFault) : Type 0 where
  pub passes : Passes Read result (state old) (state new)
  pub quiet : IsQuiet (state old) (state new)
  pub follows : Follows old new
  pub looks : LooksOnly IsRead (state old) (state new)

-- part p of a record with this stamp and these blocks can be written, where a record has at
-- most `limit` blocks, and as many such parts as `parts` tells of their number
pub record CanWrite (parts : ℕ → ℕ) (limit stamp : ℕ) (numbers bytes : List ℕ) (p : ℕ)
    : Type 0 where
  pub least : 1 ≤ stamp
  pub most : stamp < 2 ^ 63 - 1
  pub some : 1 ≤ length numbers
  pub few : length numbers ≤ limit
  pub rising : IsRising numbers
  pub small : All (λ b. b < 2 ^ 31) numbers
  pub size : length bytes ≡ 512 * length numbers
  pub inside : p < parts (length numbers)

-- these are the stamp, the count, the index and the entries of a descriptor of format 2
pub record Describes (stamp : ℕ) (numbers bytes : List ℕ) (index its_stamp its_count its_index : ℕ)
    (its_numbers : List ℕ) (its_firsts : List (List ℕ)) : Type 0 where
  pub stamp_is : its_stamp ≡ stamp
  pub count : its_count ≡ length numbers
  pub index_is : its_index ≡ index
  pub numbers_are : its_numbers ≡ take 30 (drop (30 * index) numbers)
  pub firsts : (i : ℕ) → i < length its_numbers → get_or its_firsts i []
      ≡ slice_range bytes (512 * (30 * index + i)) (512 * (30 * index + i) + 8)
