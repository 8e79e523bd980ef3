-- What the sectors of a record of format 2 are, where they stand, and the layout that they make.
use Rattle.std.specs.Prelude.{◌≡◌, ◌≤◌, ◌<◌, ℕ, ◌+◌, ◌*◌, ◌-◌, ◌/◌, ◌^◌, min, List, ◌++◌, length}
use Rattle.std.specs.Prelude.{take, drop, codes, All, map, zip, flat_map, ◌%◌, [], ◌∷◌, slice_range}
use Rattle.std.specs.List.{range_with_len}
use Rattle.byteorder.specs.Endian.{little_bytes}
use Rattle.journal.specs.Sectors.{mark, padded, IsRising, IsCommitOf, spelling, number_in}
use Rattle.journal.specs.{Record.{Entry, numbers_of, block_of}, Layout.{Layout, by_part}}
use Rattle.medium.specs.Medium.{Image}

abbrev pub descriptor_mark : ℕ
descriptor_mark = mark (codes "RDDESCR2")

abbrev pub commit_mark : ℕ
commit_mark = mark (codes "RDCOMMT2")

-- a block's number and its first 8 bytes
unfoldable pub entry_bytes : Entry → List ℕ
entry_bytes e = little_bytes 8 e.0 ++ take 8 e.1

-- how many descriptors a record of n blocks has
abbrev pub descriptors_of : ℕ → ℕ
descriptors_of n = (n + 29) / 30

-- the bytes of a data place
unfoldable pub place_bytes : ℕ → List ℕ → List ℕ
place_bytes stamp block = little_bytes 8 stamp ++ drop 8 block

-- the first 8 bytes of each block
abbrev pub firsts_of : List Entry → List (List ℕ)
firsts_of entries = map (λ e. take 8 e.1) entries

-- the entries of descriptor j, which has 30 of them, or those that are left
abbrev pub chunk_of : List Entry → ℕ → List Entry
chunk_of entries j = take 30 (drop (30 * j) entries)

-- how many entries descriptor j has in a record of count blocks
abbrev pub entries_here : ℕ → ℕ → ℕ
entries_here count j = min 30 (count - 30 * j)

-- What descriptor j of a record of count blocks may hold: the numbers of its blocks, which rise,
-- and the first 8 bytes of each.
pub record AreEntriesTwo (count j : ℕ) (numbers : List ℕ) (firsts : List (List ℕ)) : Type 0 where
  pub few : count ≤ 240
  pub used : 30 * j < count
  pub many : length numbers ≡ entries_here count j
  pub each : length firsts ≡ length numbers
  pub rising : IsRising numbers
  pub small : All (λ b. b < 2 ^ 31) numbers
  pub sized : All (λ first. length first ≡ 8) firsts

-- the header of a descriptor, and the entries of these block numbers and first bytes
abbrev pub spelled_two : ℕ → ℕ → ℕ → List ℕ → List (List ℕ) → List ℕ
spelled_two stamp count j numbers firsts =
    padded (little_bytes 8 descriptor_mark ++ (little_bytes 8 stamp ++ (little_bytes 8 count
    ++ (little_bytes 8 j ++ flat_map entry_bytes (zip numbers firsts)))))

-- the bytes of descriptor j of a record
abbrev pub descriptor_bytes : ℕ → List Entry → ℕ → List ℕ
descriptor_bytes stamp entries j =
    spelled_two stamp (length entries) j (numbers_of (chunk_of entries j))
    (firsts_of (chunk_of entries j))

-- the bytes of descriptor j of a record of count blocks, with these block numbers and first bytes
pub record IsDescriptorTwo (stamp count j : ℕ) (numbers : List ℕ) (firsts : List (List ℕ))
    (bytes : List ℕ) : Type 0 where
  pub spelled : bytes ≡ spelled_two stamp count j numbers firsts
  pub least : 1 ≤ stamp
  pub most : stamp < 2 ^ 63 - 1
  pub entries : AreEntriesTwo count j numbers firsts

-- the bytes of a commit of a record of count blocks
abbrev pub IsCommitTwo : ℕ → ℕ → List ℕ → Type 0
IsCommitTwo stamp count bytes = IsCommitOf commit_mark 240 stamp count bytes

-- the first sector of a slot, which holds the first descriptor
abbrev pub place_of : ℕ → ℕ
place_of slot = 2 + 249 * slot

-- the sector of a slot that holds descriptor j
abbrev pub descriptor_place : ℕ → ℕ → ℕ
descriptor_place slot j = 2 + 249 * slot + j

-- the sector of a slot that holds the i-th block, but for its first 8 bytes
abbrev pub data_place : ℕ → ℕ → ℕ
data_place slot i = 2 + 249 * slot + (8 + i)

-- the last sector of a slot, which holds the commit
abbrev pub commit_place : ℕ → ℕ
commit_place slot = 2 + 249 * slot + 248

-- At this offset of a slot these bytes carry this stamp: they spell a descriptor or a commit, or
-- are those of a data place, which carries whatever number it begins with.
pub record Carries2 (o stamp : ℕ) (bytes : List ℕ) : Type 0 where
  pub most : stamp < 2 ^ 64
  pub descriptor : o < 8 → (count : ℕ) × (numbers : List ℕ) × (firsts : List (List ℕ))
      × IsDescriptorTwo stamp count o numbers firsts bytes
  pub place : 8 ≤ o → o < 248 → (block : List ℕ) × (bytes ≡ place_bytes stamp block)
  pub commit : 248 ≤ o → (count : ℕ) × IsCommitTwo stamp count bytes

-- the i-th entry of the record that may stand in the slot from this sector on
abbrev pub entry_in : Image → ℕ → ℕ → Entry
entry_in image at i = (
  number_in (image (at + i / 30)) (4 + 2 * (i % 30)),
  slice_range (image (at + i / 30)) (40 + 16 * (i % 30)) (40 + 16 * (i % 30) + 8)
      ++ drop 8 (image (at + (8 + i))),
)

-- count entries of it
abbrev pub entries_at : Image → ℕ → ℕ → List Entry
entries_at image at count = map (entry_in image at) (range_with_len 0 count)

-- the only record that may be whole there
abbrev pub record_in : Image → ℕ → List Entry
record_in image at = entries_at image at (number_in (image (at + 248)) 2)

abbrev pub format2 : Layout
format2 = record {
  slot_sectors = 249;
  most = 240;
  parts = λ n. descriptors_of n + n + 1;
  before_barrier = λ n. 0;
  offset = λ n. by_part (λ i. i) (λ i. 8 + i) 248 (descriptors_of n) n;
  part = λ stamp entries.
      by_part (descriptor_bytes stamp entries) (λ i. place_bytes stamp (block_of entries i))
      (spelling (commit_mark ∷ stamp ∷ length entries ∷ [])) (descriptors_of (length entries))
      (length entries);
  carries = Carries2;
  read = record_in;
}
