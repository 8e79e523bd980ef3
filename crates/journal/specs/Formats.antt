-- Format 1 as a layout, whole records of either format in an image, and the shape of a super.
use Rattle.std.specs.{Prelude.{◌<◌, ◌≤◌, ℕ, ◌+◌, List, [], ◌∷◌, length, map}, List.range_with_len}
use Rattle.medium.specs.Medium.{Image}
use Rattle.journal.specs.Sectors.{spelling, number_in, descriptor_mark, commit_mark, IsDescriptor}
use Rattle.journal.specs.{Sectors.IsCommit, Record.{Entry, numbers_of, block_of}, Layout.Layout}
use Rattle.journal.specs.{Layout.{by_part, IsWholeIn, CarriesBelowIn}, Places.Shape}
use Rattle.journal.specs.declared.log_format.LogFormat.{LogFormat, TheVariants.{One, Two}}
use Rattle.journal.specs.{declared.super_sector.Super.Super, Format2.format2}

-- at this offset of a slot these bytes carry this stamp: data places carry none
pub record Carries1 (o stamp : ℕ) (bytes : List ℕ) : Type 0 where
  pub descriptor : o < 1 → (numbers : List ℕ) × IsDescriptor stamp numbers bytes
  pub place : 1 ≤ o → 49 ≤ o
  pub commit : 49 ≤ o → (count : ℕ) × IsCommit stamp count bytes

-- the i-th entry of the record that may stand in the slot from this sector on
abbrev pub entry_in : Image → ℕ → ℕ → Entry
entry_in image at i = (number_in (image at) (3 + i), image (at + 1 + i))

-- the only record that may be whole there
abbrev pub record_in : Image → ℕ → List Entry
record_in image at = map (entry_in image at) (range_with_len 0 (number_in (image at) 2))

abbrev pub format1 : Layout
format1 = record {
  slot_sectors = 50;
  most = 48;
  parts = λ n. n + 2;
  before_barrier = λ n. n + 1;
  offset = by_part (λ i. i) (λ i. 1 + i) 49 1;
  part = λ stamp entries.
      by_part
      (λ i. spelling (descriptor_mark ∷ stamp ∷ length (numbers_of entries) ∷ numbers_of entries))
      (block_of entries) (spelling (commit_mark ∷ stamp ∷ length entries ∷ [])) 1 (length entries);
  carries = Carries1;
  read = record_in;
}

-- how records lie in the slots of a log of this format
abbrev pub layout_of : LogFormat → Layout
layout_of One = format1
layout_of Two = format2

-- the record of this stamp is whole in this image, with these blocks
abbrev pub IsWhole : Shape → Image → ℕ → List Entry → Type 0
IsWhole shape image stamp entries = IsWholeIn (layout_of shape.format) shape image stamp entries

-- the record of this stamp is whole in this image
abbrev pub HasWhole : Shape → Image → ℕ → Type 0
HasWhole shape image stamp = (entries : List Entry) × IsWhole shape image stamp entries

-- no sector of the log carries this stamp or a later one
abbrev pub CarriesBelow : Shape → Image → ℕ → Type 0
CarriesBelow shape image end = CarriesBelowIn (layout_of shape.format) shape image end

-- ---- the values that sectors spell, as contracts see them

-- the shape of a medium with this super
abbrev pub shape_of : Super → Shape
shape_of sizes = record {
  format = sizes.format;
  blocks = sizes.blocks;
  slots = sizes.slots;
  home = sizes.home;
}
