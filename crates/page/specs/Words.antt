-- What the bytes of a sector say, as eight numbers.
use Rattle.std.specs.Prelude.{◌≡◌, ◌⊎◌, ℕ, List, [], ◌∷◌, length, slice_index}
use Rattle.byteorder.specs.Endian.{little_number}
use Rattle.journal.specs.{Places.{Shape, new_shape}, Format2.{IsDescriptorTwo, IsCommitTwo}}
use Rattle.journal.specs.Sectors.{IsSuper, IsHead, IsDescriptor, IsCommit, version_of}
use Rattle.journal.specs.declared.log_format.LogFormat.{LogFormat}
use Rattle.journal.specs.declared.log_format.LogFormat.TheVariants.{One, Two}
use Rattle.page.specs.Roles.{part_of, role_of}
use Rattle.page.specs.declared.sectors.Part.{Part}
use Rattle.page.specs.declared.sectors.Part.TheVariants.{Descriptor, Data, Commit}
use Rattle.page.specs.declared.sectors.Role.{Role}
use Rattle.page.specs.declared.sectors.Role.TheVariants.{None, Head, Log, Home}
use Rattle.page.specs.declared.sectors.Role.TheVariants as role

-- of a sector of this slot and place that does not spell what it should
abbrev pub says_none : ℕ → ℕ → List ℕ
says_none slot place = slot ∷ place ∷ 0 ∷ 0 ∷ 0 ∷ 0 ∷ 0 ∷ 0 ∷ []

-- the sizes of a super
abbrev pub SaysSuper : List ℕ → List ℕ → Type 0
SaysSuper bytes words = ((shape : Shape) × IsSuper shape bytes
    × (words ≡ 0 ∷ 0 ∷ 1 ∷ shape.blocks ∷ shape.slots ∷ shape.home ∷ 0 ∷ 0 ∷ []))
    ⊎ (((shape : Shape) → ¬ IsSuper shape bytes) × (words ≡ says_none 0 0))

-- the stamp of a head
abbrev pub SaysHead : List ℕ → List ℕ → Type 0
SaysHead bytes words = ((stamp : ℕ) × IsHead stamp bytes
    × (words ≡ 0 ∷ 0 ∷ 1 ∷ stamp ∷ 0 ∷ 0 ∷ 0 ∷ 0 ∷ []))
    ⊎ (((stamp : ℕ) → ¬ IsHead stamp bytes) × (words ≡ says_none 0 0))

-- the stamp of a descriptor, how many blocks it is told for, and the first three that it names
abbrev pub named : ℕ → ℕ → ℕ → ℕ → List ℕ → List ℕ
named slot place stamp count numbers = slot ∷ place ∷ 1 ∷ stamp ∷ count
    ∷ slice_index numbers 0 ∷ slice_index numbers 1 ∷ slice_index numbers 2 ∷ []

abbrev pub SaysDescriptor : LogFormat → ℕ → ℕ → List ℕ → List ℕ → Type 0
SaysDescriptor One slot place bytes words =
    ((stamp : ℕ) × (numbers : List ℕ) × IsDescriptor stamp numbers bytes
    × (words ≡ named slot place stamp (length numbers) numbers))
    ⊎ (((stamp : ℕ) (numbers : List ℕ) → ¬ IsDescriptor stamp numbers bytes)
    × (words ≡ says_none slot place))
SaysDescriptor Two slot place bytes words =
    ((stamp count j : ℕ) × (numbers : List ℕ) × (firsts : List (List ℕ))
    × IsDescriptorTwo stamp count j numbers firsts bytes
    × (words ≡ named slot place stamp count numbers))
    ⊎ (((stamp count j : ℕ) (numbers : List ℕ) (firsts : List (List ℕ))
    → ¬ IsDescriptorTwo stamp count j numbers firsts bytes)
    × (words ≡ says_none slot place))

-- these are the bytes of a commit
abbrev pub IsCommitOf : LogFormat → ℕ → ℕ → List ℕ → Type 0
IsCommitOf One stamp count bytes = IsCommit stamp count bytes
IsCommitOf Two stamp count bytes = IsCommitTwo stamp count bytes

-- its stamp, and how many blocks its record has
abbrev pub SaysCommit : LogFormat → ℕ → List ℕ → List ℕ → Type 0
SaysCommit format slot bytes words =
    ((stamp count : ℕ) × IsCommitOf format stamp count bytes
    × (words ≡ slot ∷ 0 ∷ 1 ∷ stamp ∷ count ∷ 0 ∷ 0 ∷ 0 ∷ []))
    ⊎ (((stamp count : ℕ) → ¬ IsCommitOf format stamp count bytes)
    × (words ≡ says_none slot 0))

-- in format 2, the stamp in the first 8 bytes of a data place
abbrev pub stamp_in : LogFormat → List ℕ → ℕ
stamp_in One bytes = 0
stamp_in Two bytes = little_number 8 bytes

-- of a sector of a slot, the slot and the place in it first
abbrev pub SaysPart : LogFormat → ℕ → Part → List ℕ → List ℕ → Type 0
SaysPart format slot (Descriptor j) bytes words = SaysDescriptor format slot j bytes words
SaysPart format slot (Data i) bytes words =
    words ≡ slot ∷ i ∷ 1 ∷ stamp_in format bytes ∷ 0 ∷ 0 ∷ 0 ∷ 0 ∷ []
SaysPart format slot Commit bytes words = SaysCommit format slot bytes words

abbrev pub SaysRole : LogFormat → Role → List ℕ → List ℕ → Type 0
SaysRole format None bytes words = words ≡ says_none 0 0
SaysRole format role.Super bytes words = SaysSuper bytes words
SaysRole format Head bytes words = SaysHead bytes words
SaysRole format (Log slot number) bytes words =
    SaysPart format slot (part_of format number) bytes words
SaysRole format (Home block) bytes words = words ≡ 0 ∷ 0 ∷ 1 ∷ block ∷ 0 ∷ 0 ∷ 0 ∷ 0 ∷ []

-- the words are what these bytes would say in this sector of an image
abbrev pub Says : Shape → ℕ → List ℕ → List ℕ → Type 0
Says shape sector bytes words = SaysRole shape.format (role_of shape sector) bytes words

-- so they are of an image of these sizes
pub record TellsWords (format slots blocks sector : ℕ) (bytes words : List ℕ) : Type 0 where
  pub kind : LogFormat
  pub version : format ≡ version_of kind
  pub says : Says (new_shape kind blocks slots) sector bytes words
