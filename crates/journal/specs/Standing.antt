-- For what an image stands, or what is wrong with it, and that this is one, as is a sector's value.
use Rattle.std.specs.Prelude.{◌≡◌, ℕ, List, ◌≤◌, ◌<◌, ◌+◌, length, ◌⊎◌, ◌^◌}
use Rattle.journal.specs.{Places.{Shape, sectors_of}, Sectors.{IsSuper, IsHead, IsDescriptor}}
use Rattle.journal.specs.{Sectors.{IsCommit, IsSuperFault}, Format2.{IsDescriptorTwo, IsCommitTwo}}
use Rattle.journal.specs.{Record.Entry, Layout.KeepsIn, Formats.{layout_of, HasWhole, CarriesBelow}}
use Rattle.journal.specs.declared.super_fault.SuperFault.TheVariants.{Magic, Version, Rest, Sizes}
use Rattle.medium.specs.Medium.{Image}
use Rattle.logical_blocks.specs.Blocks.{Array}

-- a sector is a super, a head, or a descriptor or a commit of either format of one value only
pub record SpellsOneValue : Type 0 where
  pub super : (bytes : List ℕ) (a b : Shape) → IsSuper a bytes → IsSuper b bytes → a ≡ b
  pub head : (bytes : List ℕ) (a b : ℕ) → IsHead a bytes → IsHead b bytes → a ≡ b
  pub descriptor : (bytes : List ℕ) (a b : ℕ) (ns ms : List ℕ) → IsDescriptor a ns bytes
      → IsDescriptor b ms bytes → (a ≡ b) × (ns ≡ ms)
  pub commit : (bytes : List ℕ) (a b m n : ℕ) → IsCommit a m bytes → IsCommit b n bytes
      → (a ≡ b) × (m ≡ n)
  pub descriptor_two : (bytes : List ℕ) (a b m n i j : ℕ) (ns ms : List ℕ) (fs gs : List (List ℕ))
      → IsDescriptorTwo a m i ns fs bytes → IsDescriptorTwo b n j ms gs bytes
      → (a ≡ b) × (m ≡ n) × (i ≡ j) × (ns ≡ ms) × (fs ≡ gs)
  pub commit_two : (bytes : List ℕ) (a b m n : ℕ) → IsCommitTwo a m bytes → IsCommitTwo b n bytes
      → (a ≡ b) × (m ≡ n)

-- the image has this head, these whole records from it on, and home with them laid over is this
-- array
abbrev pub Keeps : Shape → Image → ℕ → List (List Entry) → Array → Type 0
Keeps shape image head records array =
    KeepsIn (layout_of shape.format) shape image head records array

-- count records are whole from the head on, without a gap, and at most as many as there are slots
pub record IsCount (shape : Shape) (image : Image) (head count : ℕ) : Type 0 where
  pub few : count ≤ shape.slots
  pub whole : (j : ℕ) → j < count → HasWhole shape image (head + j)
  pub ends : count < shape.slots → ¬ HasWhole shape image (head + count)

-- The image of a medium of `size` sectors stands for this array, and this is its next stamp: its
-- records are as many as follow the head without a gap, and the next stamp is the second behind.
pub record StandsFor (size : ℕ) (shape : Shape) (image : Image) (array : Array) (next : ℕ)
    : Type 0 where
  pub fits : sectors_of shape ≤ size
  pub head : ℕ
  pub records : List (List Entry)
  pub keeps : Keeps shape image head records array
  pub few : length records ≤ shape.slots
  pub ends : length records < shape.slots → ¬ HasWhole shape image (head + length records)
  pub next_is : next ≡ head + length records + 1

-- the image is ours: it stands for this array, and its log carries no stamp from the next on
pub record IsOurs (size : ℕ) (shape : Shape) (image : Image) (array : Array) (next : ℕ)
    : Type 0 where
  pub stands : StandsFor size shape image array next
  pub carries : CarriesBelow shape image next

-- the image stands for something
abbrev pub Stands : ℕ → Image → Type 0
Stands size image =
    (shape : Shape) × (array : Array) × (next : ℕ) × StandsFor size shape image array next

-- the image's super is one of this shape, for which the medium is long enough
pub record HasShape (size : ℕ) (shape : Shape) (image : Image) : Type 0 where
  pub super : IsSuper shape (image 0)
  pub fits : sectors_of shape ≤ size

-- the faults of an image, in the order in which they are found
pub data ImageFault : Type 0 where
  BadSuper : ImageFault
  BadVersion : ImageFault
  BadSize : ImageFault
  BadHead : ImageFault

-- the medium is too short for its super
abbrev pub IsTooShort : ℕ → Image → Type 0
IsTooShort size image = (shape : Shape) × IsSuper shape (image 0) × (size < sectors_of shape)

-- the image of a medium of `size` sectors has this fault, and none before it
abbrev pub HasFault : ℕ → Image → ImageFault → Type 0
HasFault size image BadSuper =
    (0 < size) × (IsSuperFault Magic (image 0) ⊎ IsSuperFault Rest (image 0))
HasFault size image BadVersion = (0 < size) × IsSuperFault Version (image 0)
HasFault size image BadSize = (size ≡ 0) ⊎ IsSuperFault Sizes (image 0) ⊎ IsTooShort size image
HasFault size image BadHead =
    (shape : Shape) × HasShape size shape image × ((stamp : ℕ) → ¬ IsHead stamp (image 1))

-- the image stands for something, but there is no stamp left for the next record
abbrev pub HasNoStampLeft : ℕ → Image → Type 0
HasNoStampLeft size image =
    (shape : Shape) × (array : Array) × (next : ℕ) × StandsFor size shape image array next
    × (2 ^ 63 ≤ next)

-- an image stands for one array at most, with one next stamp
abbrev pub StandsForOneArray : Type 0
StandsForOneArray = (size : ℕ) (image : Image) (s r : Shape) (a b : Array) (t u : ℕ)
    → StandsFor size s image a t → StandsFor size r image b u
    → (s ≡ r) × (t ≡ u) × ((x : ℕ) → x < s.blocks → a x ≡ b x)

-- an image stands for something or has one fault, and never both
pub record StandsOrHasOneFault : Type 0 where
  pub either : (size : ℕ) (image : Image)
      → Stands size image ⊎ ((fault : ImageFault) × HasFault size image fault)
  pub not_both : (size : ℕ) (image : Image) (fault : ImageFault)
      → HasFault size image fault → ¬ Stands size image
  pub one : (size : ℕ) (image : Image) (a b : ImageFault)
      → HasFault size image a → HasFault size image b → a ≡ b
