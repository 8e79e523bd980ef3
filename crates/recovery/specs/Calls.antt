-- What the calls of a recovery, a migration or a format do, cost and make, and what a cut leaves.
use Rattle.std.specs.Prelude.{◌≡◌, ◌≢◌, ◌⊎◌, ℕ, ◌+◌, ◌*◌, ◌<◌, ◌≤◌, List, [], ◌∷◌, length, ◌++◌}
use Rattle.std.specs.Prelude.{slice_index, get_or, replicate, Result, Ok, OnOk, IfErr, ◌^◌, ◌-◌}
use Rattle.std.specs.{Prelude.{map, Bool, if◌then◌else◌}, List.range_with_len}
use Rattle.medium.specs.declared.medium_call.Call.{TheVariants.{Write, Flush}, Call}
use Rattle.medium.specs.{declared.fault.MediumFault.{MediumFault, TheVariants.Read}, Medium.State}
use Rattle.medium.specs.{Medium.{Image, Sets, CutLeaves, LooksOnly, Holds}, Moments.LeavesOnly}
use Rattle.medium.specs.{Moments.{SparesFrom, IsFlushed}, Performed.Performed, Sent.SendsUpTo}
use Rattle.journal.specs.declared.log_format.LogFormat.{LogFormat, TheVariants.{One, Two}}
use Rattle.journal.specs.{Record.{Entry, numbers_of, with_records, home_of}, Places.limit_of}
use Rattle.journal.specs.{Places.{slot_sectors_of, IsFirstHome}, Standing.{HasShape, IsOurs}}
use Rattle.journal.specs.{Sectors.{IsHead, IsSuper}, Format2.descriptors_of, Formats.IsWhole}
use Rattle.journal.specs.{Formats.{shape_of, CarriesBelow}, Reading.IsRefusedCall, Naming.IsToldAt}
use Rattle.logical_blocks.specs.Blocks.{Array}
use Rattle.recovery.specs.declared.format_fault.FormatFault.{FormatFault, TheVariants.BadSize}
use Rattle.recovery.specs.declared.{format_fault.FormatFault.TheVariants.Medium, found.Found.Found}
pub use Rattle.journal.specs.Places.{Shape, first_home, sectors_of}

-- no read was made, and so none refused
pub record MakesNoRead (old new : State) : Type 0 where
  pub made_stays : new.made Read ≡ old.made Read
  pub refused_stays : new.refused Read ≡ old.refused Read

-- no read was made, and so none named a sector
pub record ReadsNothing (old new : State) : Type 0 where
  pub no_read : MakesNoRead old new
  pub looked_stays : new.looked ≡ old.looked

-- The first `near` sectors are all that is read of an image but its blocks at home: the super,
-- and where that names a log, the head and the log.
pub record HoldsLog (near size : ℕ) (image : Image) : Type 0 where
  pub some : 0 < near
  pub log : (shape : Shape) → HasShape size shape image → first_home shape ≤ near

-- each read names one of these
abbrev pub LooksAtLog : State → State → Type 0
LooksAtLog old new =
    (near : ℕ) → HoldsLog near old.size old.content → LooksOnly (λ s. s < near) old new

-- no record waits: the image has this array at home and its head at this stamp, and no sector of
-- its log carries this stamp or a later one
pub record IsFresh (shape : Shape) (array : Array) (next : ℕ) (image : Image) : Type 0 where
  pub super : IsSuper shape (image 0)
  pub head : IsHead next (image 1)
  pub home : (b : ℕ) → b < shape.blocks → image (first_home shape + b) ≡ array b
  pub carries : CarriesBelow shape image next

-- what is read of an image in which no record waits: the super, the head, and the first of the slot
-- of the next record
abbrev pub IsReadOfFresh : Shape → ℕ → ℕ → Type 0
IsReadOfFresh shape next s = (s ≡ 0) ⊎ (s ≡ 1) ⊎ IsToldAt shape.format shape next s

-- where no record waits, each read names one of these
abbrev pub LooksAtFresh : State → State → Type 0
LooksAtFresh old new = (shape : Shape) (array : Array) (next : ℕ)
    → IsFresh shape array next old.content → LooksOnly (IsReadOfFresh shape next) old new

-- The medium comes after what it was, by calls alone that read nothing, of which at most `sends`
-- are writes and flushes.
pub record FollowsBy {M : Type 0} (state : M → State) (Follows : M → M → Type 0) (sends : ℕ)
    (old new : M) : Type 0 where
  pub follows : Follows old new
  pub sent : SendsUpTo sends (state old) (state new)
  pub looks : ReadsNothing (state old) (state new)

-- these calls were made, in this order, and no other
abbrev pub AreMade : {M : Type 0} → (M → State) → List Call → M → M → Type 0
AreMade state [] old new = new ≡ old
AreMade {M = M} state (call ∷ calls) old new = (mid : M) × (bytes : List ℕ) × (got : List ℕ)
    × Performed call bytes got (Ok tt) (state old) (state mid) × AreMade state calls mid new

-- the head and a flush, the super and a flush
abbrev pub head_and_super : List Call
head_and_super = Write 1 ∷ Flush ∷ Write 0 ∷ Flush ∷ []

-- before them zeros from this sector up to the end, and perhaps a flush of these
abbrev pub zeros_and_head : ℕ → Bool → ℕ → List Call
zeros_and_head at flush end = map Write (range_with_len at (end - at))
    ++ (if flush then Flush ∷ head_and_super else head_and_super)

-- Where Ok, this many calls were made; where refused, no more than that.
pub record CallsUpTo {X E : Type 0} (count : ℕ) (old new : State) (result : Result X E)
    : Type 0 where
  pub calls : new.calls ≤ old.calls + count
  pub exact : OnOk result (new.calls ≡ old.calls + count)

-- what a cut may leave, and in these sectors anything
abbrev pub freed_at : (ℕ → Type 0) → Sets → Sets
freed_at places sets s c = sets s c ⊎ places s

-- what a cut may leave, and in these sectors zeros
abbrev pub cleared_at : (ℕ → Type 0) → Sets → Sets
cleared_at places sets s c = sets s c ⊎ (places s × (c ≡ replicate 512 0))

-- an image that these sets allow, with these bytes written to that sector or not
abbrev pub WithOrWithout : ℕ → List ℕ → Sets → Image → Type 0
WithOrWithout s bytes sets image =
    CutLeaves sets image ⊎ ((before : Image) × CutLeaves sets before × Holds s bytes before image)

-- the sector lies from the first on, before the end
abbrev pub IsBetween : ℕ → ℕ → ℕ → Type 0
IsBetween first end x = (first ≤ x) × (x < end)

-- Calls that write to these sectors alone: this many where Ok, no more than that where the medium
-- refused one. A cut at any moment of them leaves an image that has P.
pub record WritesAllPass {X : Type 0} (places : ℕ → Type 0) (P : Image → Type 0) (count : ℕ)
    (old new : State) (result : Result X MediumFault) : Type 0 where
  pub elsewhere : (x : ℕ) → ¬ places x → new.content x ≡ old.content x
  pub moments : LeavesOnly P old new
  pub calls : new.calls ≤ old.calls + count
  pub exact : OnOk result (new.calls ≡ old.calls + count)
  pub cause : IfErr result (IsRefusedCall old new)

-- Calls that write, and read nothing: `count` where Ok, no more than that where the medium refused
-- one. They spare the sectors from the end on. A cut at any moment of them leaves an image that has
-- P.
pub record Writes {X : Type 0} (P : Image → Type 0) (end count : ℕ) (old new : State)
    (result : Result X MediumFault) : Type 0 where
  pub moments : LeavesOnly P old new
  pub spares : SparesFrom end old new
  pub calls : new.calls ≤ old.calls + count
  pub exact : OnOk result (new.calls ≡ old.calls + count)
  pub sent : SendsUpTo count old new
  pub reads : ReadsNothing old new
  pub cause : IfErr result (IsRefusedCall old new)

-- one of these blocks is at home in the sector
abbrev pub IsHomeOf : Shape → List ℕ → ℕ → Type 0
IsHomeOf shape numbers x = (i : ℕ) × (i < length numbers)
    × (x ≡ first_home shape + slice_index numbers i)

-- a block of one of count whole records from this stamp on is at home in sector x
abbrev pub IsHomeInRecords : Shape → Image → ℕ → ℕ → ℕ → Type 0
IsHomeInRecords shape image head count x = (j : ℕ) × (j < count) × ((entries : List Entry)
    × IsWhole shape image (head + j) entries × IsHomeOf shape (numbers_of entries) x)

-- how many calls it takes to read again what names the n blocks of a record, which are its
-- descriptors and its commit, and to read and write each block
abbrev pub calls_of : LogFormat → ℕ → ℕ
calls_of One n = 2 + 2 * n
calls_of Two n = 1 + descriptors_of n + 2 * n

-- so for these records
abbrev pub copy_calls : LogFormat → List (List Entry) → ℕ
copy_calls format [] = 0
copy_calls format (entries ∷ records) = calls_of format (length entries) + copy_calls format records

-- the blocks of these records are at home, in order, by as many calls as it takes
pub record AreCopied (shape : Shape) (records : List (List Entry)) (old new : State) : Type 0 where
  pub home : (b : ℕ) → new.content (first_home shape + b)
      ≡ with_records records (home_of shape old.content) b
  pub exact : new.calls ≡ old.calls + copy_calls shape.format records

-- how many calls they are for a record at most
abbrev pub most_calls_of : LogFormat → ℕ
most_calls_of One = 98
most_calls_of Two = 489

-- Calls that copy the blocks of these records home, where a cut may leave anything. Each read names
-- a sector of the log. An error is a call that the medium refused.
pub record Copies (found : Found) (old new : State) (result : Result (Unit {0}) MediumFault)
    : Type 0 where
  pub elsewhere : (x : ℕ)
      → ¬ IsHomeInRecords (shape_of found.sizes) old.content found.head found.count x
      → new.content x ≡ old.content x
  pub moments : LeavesOnly (CutLeaves (freed_at (IsHomeInRecords (shape_of found.sizes) old.content
      found.head found.count) old.may_leave)) old new
  pub calls : new.calls ≤ old.calls + most_calls_of found.sizes.format * found.count
  pub sent : SendsUpTo (limit_of found.sizes.format * found.count) old new
  pub looks : LooksOnly (λ s. s < first_home (shape_of found.sizes)) old new
  pub cause : IfErr result (IsRefusedCall old new)

-- they brought home each list of records that were whole there
abbrev pub BringsHome : Found → State → State → Type 0
BringsHome found old new = (records : List (List Entry)) → found.count ≡ length records
    → ((k : ℕ) → k < length records → IsWhole (shape_of found.sizes) old.content (found.head + k)
    (get_or records k [])) → AreCopied (shape_of found.sizes) records old new

-- how many calls it takes at most to find out whether a record is whole
abbrev pub most_reads_of : LogFormat → ℕ
most_reads_of One = 2
most_reads_of Two = slot_sectors_of Two

-- how many calls a recovery makes at most for each slot: to find its record, and to copy it home
abbrev pub most_start_of : LogFormat → ℕ
most_start_of One = 100
most_start_of Two = 738

-- how many writes and flushes it makes at most: one for each block of a record in each slot, a
-- flush before them, and a flush, the head and a flush behind them
abbrev pub most_start_sends : LogFormat → ℕ → ℕ
most_start_sends format slots = limit_of format * slots + 4

-- the image is that one with its head at this stamp
pub record HasNewHead (stamp : ℕ) (before image : Image) : Type 0 where
  pub head : IsHead stamp (image 1)
  pub elsewhere : (x : ℕ) → x ≢ 1 → image x ≡ before x

-- ---- what a format makes

-- the sizes are in their limits, home begins where it may, and `size` sectors are enough for them
pub record AreSizes (size : ℕ) (shape : Shape) : Type 0 where
  pub some_blocks : 1 ≤ shape.blocks
  pub most_blocks : shape.blocks ≤ 2 ^ 31
  pub some_slots : 1 ≤ shape.slots
  pub most_slots : shape.slots ≤ 64
  pub home_is : IsFirstHome shape.format shape.slots shape.home
  pub fits : sectors_of shape ≤ size

-- The one image that a cut may leave has these sizes, the head at stamp 1, and zeros everywhere
-- else; it is ours, for blocks of zeros, and its next stamp is 2.
pub record IsFormatted (shape : Shape) (m : State) : Type 0 where
  pub flushed : IsFlushed m
  pub super : IsSuper shape (m.content 0)
  pub head : IsHead 1 (m.content 1)
  pub zeros : (x : ℕ) → 2 ≤ x → x < sectors_of shape → m.content x ≡ replicate 512 0
  pub ours : IsOurs m.size shape m.content (λ b. replicate 512 0) 2

-- Behind this super and a head at this stamp the image has zeros up to the end, and from there on
-- what it held.
pub record IsWritten (shape : Shape) (stamp end : ℕ) (before image : Image) : Type 0 where
  pub super : IsSuper shape (image 0)
  pub head : IsHead stamp (image 1)
  pub zeros : (x : ℕ) → 2 ≤ x → x < end → image x ≡ replicate 512 0
  pub behind : (x : ℕ) → end ≤ x → image x ≡ before x

-- The one image that a cut may leave is written so, over what was there, with a head at stamp 1; it
-- is ours, for this array, and its next stamp is 2.
pub record IsMade (shape : Shape) (array : Array) (end : ℕ) (old new : State) : Type 0 where
  pub flushed : IsFlushed new
  pub written : IsWritten shape 1 end old.content new.content
  pub open written use *
  pub ours : IsOurs new.size shape new.content array 2

-- the image has zeros in place of a super, or it is ours, for this array
abbrev pub IsNoneOrNew : ℕ → Shape → Array → Image → Type 0
IsNoneOrNew size shape array image = (image 0 ≡ replicate 512 0) ⊎ IsOurs size shape image array 2

-- while an image is made it is one that was allowed before, none, or the new one
abbrev pub IsMidway : Shape → Array → State → Image → Type 0
IsMidway shape array old image =
    CutLeaves old.may_leave image ⊎ IsNoneOrNew old.size shape array image

-- What is left at each moment while an image for this array is made, good or refused. The sectors
-- from the end on are spared.
pub record ImageLeaves (shape : Shape) (array : Array) (end : ℕ) (old new : State) : Type 0 where
  pub cuts : LeavesOnly (IsMidway shape array old) old new
  -- From its first good flush on, the second call, no old image is left.
  -- A third call follows a good flush only.
  pub after_flush : old.calls + 3 ≤ new.calls → (image : Image)
      → new.left_since (old.calls + 2) image → IsNoneOrNew old.size shape array image
  pub spares : SparesFrom end old new
  -- nothing is read
  pub looked_stays : new.looked ≡ old.looked

-- so, or with zeros in place of a super
abbrev pub IsNoneOrWritten : Shape → ℕ → Image → Image → Type 0
IsNoneOrWritten shape end before image =
    (image 0 ≡ replicate 512 0) ⊎ IsWritten shape 1 end before image

-- An image of this shape is written with zeros up to this end. From the first good flush on, the
-- second call, no old image is left.
pub record WritesImage (shape : Shape) (end : ℕ) (old new : State)
    (result : Result (Unit {0}) MediumFault) : Type 0 where
  pub done : OnOk result (IsWritten shape 1 end old.content new.content × IsFlushed new)
  pub writes : Writes (λ image. CutLeaves old.may_leave image
      ⊎ IsNoneOrWritten shape end old.content image) end (end + 5) old new result
  pub after_flush : old.calls + 3 ≤ new.calls → (image : Image)
      → new.left_since (old.calls + 2) image → IsNoneOrWritten shape end old.content image

-- What a format leaves at each moment of it: the new image is one of blocks of zeros.
abbrev pub FormatLeaves : Shape → State → State → Type 0
FormatLeaves shape old new = ImageLeaves shape (λ b. replicate 512 0) (sectors_of shape) old new

-- why a format is refused: by the sizes, or, where they are good, by the medium
abbrev pub IsFormatCause : Shape → State → State → FormatFault → Type 0
IsFormatCause shape old new BadSize = ¬ AreSizes old.size shape
IsFormatCause shape old new Medium = AreSizes old.size shape × (old.failures < new.failures)

-- What comes of making an image of this shape: where Ok, the image; where refused, why, and a size
-- that is out of its limits before any call; and what is left at each moment.
pub record Formats {M : Type 0} (state : M → State) (Follows : M → M → Type 0) (shape : Shape)
    (old new : M) (result : Result (Unit {0}) FormatFault) : Type 0 where
  pub ok : OnOk result (IsFormatted shape (state new))
  pub err : IfErr result (λ fault. IsFormatCause shape (state old) (state new) fault
      × (fault ≡ BadSize → new ≡ old))
  pub leaves : FormatLeaves shape (state old) (state new)
  pub calls : CallsUpTo (sectors_of shape + 5) (state old) (state new) result
  pub follows : Follows old new

-- A log was laid before home, which was spared: the new image stands for what home held.
abbrev pub IsLaid : Shape → State → State → Type 0
IsLaid shape old new = IsMade shape (home_of shape old.content) (first_home shape) old new

-- What the laying of a log leaves at each moment of it.
abbrev pub LayingLeaves : Shape → State → State → Type 0
LayingLeaves shape old new =
    ImageLeaves shape (home_of shape old.content) (first_home shape) old new

-- Where Ok, this many calls were made; where refused, no more than that. Not one was a read: all
-- are writes and flushes.
pub record CallsWithoutReads {X E : Type 0} (count : ℕ) (old new : State) (result : Result X E)
    : Type 0 where
  pub calls : new.calls ≤ old.calls + count
  pub exact : OnOk result (new.calls ≡ old.calls + count)
  pub no_read : MakesNoRead old new
  pub sends : SendsUpTo count old new
