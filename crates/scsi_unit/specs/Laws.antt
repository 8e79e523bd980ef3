-- What follows from the rules of the logical unit, whatever its state.
use Rattle.std.specs.Prelude.{◌≡◌, ◌≢◌, ◌⊎◌, ◌<◌, ◌≤◌, ◌*◌, ℕ, Bool, true, false, List, [], ◌∷◌}
use Rattle.std.specs.Prelude.{replicate, ◌++◌, length, if◌then◌else◌, Option, Some, None}
use Rattle.std.specs.Prelude.{Result, Ok, Err, IfOk}
use Rattle.medium.specs.Medium.{Image}
use Rattle.logical_blocks.specs.{Blocks.{Write, IsWrite}, Book.{Book, array_of, StampsOut, opened}}
use Rattle.logical_blocks.specs.Book.{with_progress}
use Rattle.scsi.specs.{Sense.Sense, Identification.Identification, Rules.opened_unit}
use Rattle.scsi.specs.{declared.command.Command.Command, Rules.{UnitState, checked, intention}}
use Rattle.scsi.specs.Rules.{write_in_progress, clears, selected_by, CarriesOut, Ticks}
use Rattle.blocks.specs.Finding.{StandsAs, FoundWith}
use Rattle.blocks.specs.{Opening.{IsOursForSome, Stands, StandsForOpening}, Limit.HasLimit}
use Rattle.scsi.specs.declared.command.Command.TheVariants as command
use Rattle.scsi.specs.declared.intent.Intent.TheVariants as intent
use Rattle.scsi_unit.specs.Promising.{promises, promises_for}

-- no stamp is wanting for a command, with its write counted
abbrev pub HasStamps : List ℕ → List ℕ → UnitState → Type 0
HasStamps block taken unit =
    ¬ StampsOut (with_progress unit.book (write_in_progress unit block taken))

-- Every command has an answer. Where the medium refused no call and stamps are left, it has one.
pub record IsFunction : Type 0 where
  pub answered : (refused : Bool) (block taken : List ℕ) (old : UnitState)
      → (answer : Result (List ℕ) Sense) × (new : UnitState)
      × CarriesOut refused block taken old answer new
  pub one_answer : (block taken : List ℕ) (old new other : UnitState)
      (answer told : Result (List ℕ) Sense) → HasStamps block taken old
      → CarriesOut false block taken old answer new → CarriesOut false block taken old told other
      → (answer ≡ told) × (new ≡ other)

-- the texts of the identity have their lengths, and each block of the array has 512 bytes
pub record IsSized (unit : UnitState) : Type 0 where
  pub vendor : length unit.identity.vendor ≡ 8
  pub product : length unit.identity.product ≡ 16
  pub revision : length unit.identity.revision ≡ 4
  pub serial : length unit.identity.serial ≡ 12
  pub blocks : (b : ℕ) → b < unit.book.blocks → length (array_of unit.book b) ≡ 512

-- a command moves what it intended to, and no more bytes than the most blocks of a transfer have
pub record KeepsIntentions : Type 0 where
  -- a unit over blocks of zeros is sized, with an identity whose texts have their lengths
  pub sized : (limit blocks stamp : ℕ) (ours : Bool) (who : Identification)
      → length who.vendor ≡ 8 → length who.product ≡ 16 → length who.revision ≡ 4
      → length who.serial ≡ 12
      → IsSized (opened_unit limit who (opened blocks (λ b. replicate 512 0) stamp ours))
  pub most_in : (unit : UnitState) (block : List ℕ) (n : ℕ) → 0 < unit.limit
      → intention unit block ≡ intent.In n → (0 < n) × (n ≤ 512 * unit.limit)
  pub most_out : (unit : UnitState) (block : List ℕ) (n : ℕ) → 0 < unit.limit
      → intention unit block ≡ intent.Out n → (0 < n) × (n ≤ 512 * unit.limit)
  -- a good command sends as many bytes as it intended to send
  pub sent : (refused : Bool) (block taken : List ℕ) (old new : UnitState)
      (answer : Result (List ℕ) Sense) (n : ℕ) → IsSized old → intention old block ≡ intent.In n
      → CarriesOut refused block taken old answer new → IfOk answer (λ sent. length sent ≡ n)
  -- and none where it intended to send none
  pub not_sent : (refused : Bool) (block taken : List ℕ) (old new : UnitState)
      (answer : Result (List ℕ) Sense) → ((n : ℕ) → intention old block ≢ intent.In n)
      → CarriesOut refused block taken old answer new → IfOk answer (λ sent. sent ≡ [])
  -- a command that is refused fails with that sense
  pub refused : (refused : Bool) (block taken : List ℕ) (old new : UnitState)
      (answer : Result (List ℕ) Sense) (sense : Sense) → intention old block ≡ intent.Fail sense
      → CarriesOut refused block taken old answer new → answer ≡ Err sense
  -- nothing is written where no data are taken
  pub unwritten : (unit : UnitState) (block taken : List ℕ)
      → ((n : ℕ) → intention unit block ≢ intent.Out n) → write_in_progress unit block taken ≡ None

-- the same life: no command and no step in the background changes with what it began
pub record IsSameLife (old new : Book) : Type 0 where
  pub blocks : new.blocks ≡ old.blocks
  pub opening : new.opening ≡ old.opening
  pub stamp : new.stamp ≡ old.stamp
  pub ours : new.ours ≡ old.ours

-- A good answer promises all accepted writes: that to each command that promises, but to a MODE
-- SELECT only where it clears WCE.
abbrev pub is_promising : Command → List ℕ → UnitState → Bool
is_promising (command.ModeSelect length) taken unit =
    clears unit.write_cache (selected_by length taken unit.write_cache)
is_promising command taken unit = promises command unit.write_cache

-- accepted writes stay accepted, and promises are kept
pub record KeepsWrites : Type 0 where
  pub life : (refused : Bool) (block taken : List ℕ) (old new : UnitState)
      (answer : Result (List ℕ) Sense) → CarriesOut refused block taken old answer new
      → IsSameLife old.book new.book
  -- the write in progress is accepted, or none
  pub writes : (refused : Bool) (block taken : List ℕ) (old new : UnitState)
      (answer : Result (List ℕ) Sense) → CarriesOut refused block taken old answer new
      → (new.book.writes ≡ old.book.writes)
      ⊎ ((write : Write) × (write_in_progress old block taken ≡ Some write)
      × (new.book.writes ≡ old.book.writes ++ write ∷ []))
  -- a good command promises all accepted writes, or leaves the promises
  pub mark : (refused : Bool) (block taken sent : List ℕ) (old new : UnitState) (command : Command)
      → checked old block ≡ Ok command → CarriesOut refused block taken old (Ok sent) new
      → new.book.mark
      ≡ (if is_promising command taken old then length new.book.writes else old.book.mark)
  -- a command that fails leaves them
  pub unpromised : (refused : Bool) (block taken : List ℕ) (old new : UnitState) (sense : Sense)
      → CarriesOut refused block taken old (Err sense) new → new.book.mark ≡ old.book.mark
  -- so does one that promises nothing, good or bad
  pub unpromising : (refused : Bool) (block taken : List ℕ) (old new : UnitState)
      (answer : Result (List ℕ) Sense)
      → promises_for (checked old block) old.write_cache ≡ false
      → CarriesOut refused block taken old answer new → new.book.mark ≡ old.book.mark
  -- a good WRITE is accepted
  pub accepted : (refused : Bool) (block taken sent : List ℕ) (old new : UnitState) (write : Write)
      → write_in_progress old block taken ≡ Some write
      → CarriesOut refused block taken old (Ok sent) new
      → new.book.writes ≡ old.book.writes ++ write ∷ []
  -- one that fails faults the unit
  pub faulted : (refused : Bool) (block taken : List ℕ) (old new : UnitState) (sense : Sense)
      (write : Write) → write_in_progress old block taken ≡ Some write
      → CarriesOut refused block taken old (Err sense) new → new.faulted ≡ true

-- A write in progress, over as many bytes as were asked for, has at least one block, each of 512
-- bytes, and all of them on the disk.
pub record WritesAreWrites : Type 0 where
  pub is_write : (unit : UnitState) (block taken : List ℕ) (write : Write)
      → ((n : ℕ) → intention unit block ≡ intent.Out n → length taken ≡ n)
      → write_in_progress unit block taken ≡ Some write → IsWrite unit.book.blocks write

-- a faulted unit stays so, and its book stays as it is
pub record StaysFaulted : Type 0 where
  pub command : (refused : Bool) (block taken : List ℕ) (old new : UnitState)
      (answer : Result (List ℕ) Sense) → old.faulted ≡ true
      → CarriesOut refused block taken old answer new
      → (new.faulted ≡ true) × (new.book ≡ old.book)
  pub tick : (refused : Bool) (old new : UnitState) → old.faulted ≡ true → Ticks refused old new
      → new ≡ old

-- what holds of every command
pub record AreCommandLaws : Type 0 where
  pub function : IsFunction
  pub intentions : KeepsIntentions
  pub writes : KeepsWrites
  pub are_writes : WritesAreWrites
  pub faults : StaysFaulted

-- a step in the background may fault the unit, and changes nothing else
pub record TicksOnly : Type 0 where
  pub others : (refused : Bool) (old new : UnitState) → Ticks refused old new
      → new ≡ record old { faulted = new.faulted }
  -- where the medium refused no call and stamps are left, it changes nothing
  pub nothing : (old new : UnitState) → ¬ StampsOut old.book → Ticks false old new → new ≡ old
  -- no command comes to take data, or other data, by it
  pub intentions : (refused : Bool) (old new : UnitState) (block : List ℕ) (n : ℕ)
      → Ticks refused old new → intention new block ≡ intent.Out n
      → intention old block ≡ intent.Out n

-- no command and no step in the background changes the most blocks of a transfer
pub record KeepsLimit : Type 0 where
  pub command : (refused : Bool) (block taken : List ℕ) (old new : UnitState)
      (answer : Result (List ℕ) Sense) → CarriesOut refused block taken old answer new
      → new.limit ≡ old.limit
  pub tick : (refused : Bool) (old new : UnitState) → Ticks refused old new
      → new.limit ≡ old.limit

-- what is known of an image by the books for which it stands
pub record KnowsImages : Type 0 where
  -- what may be found of a book is ours
  pub found_ours : (size : ℕ) (book : Book) (write : Option Write) (image : Image)
      → FoundWith size book write image → IsOursForSome size image
  -- an image that is ours, and stands for the opening of a book, is ours for it
  pub ours_for : (size : ℕ) (book : Book) (image : Image) → StandsForOpening size book image
      → IsOursForSome size image → StandsAs size book.blocks image book.opening book.stamp
  -- it stands for the opening of each such book
  pub stands_for : (size : ℕ) (book : Book) (image : Image)
      → StandsAs size book.blocks image book.opening book.stamp → StandsForOpening size book image
  pub stands : (size : ℕ) (book : Book) (image : Image) → StandsForOpening size book image
      → Stands size image
  -- it has a limit, and no other
  pub some_limit : (size : ℕ) (image : Image) → Stands size image
      → (limit : ℕ) × HasLimit size limit image
  pub one_limit : (size limit other : ℕ) (image : Image) → HasLimit size limit image
      → HasLimit size other image → limit ≡ other
