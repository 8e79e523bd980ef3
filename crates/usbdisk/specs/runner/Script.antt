-- What a script of one life plays, and its text.
use Rattle.std.specs.Prelude.{◌≡◌, ◌≤◌, ℕ, ◌+◌, Bool, true, List, [], ◌∷◌, ◌++◌, length, All, codes}
use Rattle.medium.specs.{Medium.State, Moments.EachCut}
use Rattle.logical_blocks.specs.{Blocks.Array, Book.{Book, opened}}
use Rattle.scsi.specs.{Identification.Identification, Rules.{UnitState, opened_unit}}
use Rattle.spec.specs.declared.event.Event.{Event}
use Rattle.spec.specs.{declared.event.Answer.Answer, Exchange.at_rest}
use Rattle.spec.specs.Conversation.{Conversation, refused_events}
use Rattle.spec.specs.UnitConversation.{UnitRun, on_line}
use Rattle.journal.specs.Places.{limit_of}
use Rattle.bot_machine.specs.{Starting.{Shape, StandsFor, IsOursForSome}, Device.{Device, Late}}
use Rattle.bot_machine.specs.{Books.MayFind, Disk.{DiskValue, StepsThrough}}
use Rattle.bot_machine.specs.Opening.{IsOpened, StartLeaves}
use Rattle.usbdisk.specs.declared.runner.line.ScriptLine.{ScriptLine}
use Rattle.usbdisk.specs.declared.runner.line.ScriptKind.{ScriptKind}
use Rattle.usbdisk.specs.declared.runner.line.ScriptKind.TheVariants.{OneLife}
use Rattle.usbdisk.specs.{runner.Line.{Spells, Allows, IsScriptLine}, runner.Events.events_of}

-- the line plays these events, in a script of one life, where packets have at most `most` bytes
pub record LinePlays (most : ℕ) (line : List ℕ) (events : List Event) : Type 0 where
  pub asked : ScriptLine
  pub spelled : Spells most line asked
  pub allowed : Allows OneLife asked
  pub events_are : events ≡ events_of asked

-- lines give what the first gives, and then what the others do
abbrev pub InTurn : {A : Type 0} → (List ℕ → List A → Type 0) → List (List ℕ) → List A → Type 0
InTurn LineGives [] all = all ≡ []
InTurn {A} LineGives (line ∷ lines) all =
    (first : List A) × (rest : List A) × LineGives line first × InTurn LineGives lines rest
    × (all ≡ first ++ rest)

-- Lines give in turn up to one thing, at one line: the lines before that line give the first of
-- all, the line gives this part of its own and then the last thing; what the line gives behind that
-- is left, and the lines after it.
pub record StopsAt {A : Type 0} (LineGives : List ℕ → List A → Type 0) (lines : List (List ℕ))
    (first part : List A) (last : A) : Type 0 where
  pub before : List (List ℕ)
  pub line : List ℕ
  pub after : List (List ℕ)
  pub parts : lines ≡ before ++ line ∷ after
  pub whole : InTurn LineGives before first
  pub rest : List A
  pub here : LineGives line (part ++ last ∷ rest)

-- the lines of a script of one life play these events
abbrev pub Plays : ℕ → List (List ℕ) → List Event → Type 0
Plays most lines events = InTurn (LinePlays most) lines events

-- the first line that is none of such a script has this number, counted from 1
pub record IsFirstBadLine (kind : ScriptKind) (most number : ℕ) (lines : List (List ℕ))
    : Type 0 where
  pub before : List (List ℕ)
  pub line : List ℕ
  pub after : List (List ℕ)
  pub parts : lines ≡ before ++ line ∷ after
  pub good : All (IsScriptLine kind most) before
  pub bad : ¬ IsScriptLine kind most line
  pub counted : number ≡ length before + 1

-- the texts by which the disk of a script is known
abbrev pub identification : Identification
identification = record {
  vendor = codes "USBDISK ";
  product = codes "POWER SAFE DISK ";
  revision = codes "0001";
  serial = codes "000000000001";
}

-- the disk of a script, with packets of at most `most` bytes
abbrev pub device : ℕ → Device
device most = record { identity = identification; packet_size = most; retiring = Late }

-- a disk that has just started on this book, with packets of at most `most` bytes, and moves
-- at most `limit` blocks
abbrev pub started : ℕ → ℕ → Book → Conversation UnitState
started most limit book = on_line (at_rest most) (opened_unit limit identification book)

-- A disk with packets of at most `most` bytes starts on the medium and plays the events, each one
-- step of it, and the medium that comes back is the one that the last of them left: nothing is done
-- to it afterwards.
pub record IsLeftBy {M : Type 0} (state : M → State) (most : ℕ) (medium : M) (events : List Event)
    (answers : List Answer) (refusals : List Bool) (back : M) : Type 0 where
  pub first : DiskValue M
  pub opens : IsOpened (state medium) (state first.unit.store.medium) (device most) first
  pub leaves : StartLeaves (state medium) (state first.unit.store.medium)
  pub last : DiskValue M
  pub steps : StepsThrough state first events answers refusals last
  pub left : back ≡ last.unit.store.medium

-- A life of a disk with packets of at most `most` bytes: its events and their answers, from a
-- start on a medium in one state until the medium is in another. The disk opens with the array and
-- the next stamp for which the contents stood, and the answers are by the rules of the unit; in
-- some events the medium refused a call, whatever the premise. Where every image that a cut could
-- leave was ours, each one that a cut may leave afterwards stands for accepted writes, all promised
-- ones among them.
pub record IsLife (most : ℕ) (before after : State) (events : List Event) (answers : List Answer)
    : Type 0 where
  pub shape : Shape
  pub array : Array
  pub next : ℕ
  pub stood : StandsFor before.size shape before.content array next
  pub refusals : List Bool
  pub refused : refused_events refusals + before.failures ≤ after.failures
  pub runs : (ours : Bool) → (ours ≡ true → EachCut (IsOursForSome before.size) before)
      → (last : Conversation UnitState)
      × UnitRun (started most (limit_of shape.format) (opened shape.blocks array next ours))
      events answers refusals last
      × (ours ≡ true → EachCut (MayFind after.size last.unit.book) after)
