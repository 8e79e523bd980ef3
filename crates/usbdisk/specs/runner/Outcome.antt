-- What playing a script of one life leaves: a medium, and what was written.
use Rattle.std.specs.Prelude.{◌≡◌, ◌<◌, ◌≤◌, ⊤, ℕ, List, [], ◌∷◌, ◌++◌, All, length, Option, IfSome}
use Rattle.std.specs.Io.KnownBytes.{Appends, Keeps, IsAtEnd}
use Rattle.medium.specs.Medium.{State}
use Rattle.spec.specs.declared.event.Event.{Event}
use Rattle.spec.specs.declared.event.Answer.{Answer}
use Rattle.bot_machine.specs.Opening.{IsNotOpened, StartLeaves}
use Rattle.bot_machine.specs.StartFaults.{StartFault}
use Rattle.usbdisk.specs.console.Streams.{AppendsUpTo}
use Rattle.usbdisk.specs.declared.runner.fault.ScriptFault.{ScriptFault}
use Rattle.usbdisk.specs.declared.runner.fault.ScriptFault.TheVariants.{Line, TooLong, Start}
use Rattle.usbdisk.specs.declared.runner.fault.ScriptFault.TheVariants.{NoMemory}
use Rattle.usbdisk.specs.declared.runner.fault.ScriptFault.TheVariants.{Reader, Writer}
use Rattle.usbdisk.specs.declared.runner.line.ScriptKind.{ScriptKind}
use Rattle.usbdisk.specs.declared.runner.line.ScriptKind.TheVariants.{OneLife}
use Rattle.usbdisk.specs.runner.Line.{IsScriptLine}
use Rattle.usbdisk.specs.declared.runner.read.ReadFault.TheVariants as read
use Rattle.usbdisk.specs.runner.Lines.{lines_of}
use Rattle.usbdisk.specs.runner.Refused.{IsReadSoFar}
use Rattle.usbdisk.specs.runner.Script.{LinePlays, Plays, StopsAt, IsFirstBadLine, IsLife, IsLeftBy}
use Rattle.usbdisk.specs.runner.Streams.{IsAll}
use Rattle.usbdisk.specs.runner.Text.{line_for, text_of}

-- the most bytes of a script
abbrev pub script_limit : ℕ
script_limit = 1048576

-- a script that was read to its end
pub record IsRead (left : Option (List ℕ)) (script : List ℕ) : Type 0 where
  pub all : IsAll left script
  pub fits : length script ≤ script_limit

-- nothing was written, and the medium is as it was
pub record IsLeftAlone {M : Type 0} (medium back : M) (was now : Option (List ℕ)) : Type 0 where
  pub same : back ≡ medium
  pub kept : Keeps was now

-- the script has a line that is none of its kind, and this is the number of the first
pub record HasBadLine (kind : ScriptKind) (most : ℕ) (left : Option (List ℕ)) (number : ℕ)
    : Type 0 where
  pub script : List ℕ
  pub read : IsRead left script
  pub bad : IsFirstBadLine kind most number (lines_of script)

-- why a script is refused before any of it is played
abbrev pub IsNoScript : ScriptKind → ℕ → Option (List ℕ) → ScriptFault → Type 0
IsNoScript kind most left (Line number) = HasBadLine kind most left number
IsNoScript kind most left TooLong = IfSome left (λ all. script_limit < length all)
IsNoScript kind most left NoMemory = ⊤
IsNoScript kind most left Reader = ⊤
IsNoScript kind most left fault = ⊥

-- How a script of a kind came to no end: nothing of it was played; or it was, up to a start that
-- was refused, or up to an answer that was not written.
abbrev pub ComesToNoEnd : {M : Type 0} → ScriptKind → ℕ → Option (List ℕ) → Option (List ℕ)
    → Option (List ℕ) → M → (StartFault → M → Type 0) → (M → Type 0) → ScriptFault → M → Type 0
ComesToNoEnd kind most left was now medium UpToStart UpToAnswer (Start fault) back =
    UpToStart fault back
ComesToNoEnd kind most left was now medium UpToStart UpToAnswer Writer back = UpToAnswer back
ComesToNoEnd kind most left was now medium UpToStart UpToAnswer fault back =
    IsLeftAlone medium back was now × IsNoScript kind most left fault

-- How much of the script was taken from its reader, where it was refused: a first part where it was
-- not read to its end, and else all of it.
abbrev pub HasTaken : ScriptFault → Option (List ℕ) → Option (List ℕ) → Type 0
HasTaken TooLong was now = IsReadSoFar read.TooLong script_limit was now
HasTaken NoMemory was now = IsReadSoFar read.NoMemory script_limit was now
HasTaken Reader was now = IsReadSoFar read.Reader script_limit was now
HasTaken fault was now = IsAtEnd now

module _ {M : Type 0} (state : M → State) (most : ℕ) (left : Option (List ℕ))
    (was now : Option (List ℕ)) (medium : M) where
  -- the script was played whole: exactly the text of the answers in a life of its events was
  -- appended
  pub record IsPlayed (after : M) : Type 0 where
    pub script : List ℕ
    pub read : IsRead left script
    pub events : List Event
    pub plays : Plays most (lines_of script) events
    pub answers : List Answer
    pub life : IsLife most (state medium) (state after) events answers
    pub left_by : IsLeftBy state most medium events answers life.refusals after
    pub written : Appends was now (text_of events answers)

  -- each line is one of a script, and no disk has started on the medium
  pub record IsNotStarted (fault : StartFault) (back : M) : Type 0 where
    pub script : List ℕ
    pub read : IsRead left script
    pub good : All (IsScriptLine OneLife most) (lines_of script)
    pub refused : IsNotOpened (state medium) (state back) fault
    pub leaves : StartLeaves (state medium) (state back)
    pub kept : Keeps was now

  -- The writer failed at one line of the script: the lines before it were played and their answers
  -- written. Of that line events were played, all of whose answers were written but the last one's:
  -- a first part of that was, and at least one byte of it is missing. Nothing was played behind it.
  pub record IsCutShort (back : M) : Type 0 where
    pub script : List ℕ
    pub read : IsRead left script
    pub good : All (IsScriptLine OneLife most) (lines_of script)
    pub first : List Event
    pub part : List Event
    pub event : Event
    pub stops : StopsAt (LinePlays most) (lines_of script) first part event
    pub answers : List Answer
    pub answer : Answer
    pub life : IsLife most (state medium) (state back) (first ++ part ++ event ∷ [])
        (answers ++ answer ∷ [])
    pub left_by : IsLeftBy state most medium (first ++ part ++ event ∷ [])
        (answers ++ answer ∷ []) life.refusals back
    pub written : AppendsUpTo was now (text_of (first ++ part) answers) (line_for event answer)

  -- why a script was refused, and what was written then
  abbrev pub IsRefused : ScriptFault → M → Type 0
  IsRefused fault back =
      ComesToNoEnd OneLife most left was now medium IsNotStarted IsCutShort fault back
