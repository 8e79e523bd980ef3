-- What serving lines leaves: the player of their events, and what was written.
use Rattle.std.specs.Prelude.{◌≡◌, ◌⊎◌, ◌==◌, ℕ, ◌+◌, min, false, List, [], ◌∷◌, ◌++◌, All, codes}
use Rattle.std.specs.Prelude.{length, take, slice_index, ◌<◌, Option}
use Rattle.std.specs.Io.KnownBytes.{Keeps, Consumes, IsAtEnd}
use Rattle.spec.specs.declared.event.Event.{Event}
use Rattle.spec.specs.declared.event.Answer.{Answer}
use Rattle.usbdisk.specs.console.Streams.{AppendsSome}
use Rattle.usbdisk.specs.declared.runner.line.ScriptKind.TheVariants.{OneLife}
use Rattle.usbdisk.specs.declared.runner.player.ServeFault.{ServeFault}
use Rattle.usbdisk.specs.declared.runner.player.ServeFault.TheVariants.{Line, Reader, Writer}
use Rattle.usbdisk.specs.declared.runner.player.ServeFault.TheVariants.{Player}
use Rattle.usbdisk.specs.runner.Line.{IsScriptLine}
use Rattle.usbdisk.specs.runner.Lines.{lines_of}
use Rattle.usbdisk.specs.runner.Script.{LinePlays, Plays, StopsAt}
use Rattle.usbdisk.specs.runner.Played.{TellsBy, BreaksOffBy, GivesUpBy}
use Rattle.usbdisk.specs.runner.Streams.{IsAll}
use Rattle.usbdisk.specs.runner.Text.{line_for}

-- lines are counted from 1, up to 2^64 - 1
abbrev pub line_number : ℕ → ℕ
line_number before = min (before + 1) 18446744073709551615

-- The bytes that are held of a line stand for those that were read of it: they are these, or both
-- are a comment.
abbrev pub StandsFor : List ℕ → List ℕ → Type 0
StandsFor held line = (held ≡ line)
    ⊎ ((kept : List ℕ) × (comment : List ℕ) × (held ≡ codes "#" ++ kept)
    × (line ≡ codes "#" ++ comment))

-- no byte of it is a line feed
abbrev pub IsUnended : List ℕ → Type 0
IsUnended line = All (λ byte. (byte == 10) ≡ false) line

-- the first line feed of these bytes stands there
pub record IsLineEnd (bytes : List ℕ) (end : ℕ) : Type 0 where
  pub within : end < length bytes
  pub before : IsUnended (take end bytes)
  pub here : slice_index bytes end ≡ 10

-- a line that begins so has more bytes than any line of a script, and is no comment
pub record IsTooLong (begins : List ℕ) : Type 0 where
  pub long : 1100 < length begins
  pub no_comment : (comment : List ℕ) → begins ≡ codes "#" ++ comment → ⊥

-- How a player goes through events, and how it has no answer to one; packets have at most `most`
-- bytes; the player and what was written then, and now.
module _ {D : Type 0} (Goes : D → List Event → List Answer → D → Type 0)
    (Stops : D → Event → D → Type 0) (most : ℕ) (was now : Option (List ℕ)) (old new : D) where
  -- these lines were played step by step, and exactly the text of their answers was appended
  pub record AreAnswered (lines : List (List ℕ)) : Type 0 where
    pub events : List Event
    pub plays : Plays most lines events
    pub tells : TellsBy Goes was now old events new

  -- an event had no answer, and nothing was written; or it had one, which was not written whole
  abbrev pub IsUnanswered : Event → ServeFault → Type 0
  IsUnanswered event Writer = (answer : Answer) × Goes old (event ∷ []) (answer ∷ []) new
      × AppendsSome was now (line_for event answer)
  IsUnanswered event Player = Stops old event new × Keeps was now
  IsUnanswered event fault = ⊥

  -- Events were played, whose answers were written, and then came one more: its answer was not
  -- written whole, or it has none.
  abbrev pub EndsBy : ServeFault → List Event → Event → Type 0
  EndsBy Writer events event = BreaksOffBy Goes was now old events event new
  EndsBy Player events event = GivesUpBy Goes was now Stops old events event new
  EndsBy fault events event = ⊥

  -- of these events a first part was played, and why no more
  pub record IsPlayedInPart (asked : List Event) (fault : ServeFault) : Type 0 where
    pub part : List Event
    pub event : Event
    pub rest : List Event
    pub parts : asked ≡ part ++ event ∷ rest
    pub ends : EndsBy fault part event

  -- one line was played, and exactly the text of its answers was appended
  abbrev pub IsAnswered : List ℕ → Type 0
  IsAnswered line = (events : List Event) × LinePlays most line events
      × TellsBy Goes was now old events new

  -- how one line, which has this number, stops the serving: it is none of a script, or its events
  -- were played in part
  abbrev pub IsLineStopped : List ℕ → ℕ → ServeFault → Type 0
  IsLineStopped line number (Line told) = (told ≡ number) × (¬ IsScriptLine OneLife most line)
      × (new ≡ old) × Keeps was now
  IsLineStopped line number fault = (asked : List Event) × LinePlays most line asked
      × IsPlayedInPart asked fault

  -- the lines before one that is none of a script were answered, and this is its number
  pub record StopsAtBadLine (script : List ℕ) (number : ℕ) : Type 0 where
    pub before : List (List ℕ)
    pub line : List ℕ
    pub after : List (List ℕ)
    pub parts : lines_of script ≡ before ++ line ∷ after
    pub answered : AreAnswered before
    pub bad : ¬ IsScriptLine OneLife most line
    pub counted : number ≡ line_number (length before)

  -- the lines before one were answered, and that one in part
  pub record StopsWithin (script : List ℕ) (fault : ServeFault) : Type 0 where
    pub first : List Event
    pub part : List Event
    pub event : Event
    pub stops : StopsAt (LinePlays most) (lines_of script) first part event
    pub ends : EndsBy fault (first ++ part) event

  -- All lines of which the line feed was read were answered; behind them stands at most a part of
  -- another.
  pub record StopsUnread (read : List ℕ) : Type 0 where
    pub before : List (List ℕ)
    pub line : List ℕ
    pub parts : lines_of read ≡ before ++ line ∷ []
    pub answered : AreAnswered before

  -- how serving these lines of a script stops early
  abbrev pub StopsIn : List ℕ → ServeFault → Type 0
  StopsIn script (Line number) = StopsAtBadLine script number
  StopsIn script fault = StopsWithin script fault

  -- the input was read to its end, and each of its lines was answered
  pub record IsServedBy (left after : Option (List ℕ)) : Type 0 where
    pub script : List ℕ
    pub all : IsAll left script
    pub at_end : IsAtEnd after
    pub answered : AreAnswered (lines_of script)

  -- How serving stops early. At any moment at which more is read, all lines of which the line feed
  -- is there were answered: it shows where the reader fails then.
  abbrev pub IsStoppedBy : Option (List ℕ) → Option (List ℕ) → ServeFault → Type 0
  IsStoppedBy left after Reader = (read : List ℕ) × Consumes left after read × StopsUnread read
  IsStoppedBy left after fault = (script : List ℕ) × IsAll left script × StopsIn script fault

  -- These bytes were read, and all whole lines of them were answered. So much is held of the line
  -- behind them, which has this number.
  pub record HasServed (held : List ℕ) (number : ℕ) (read : List ℕ) : Type 0 where
    pub before : List (List ℕ)
    pub line : List ℕ
    pub parts : (more : List ℕ) → lines_of (read ++ more) ≡ before ++ lines_of (line ++ more)
    pub unended : IsUnended line
    pub stands : StandsFor held line
    pub counted : number ≡ line_number (length before)
    pub answered : AreAnswered before

-- A source may be asked for more at least where nothing waits: of the bytes that it has given from
-- a beginning on, all lines with their line feed were answered, and this is written now.
abbrev pub MayAsk : {D S : Type 0} (Goes : D → List Event → List Answer → D → Type 0)
    (Stops : D → Event → D → Type 0) (most : ℕ) (was : Option (List ℕ)) (old : D)
    (beginning : Option (List ℕ)) (left : S → Option (List ℕ))
    (may_ask : S → Option (List ℕ) → Type 0) → Type 0
MayAsk {D} {S} Goes Stops most was old beginning left may_ask =
    (source : S) (now : Option (List ℕ)) (new : D) (read : List ℕ)
    → Consumes beginning (left source) read → StopsUnread Goes Stops most was now old new read
    → may_ask source now
