-- What playing a script of several lives leaves: a medium, and what was written.
use Rattle.std.specs.{Prelude.{ℕ, List, [], ◌∷◌, ◌++◌, All, Option}, Io.KnownBytes.Appends}
use Rattle.medium.specs.Sim.{Sim}
use Rattle.bot_machine.specs.{StartFaults.StartFault, Lifetimes.{KeepsPromise, KeepsPromiseUpTo}}
use Rattle.spec.specs.{declared.event.Event.Event, declared.event.Answer.Answer}
use Rattle.spec.specs.Lives.{Action, starts, plays}
use Rattle.usbdisk.specs.console.Streams.{AppendsUpTo}
use Rattle.usbdisk.specs.declared.runner.fault.ScriptFault.{ScriptFault}
use Rattle.usbdisk.specs.declared.runner.line.ScriptKind.TheVariants.{Lives}
use Rattle.usbdisk.specs.runner.Lifetimes.{LineActs, Acts, AreMoved, AreStopped, text_of_lives}
use Rattle.usbdisk.specs.{runner.Line.IsScriptLine, runner.Lines.lines_of}
use Rattle.usbdisk.specs.runner.Outcome.{IsRead, ComesToNoEnd}
use Rattle.usbdisk.specs.{runner.Script.{StopsAt, device}, runner.Text.line_for}

module _ (most : ℕ) (left was now : Option (List ℕ)) (medium : Sim) where
  -- the script was played whole: exactly the text of the answers to its actions was appended, and
  -- these keep the promise
  pub record KeepsPlayed (after : Sim) : Type 0 where
    pub script : List ℕ
    pub read : IsRead left script
    pub actions : List Action
    pub acts : Acts most (lines_of script) actions
    pub answers : List Answer
    pub written : Appends was now (text_of_lives actions answers)
    pub kept : KeepsPromise medium (device most) actions answers after

  -- and they moved the disk and its medium
  pub record ArePlayed (after : Sim) : Type 0 where
    pub promise : KeepsPlayed after
    pub moved : AreMoved most medium after promise.actions promise.answers promise.kept.refusals

  -- a start that a line of the script came to was refused: the text of the lives before it was
  -- appended, and they keep the promise
  pub record KeepsToAStart (back : Sim) : Type 0 where
    pub script : List ℕ
    pub read : IsRead left script
    pub good : All (IsScriptLine Lives most) (lines_of script)
    pub first : List Action
    pub part : List Action
    pub stops : StopsAt (LineActs most) (lines_of script) first part starts
    pub answers : List Answer
    pub written : Appends was now (text_of_lives (first ++ part) answers)
    pub kept : KeepsPromiseUpTo medium (device most) (first ++ part) answers back

  pub record AreRefusedAStart (fault : StartFault) (back : Sim) : Type 0 where
    pub promise : KeepsToAStart back
    pub stopped : AreStopped most medium back (promise.first ++ promise.part) promise.answers fault
        promise.kept

  -- The writer failed at one line of the script: the lines before it acted and their answers were
  -- written. Of that line events were played, all of whose answers were written but the last one's:
  -- a first part of that was, and at least one byte of it is missing. Nothing was done behind it.
  pub record KeepsToALine (back : Sim) : Type 0 where
    pub script : List ℕ
    pub read : IsRead left script
    pub good : All (IsScriptLine Lives most) (lines_of script)
    pub first : List Action
    pub part : List Action
    pub event : Event
    pub stops : StopsAt (LineActs most) (lines_of script) first part (plays event)
    pub answers : List Answer
    pub answer : Answer
    pub written : AppendsUpTo was now (text_of_lives (first ++ part) answers)
        (line_for event answer)
    pub kept : KeepsPromise medium (device most) (first ++ part ++ plays event ∷ [])
        (answers ++ answer ∷ []) back

  pub record AreCutShort (back : Sim) : Type 0 where
    pub promise : KeepsToALine back
    pub moved : AreMoved most medium back
        (promise.first ++ promise.part ++ plays promise.event ∷ [])
        (promise.answers ++ promise.answer ∷ []) promise.kept.refusals

  -- why a script was refused, what was written then, and how it moved the disk and its medium
  abbrev pub AreRefused : ScriptFault → Sim → Type 0
  AreRefused fault back =
      ComesToNoEnd Lives most left was now medium AreRefusedAStart AreCutShort fault back
