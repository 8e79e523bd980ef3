-- Actions done to lives of a disk, and how they end early.
use Rattle.std.specs.Prelude.{◌≡◌, ℕ, Bool, false, List, [], ◌∷◌, ◌++◌, None, Option}
use Rattle.std.specs.Io.KnownBytes.{Appends}
use Rattle.medium.specs.Sim.{Sim}
use Rattle.bot_machine.specs.StartFaults.{StartFault}
use Rattle.bot_machine.specs.LivesValue.{LivesValue, LivesGoOn, LivesRefuseStart, medium_in}
use Rattle.spec.specs.{declared.event.Event.Event, declared.event.Answer.Answer}
use Rattle.spec.specs.Lives.{Action, starts, plays}
use Rattle.usbdisk.specs.console.Streams.{AppendsUpTo}
use Rattle.usbdisk.specs.declared.runner.fault.ScriptFault.{ScriptFault}
use Rattle.usbdisk.specs.declared.runner.fault.ScriptFault.TheVariants.{Start, Writer}
use Rattle.usbdisk.specs.runner.Lifetimes.{LineActs, Acts, AnswersFit, fused_after, text_of_lives}
use Rattle.usbdisk.specs.{runner.Script.StopsAt, runner.Text.line_for}

-- where this says that no fuse is armed, none is, and the power is on
abbrev pub FuseIs : Bool → LivesValue → Type 0
FuseIs fused lives = fused ≡ false → ((medium_in lives.state).power.fuse ≡ None)
    × ((medium_in lives.state).power.off ≡ false)

-- lives went on by these actions, with these answers, one an event
pub record Acted (old : LivesValue) (actions : List Action) (answers : List Answer)
    (new : LivesValue) : Type 0 where
  pub goes_on : LivesGoOn old actions answers new
  pub fits : (fused : Bool) → FuseIs fused old → AnswersFit fused actions answers
  pub fuse : (fused : Bool) → FuseIs fused old → FuseIs (fused_after fused actions) new

module _ (was now : Option (List ℕ)) (old : LivesValue) where
  -- they did, and exactly the text of the answers was appended
  pub record TellsLives (actions : List Action) (new : LivesValue) : Type 0 where
    pub answers : List Answer
    pub acted : Acted old actions answers new
    pub written : Appends was now (text_of_lives actions answers)

  -- they did, and the text of the answers was appended; the start that came next was refused
  pub record EndsUnstarted (actions : List Action) (answers : List Answer) (last : Action)
      (new : LivesValue) (fault : StartFault) : Type 0 where
    pub mid : LivesValue
    pub acted : Acted old actions answers mid
    pub is : last ≡ starts
    pub refused : LivesRefuseStart mid fault new
    pub written : Appends was now (text_of_lives actions answers)

  -- they did, and the text of the answers was appended; then came an event, whose answer was not
  -- written whole
  pub record EndsUnwritten (actions : List Action) (answers : List Answer) (last : Action)
      (new : LivesValue) : Type 0 where
    pub event : Event
    pub is : last ≡ plays event
    pub answer : Answer
    pub acted : Acted old (actions ++ plays event ∷ []) (answers ++ answer ∷ []) new
    pub written : AppendsUpTo was now (text_of_lives actions answers) (line_for event answer)

  -- Lives went on by these actions, and then ended at one more for a fault.
  abbrev pub EndsBy : List Action → List Answer → Action → LivesValue → ScriptFault → Type 0
  EndsBy actions answers last new (Start fault) = EndsUnstarted actions answers last new fault
  EndsBy actions answers last new Writer = EndsUnwritten actions answers last new
  EndsBy actions answers last new fault = ⊥

  -- the first of these actions were done, and at the next one lives ended for a fault
  pub record BreaksOff (actions : List Action) (new : LivesValue) (fault : ScriptFault)
      : Type 0 where
    pub first : List Action
    pub last : Action
    pub rest : List Action
    pub parts : actions ≡ first ++ last ∷ rest
    pub answers : List Answer
    pub ends : EndsBy first answers last new fault

  -- the lines of a script were played whole, and left this medium
  pub record PlaysAll (most : ℕ) (lines : List (List ℕ)) (after : Sim) : Type 0 where
    pub actions : List Action
    pub acts : Acts most lines actions
    pub new : LivesValue
    pub tells : TellsLives actions new
    pub left : medium_in new.state ≡ after

  -- they were played until a fault, at one of them, which left this medium
  pub record PlaysUpTo (most : ℕ) (lines : List (List ℕ)) (fault : ScriptFault) (back : Sim)
      : Type 0 where
    pub first : List Action
    pub part : List Action
    pub last : Action
    pub stops : StopsAt (LineActs most) lines first part last
    pub new : LivesValue
    pub answers : List Answer
    pub ends : EndsBy (first ++ part) answers last new fault
    pub left : medium_in new.state ≡ back
