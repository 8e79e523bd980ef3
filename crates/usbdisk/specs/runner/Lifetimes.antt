-- What a script of several lives plays, and its text.
use Rattle.std.specs.Prelude.{◌≡◌, ℕ, Bool, true, false, List, [], ◌∷◌, ◌++◌, flat_map, ◌==◌, None}
use Rattle.std.specs.List.{list_any}
use Rattle.medium.specs.Sim.{Sim, state_of}
use Rattle.bot_machine.specs.StartFaults.{StartFault}
use Rattle.bot_machine.specs.Lifetimes.{KeepsPromise, KeepsPromiseUpTo, IsRefusedFor}
use Rattle.bot_machine.specs.LivesValue.{IsAtRest}
use Rattle.bot_machine.specs.Moving.{medium_in, has_refused, MovesBy, IsRefusedStart}
use Rattle.bot_machine.specs.declared.lives.disk_state.DiskState.{DiskState}
use Rattle.bot_machine.specs.declared.lives.disk_state.DiskState.TheVariants.{Stopped}
use Rattle.spec.specs.{declared.event.Event.Event, declared.event.Answer.Answer}
use Rattle.spec.specs.declared.event.Answer.TheVariants.{Off}
use Rattle.spec.specs.Lives.{Action, arms, fails, starts, plays, cuts}
use Rattle.usbdisk.specs.declared.runner.kept.KeptWrites.{KeptWrites}
use Rattle.usbdisk.specs.declared.runner.line.ScriptLine.{ScriptLine}
use Rattle.usbdisk.specs.declared.runner.line.ScriptLine.TheVariants.{Fuse, Fail, Cut}
use Rattle.usbdisk.specs.runner.Line.{Spells}
use Rattle.usbdisk.specs.{runner.Events.events_of, runner.Script.{InTurn, device}}
use Rattle.usbdisk.specs.runner.Text.{line_for}
use Rattle.usbdisk.specs.declared.runner.kept.KeptWrites.TheVariants as kept

-- a life may begin over it: the power is on, nothing is unflushed, and no fuse is armed
pub record AwaitsLife (medium : Sim) : Type 0 where
  pub rests : IsAtRest medium
  pub unfused : medium.power.fuse ≡ None

-- whether the write of this number is kept
abbrev pub is_kept : KeptWrites → ℕ → Bool
is_kept kept.None number = false
is_kept kept.All number = true
is_kept (kept.These numbers) number = list_any (λ n. n == number) numbers.items

-- an event comes to a disk, which is started first where none runs
abbrev pub comes : Event → List Action
comes event = starts ∷ plays event ∷ []

-- what a line does
abbrev pub actions_of : ScriptLine → List Action
actions_of (Fuse writes) = arms writes ∷ []
actions_of (Fail call) = fails call ∷ []
actions_of (Cut kept) = cuts (is_kept kept) ∷ []
actions_of asked = flat_map comes (events_of asked)

-- the line does this, in a script of several lives, where packets have at most `most` bytes
pub record LineActs (most : ℕ) (line : List ℕ) (actions : List Action) : Type 0 where
  pub asked : ScriptLine
  pub spelled : Spells most line asked
  pub actions_are : actions ≡ actions_of asked

-- the lines of a script of several lives do this
abbrev pub Acts : ℕ → List (List ℕ) → List Action → Type 0
Acts most lines actions = InTurn (LineActs most) lines actions

-- the lines of the events among these actions and of their answers, one after another
abbrev pub text_of_lives : List Action → List Answer → List ℕ
text_of_lives (plays event ∷ actions) (answer ∷ answers) =
    line_for event answer ++ text_of_lives actions answers
text_of_lives (plays event ∷ actions) [] = []
text_of_lives (action ∷ actions) answers = text_of_lives actions answers
text_of_lives [] answers = []

-- whether a fuse is armed after an action
abbrev pub fuse_after : Bool → Action → Bool
fuse_after fused (arms writes) = true
fuse_after fused (cuts keeps) = false
fuse_after fused action = fused

-- Each event has one answer, which is Off only behind a fuse of the same life. The truth value says
-- that one is armed before; a failure of a call lets no power go.
abbrev pub AnswersFit : Bool → List Action → List Answer → Type 0
AnswersFit fused (plays event ∷ actions) (answer ∷ answers) = (answer ≡ Off → fused ≡ true)
    × AnswersFit fused actions answers
AnswersFit fused (plays event ∷ actions) [] = ⊥
AnswersFit fused (action ∷ actions) answers = AnswersFit (fuse_after fused action) actions answers
AnswersFit fused [] answers = answers ≡ []

-- whether a fuse is armed after these actions
abbrev pub fused_after : Bool → List Action → Bool
fused_after fused [] = fused
fused_after fused (action ∷ actions) = fused_after (fuse_after fused action) actions

-- Actions of a disk with packets of at most `most` bytes, over a medium in memory, and their
-- answers. They move the disk and its medium one after another, and leave this medium. A fuse, a
-- failure and a cut do exactly what they say, an event is one step of the disk, and each step in
-- the background is one. The truth values say in which of them the medium refused a call.
pub record AreMoved (most : ℕ) (before after : Sim) (actions : List Action)
    (answers : List Answer) (refusals : List Bool) : Type 0 where
  pub fits : AnswersFit false actions answers
  pub state : DiskState
  pub moves : MovesBy (device most) (Stopped before) actions answers refusals state
  pub left : medium_in state ≡ after
  pub size_stays : (state_of after).size ≡ (state_of before).size

-- Lives that keep the promise up to a start: no disk ran, and the start was refused with this fault
-- for a cause, though power did not go in it.
pub record AreStopped (most : ℕ) (before after : Sim) (actions : List Action)
    (answers : List Answer) (fault : StartFault)
    (kept : KeepsPromiseUpTo before (device most) actions answers after) : Type 0 where
  pub mid : Sim
  pub were_kept : KeepsPromise before (device most) actions answers mid
  pub same : kept.refusals ≡ were_kept.refusals
  pub in_start_is : kept.in_start ≡ has_refused (state_of mid) (state_of after)
  pub moved : AreMoved most before mid actions answers kept.refusals
  pub rests : moved.state ≡ Stopped mid
  pub start : IsRefusedStart mid fault after
  pub refused : IsRefusedFor before (device most) actions answers fault after kept
  pub size_stays : (state_of after).size ≡ (state_of before).size
