-- Lines that act on lives, one after another.
use Rattle.std.{proofs.Common.{◌≡◌, ℕ, List, [], ◌∷◌, ◌++◌, Option, refl}, specs.Prelude.flat_map}
use Rattle.medium.specs.Sim.{Sim}
use Rattle.spec.specs.Lives.{Action}
use Rattle.bot_machine.specs.LivesValue.{LivesValue, medium_in}
use Rattle.usbdisk.specs.{declared.runner.fault.ScriptFault.ScriptFault, declared.runner.kept.KeptWrites.KeptWrites}
use Rattle.usbdisk.specs.declared.runner.line.ScriptLine.{ScriptLine}
use Rattle.usbdisk.specs.{declared.runner.line.ScriptLine.TheVariants.{Fuse, Fail, Cut}, runner.Events.events_of, runner.Line.Spells}
use Rattle.usbdisk.specs.{runner.Lifetimes.{comes, actions_of, LineActs}, runner.PlayedLives.{TellsLives, BreaksOff, PlaysAll, PlaysUpTo}}
use Rattle.usbdisk.proofs.LifeActions.{tells-none, tells-more, ends-behind}
use Rattle.usbdisk.proofs.InTurn.{IsGivenTo, given-start, given-more, given-all, given-part}

acts_by_events : (asked : ScriptLine) → ((writes : ℕ) → asked ≡ Fuse writes → ⊥) → ((call : ℕ) → asked ≡ Fail call → ⊥)
    → ((kept : KeptWrites) → asked ≡ Cut kept → ⊥) → flat_map comes (events_of asked) ≡ actions_of asked
acts_by_events (Fuse writes) no_fuse no_fail no_cut = absurd (no_fuse writes refl)
acts_by_events (Fail call) no_fuse no_fail no_cut = absurd (no_fail call refl)
acts_by_events (Cut kept) no_fuse no_fail no_cut = absurd (no_cut kept refl)
acts_by_events _ no_fuse no_fail no_cut = refl

-- a line that is no fuse, no failure and no cut acts by its events
pub event_line_acts : (most : ℕ) (line : List ℕ) (asked : ScriptLine) → ((writes : ℕ) → asked ≡ Fuse writes → ⊥)
    → ((call : ℕ) → asked ≡ Fail call → ⊥) → ((kept : KeptWrites) → asked ≡ Cut kept → ⊥) → Spells most line asked
    → LineActs most line (flat_map comes (events_of asked))
event_line_acts most line asked no_fuse no_fail no_cut spelled =
    record { asked = asked; spelled = spelled; actions_are = acts_by_events asked no_fuse no_fail no_cut }

pub line_acts : (most : ℕ) (line : List ℕ) (asked : ScriptLine) → Spells most line asked → LineActs most line (actions_of asked)
line_acts most line asked spelled = record { asked = asked; spelled = spelled; actions_are = refl }

-- the lines before those left were played
pub record ArePlayedTo (most : ℕ) (was now : Option (List ℕ)) (old : LivesValue) (all left : List (List ℕ))
    (lives : LivesValue) : Type 0 where
  pub actions : List Action
  pub given : IsGivenTo (LineActs most) all left actions
  pub tells : TellsLives was now old actions lives

pub lines-none : {most : ℕ} (was : Option (List ℕ)) (lives : LivesValue) {all left : List (List ℕ)} → left ≡ all
    → ArePlayedTo most was was lives all left lives
lines-none {most} was lives same =
    record { actions = []; given = given-start (LineActs most) same; tells = tells-none was lives }

module _ {most : ℕ} {was mid : Option (List ℕ)} {old between : LivesValue} {all lines : List (List ℕ)}
    (so : ArePlayedTo most was mid old all lines between) where
  pub lines-all : {after : Sim} → lines ≡ [] → medium_in between.state ≡ after → PlaysAll was mid old most all after
  lines-all none is =
      record { actions = so.actions; acts = given-all (LineActs most) none so.given; new = between; tells = so.tells; left = is }

  module _ {line : List ℕ} {left : List (List ℕ)} (next : lines ≡ line ∷ left) {actions : List Action}
      (acts : LineActs most line actions) where
    pub lines-more : {now : Option (List ℕ)} {new : LivesValue} → TellsLives mid now between actions new
        → ArePlayedTo most was now old all left new
    lines-more {now} {new} tells = record {
      actions = so.actions ++ actions;
      given = given-more (LineActs most) so.given next actions acts;
      tells = tells-more so.tells tells;
    }

    -- a line broke off, and others were left
    pub lines-break : {now : Option (List ℕ)} {new : LivesValue} {fault : ScriptFault} {back : Sim}
        → BreaksOff mid now between actions new fault → medium_in new.state ≡ back → PlaysUpTo was now old most all fault back
    lines-break {now} {new} breaks is =
        record {
          first = so.actions;
          part = breaks.first;
          last = breaks.last;
          stops = given-part (LineActs most) so.given next breaks.first breaks.last breaks.rest (rw breaks.parts at acts);
          new = new;
          answers = so.tells.answers ++ breaks.answers;
          ends = ends-behind so.tells breaks;
          left = is;
        }
