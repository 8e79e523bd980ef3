-- A disk plays events.
use Rattle.std.specs.Prelude.{◌≡◌, suc, Bool, List, [], ◌∷◌, ◌++◌, length}
use Rattle.std.proofs.Common.{refl, ap, ◌∙◌, subst}
use Rattle.medium.specs.Medium.{State}
use Rattle.bot_machine.specs.Disk.{DiskValue, StepsThrough}
use Rattle.spec.specs.{declared.event.Event.Event, declared.event.Answer.Answer}
use Rattle.usbdisk.specs.{runner.Played.{StepsOn, packets_of}, runner.Players.IsPlayer}

module _ {M : Type 0} (state : M → State) where
  -- steps, and then others
  pub steps-append : (first rest : List Event) (told more : List Answer)
      (refused others : List Bool)
      (old mid new : DiskValue M)
      → StepsThrough state old first told refused mid → StepsThrough state mid rest more others new
      → StepsThrough state old (first ++ rest) (told ++ more) (refused ++ others) new
  steps-append [] rest [] more [] others old mid new done next =
      subst (λ (d : DiskValue M). StepsThrough state d rest more others new) done next
  steps-append (event ∷ first) rest (answer ∷ told) more (refusal ∷ refused) others old mid new done
      next = (
        done.0,
        done.1,
        steps-append first rest told more refused others done.0 mid new done.2 next,
      )
  steps-append _ rest _ more _ others old mid new done next = absurd done

  -- the size of packets stays
  pub packets_stay : (events : List Event) (answers : List Answer) (refusals : List Bool)
      (old new : DiskValue M) → StepsThrough state old events answers refusals new
      → new.line.packet_size ≡ old.line.packet_size
  packets_stay [] [] [] old new steps = ap (λ (d : DiskValue M). d.line.packet_size) steps
  packets_stay (event ∷ events) (answer ∷ answers) (refused ∷ refusals) old new steps =
      packets_stay events answers refusals steps.0 new steps.2 ∙ steps.1.0.packets_stay
  packets_stay _ _ _ old new steps = absurd steps

  pub one_each : (events : List Event) (answers : List Answer) (refusals : List Bool)
      (old new : DiskValue M) → StepsThrough state old events answers refusals new
      → length answers ≡ length events
  one_each [] [] [] old new steps = refl
  one_each (event ∷ events) (answer ∷ answers) (refused ∷ refusals) old new steps =
      ap suc (one_each events answers refusals steps.0 new steps.2)
  one_each _ _ _ old new steps = absurd steps

  pub disk_plays : (Follows : M → M → Type 0) → ((m : M) → Follows m m)
      → ((a b c : M) → Follows a b → Follows b c → Follows a c)
      → IsPlayer (StepsOn state Follows) packets_of
  disk_plays Follows itself follows_on = record {
    none = λ d. ([], refl, itself d.unit.store.medium);
    through = λ a b c first rest told more done next. (
      done.0 ++ next.0,
      steps-append first rest told more done.0 next.0 a b c done.1 next.1,
      follows_on _ _ _ done.2 next.2,
    );
    one_each = λ a b events answers done. one_each events answers done.0 a b done.1;
    most_stays = λ a b events answers done. packets_stay events answers done.0 a b done.1;
  }
