-- A disk over a file plays events.
use Rattle.std.specs.Prelude.{◌≡◌, ℕ, suc, true, Bool, List, [], ◌∷◌, ◌++◌, length}
use Rattle.std.proofs.Common.{inl, inr, refl, ap, ◌∙◌, subst}
use Rattle.spec.specs.{declared.event.Event.Event, declared.event.Answer.Answer}
use Rattle.spec.specs.declared.event.Event.TheVariants as event
use Rattle.device_file.specs.Asked.{Told}
use Rattle.window.specs.declared.call.DeviceCall.{DeviceCall}
use Rattle.usbdisk.specs.{runner.Played.packets_of, runner.Players.IsPlayer}
use Rattle.usbdisk.specs.{live.Missing.DiskOn, live.Playing.{Prepares, Plays, AnswersThrough}}

module _ {D : Type 0} (told : D → Told) (at_once : D → List DeviceCall → D → Type 0)
    (holds : D → ℕ → List ℕ → Type 0) (refuses : D → ℕ → ℕ → Type 0) where
  abbrev Through : DiskOn D → List Event → List Answer → DiskOn D → Type 0
  Through = AnswersThrough told at_once holds refuses

  through-append : (first rest : List Event) (said more : List Answer) (old mid new : DiskOn D)
      → Through old first said mid → Through mid rest more new
      → Through old (first ++ rest) (said ++ more) new
  through-append [] rest [] more old mid new done next =
      subst (λ (d : DiskOn D). Through d rest more new) done next
  through-append (event ∷ first) rest (answer ∷ said) more old mid new done next =
      (done.0, done.1, through-append first rest said more done.0 mid new done.2 next)
  through-append _ rest _ more old mid new done next = absurd done

  -- the size of packets stays
  pub prepared_keeps : (old : DiskOn D) (event : Event) (new : DiskOn D)
      → Prepares told at_once holds refuses old event new → packets_of new ≡ packets_of old
  prepared_keeps old (event.Out packet) new (inl none) =
      ap (λ (d : DiskOn D). d.line.packet_size) none.1
  prepared_keeps old (event.Out packet) new (inr (first, count, wants, inl sees)) =
      ap (λ (d : DiskOn D). d.line.packet_size) sees.others
  prepared_keeps old (event.Out packet) new (inr (first, count, wants, inr misses)) =
      ap (λ (d : DiskOn D). d.line.packet_size) misses.1
  prepared_keeps old _ new same = ap (λ (d : DiskOn D). d.line.packet_size) same

  plays_keeps : (old : DiskOn D) (event : Event) (answer : Answer) (good : Bool) (new : DiskOn D)
      → Plays told at_once holds refuses old event answer good new → packets_of new ≡ packets_of old
  plays_keeps old event answer good new plays =
      ap (λ (d : DiskOn D). d.line.packet_size) plays.plays.others
      ∙ plays.plays.step.packets_stay ∙ prepared_keeps old event plays.ready plays.prepares

  through_keeps : (events : List Event) (answers : List Answer) (old new : DiskOn D)
      → Through old events answers new → packets_of new ≡ packets_of old
  through_keeps [] [] old new done = ap (λ (d : DiskOn D). d.line.packet_size) done
  through_keeps (event ∷ events) (answer ∷ answers) old new done =
      through_keeps events answers done.0 new done.2
      ∙ plays_keeps old event answer true done.0 done.1
  through_keeps _ _ old new done = absurd done

  one_each : (events : List Event) (answers : List Answer) (old new : DiskOn D)
      → Through old events answers new → length answers ≡ length events
  one_each [] [] old new done = refl
  one_each (event ∷ events) (answer ∷ answers) old new done =
      ap suc (one_each events answers done.0 new done.2)
  one_each _ _ old new done = absurd done

  pub file_plays : IsPlayer Through packets_of
  file_plays = record {
    none = λ d. refl;
    through = λ a b c first rest said more done next.
        through-append first rest said more a b c done next;
    one_each = λ a b events answers done. one_each events answers a b done;
    most_stays = λ a b events answers done. through_keeps events answers a b done;
  }
