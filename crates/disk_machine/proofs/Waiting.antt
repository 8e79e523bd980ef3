-- A command that is pending goes on, or waits for a device that is at work.
use Rattle.std.proofs.Common.{◌≡◌, ◌⊎◌, ◌↔◌, ℕ, Bool, true, false, [], IsTrue, Option, Some, None, inl, inr, refl, ap, arith, length}
use Rattle.std.proofs.lemmas.Bool.{cases_lt}
use Rattle.scsi_unit.specs.Background.{is_dead}
use Rattle.scsi_unit.specs.declared.reading.HomeSectors.{HomeSectors}
use Rattle.scsi_unit.specs.{Pending.MayPromise, UnitValue.UnitValue, declared.progress.Want.Want}
use Rattle.scsi_unit.specs.declared.progress.Want.TheVariants as want
use Rattle.scsi.specs.Rules.{forces_reading}
use Rattle.scsi_unit.specs.Pending.{transfer_of}
use Rattle.scsi.specs.declared.command.Command.{Command}
use Rattle.window.specs.{Window.Window, declared.asked.Asked.Asked}
use Rattle.disk_machine.specs.{Going.NeverStuck, Machine.{Machine, IsCaughtUp, has_refused, under_way}, Plays.medium_of}
use Rattle.disk_machine.specs.{Seen.needed_home, Wanted.{HasPlace, LacksNone}}

-- whether one of these holds can be told
one_told : (dead : Bool) (left : ℕ) → (told : Bool) × (IsTrue told ↔ ((dead ≡ true) ⊎ (left ≡ 0)))
one_told true left = (true, (λ told. inl refl, λ one. refl))
one_told false left = elim (cases_lt 0 left) [
  | inl some ↦ (false, (λ told. absurd (let e = told in cc), λ one. absurd (grind (arith, one, some))))
  | inr none ↦ (true, (λ told. inr (omega (arith, none)), λ one. refl))
]

promise_told : (unit : UnitValue Window) (command : Command) (wanted : Want)
    → (told : Bool) × (IsTrue told ↔ MayPromise unit command wanted)
promise_told unit command want.Room = (false, (λ told. absurd (let e = told in cc), λ none. absurd none))
promise_told unit command want.Commit = one_told (is_dead unit.store.cached) _
promise_told unit command want.Read = (forces_reading (transfer_of command), (λ told. told, λ forces. forces))

place : (s : Machine) (needed : Option HomeSectors) → (medium_of s.disk).outbox ≡ [] → LacksNone s → HasPlace s needed
place s None empty none = omega (arith, ap (λ l. length l) empty)
place s (Some needed) empty none = inl none

pub never_stuck : NeverStuck
never_stuck s pending is stuck free none empty =
    let told = promise_told s.disk.disk.unit pending.wanted.command pending.wanted.want in
    let up : IsCaughtUp s = record {
      none_waits = empty;
      none_under_way = ap (λ (a : Asked). under_way a) free;
      none_refused = ap (λ (a : Asked). has_refused a) free;
    } in
    stuck (record {
      pending = pending;
      is = is;
      may_promise = told.0;
      told = rw is told.1;
      all_done = λ may. inl up;
      place = place s (needed_home s.disk) empty none;
    })
