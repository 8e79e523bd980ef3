-- A step of a disk, with what its medium says of all that may come: its room is enough, and what it reads is in sight.
use Rattle.std.proofs.Common.{◌≡◌, ◌++◌, [], ℕ, true, List, length, inl, inr, arith, refl, sym, ◌∙◌, ap, Some, None}
use Rattle.std.proofs.{Common.length-append, lemmas.{Bool.false≢true, List.{append-nil, nil_from_length}}}
use Rattle.std.specs.Prelude.{Option}
use Rattle.medium.specs.{Medium.LooksOnly, Sent.{sent, SendsUpTo}}
use Rattle.spec.specs.declared.event.{Event.TheVariants.Tick, Answer.TheVariants.Ticked}
use Rattle.window.specs.{Story.given, declared.call.DeviceCall.DeviceCall, Window.{Window, state_of, is_in_sight, ComesAfter}}
use Rattle.window.specs.{WindowLaws.{comes_after_itself}, Looks.{near_in_sight, none_refused, none_missed, none_kept_out}}
use Rattle.scsi_unit.specs.{Background.{Work}, Calls.ComesBy, Reading.{IsOneOf, ReadsBackOr}}
use Rattle.scsi_unit.proofs.UnitRuns.{comes_itself}
use Rattle.bot_machine.specs.LaggingDisk.{IsLagStep, MakesStep, MayPromiseNext, WorksAside}
use Rattle.bot_machine.specs.declared.pending.Pending.{Pending}
use Rattle.disk_machine.specs.Plays.{Disk, Foresees, PlaysPending, PlaysTick, PlaysWork, is_faulted, medium_of, unit_of}
use Rattle.disk_machine.specs.{Refusals.{HoldsLog, SeesHome}, Seen.{most_sends, needed_home}}

-- a sector that a step names is in sight
named_in_sight : (disk : Disk) → HoldsLog disk → SeesHome disk → (s : ℕ) → ReadsBackOr (unit_of disk) (needed_home disk) s
    → is_in_sight (medium_of disk) s ≡ true
named_in_sight disk (inl keeps) home s (inl back) = absurd (false≢true (sym back.0 ∙ keeps))
named_in_sight disk (inr log) home s (inl back) = near_in_sight (medium_of disk) s (omega (arith, back.1, log))
named_in_sight disk log home s (inr at) = one (needed_home disk) refl at
  where
    one : (needed : Option _) → needed_home disk ≡ needed → IsOneOf needed s → is_in_sight (medium_of disk) s ≡ true
    one None is none = absurd none
    one (Some wanted) is within = home wanted is s within.0 within.1

-- where no call was made nothing was given to the device
asks_nothing : (old new : Window) → ComesAfter old new → (state_of new).calls ≡ (state_of old).calls → new.outbox ≡ old.outbox
asks_nothing old new follows same =
    let none : follows.since ≡ [] = nil_from_length follows.since
    (omega (arith, same, simp length-append at (ap (λ (l : List (Option DeviceCall)). length l) follows.asked))) in
    follows.outbox ∙ ap (λ (l : List (Option DeviceCall)). old.outbox ++ given l) none ∙ append-nil old.outbox

module _ {Promises : Type 0} (old new : Disk) (sees : Foresees (medium_of old))
    (step : IsLagStep Promises (state_of (medium_of old)) (state_of (medium_of new)) old Tick Ticked new)
    (comes : ComesBy state_of ComesAfter (unit_of old).store (unit_of new).store)
    (sent_few : SendsUpTo (most_sends old) (state_of (medium_of old)) (state_of (medium_of new)))
    (looks : LooksOnly (ReadsBackOr (unit_of old) (needed_home old)) (state_of (medium_of old)) (state_of (medium_of new)))
    (dead : is_faulted old ≡ true → (medium_of new).outbox ≡ (medium_of old).outbox) where
  pub ticked : PlaysTick Promises old new
  ticked =
      let follows = comes.medium in
      let named = ReadsBackOr (unit_of old) (needed_home old) in
      let sight = λ (seen : HoldsLog old × SeesHome old). named_in_sight old seen.0 seen.1 in
      let served = sees.served (medium_of new) follows in record {
        step = step;
        follows = follows;
        comes = comes;
        covers = sees.covers (medium_of new) follows;
        parts = sees.parts (medium_of new) follows;
        served = served;
        refuses = record {
          kept = λ room. none_kept_out (medium_of old) (medium_of new) follows (omega (arith, room, sent_few));
          seen = λ seen. none_missed named (medium_of old) (medium_of new) follows (sight seen) looks;
          none = λ room seen. none_refused named (medium_of old) (medium_of new) served (sight seen) looks (omega (arith, room, sent_few));
        };
        faulted = λ was. (dead was, step.dead_stays was);
      }

-- nothing is named where the medium stays
none_named : (P : ℕ → Type 0) (old new : Window) → new ≡ old → LooksOnly P (state_of old) (state_of new)
none_named P old new same =
    rw same (record { looks = []; looked = sym (append-nil old.seen.looked); only = λ k d low. absurd (omega (arith, low)) })

module _ (old new : Disk) (sees : Foresees (medium_of old)) where
  -- a step of the command that is pending, or none
  pub pending_played : IsLagStep (MayPromiseNext old) (state_of (medium_of old)) (state_of (medium_of new)) old Tick Ticked new
      → MakesStep state_of ComesAfter old new → PlaysPending old new
  pending_played step makes = record { plays = by old.pending refl; makes = makes }
    where
      dead : is_faulted old ≡ true → (medium_of new).outbox ≡ (medium_of old).outbox
      dead was = ap (λ s. s.medium.outbox) (makes.dead was)

      by : (pending : Option Pending) → old.pending ≡ pending → PlaysTick (MayPromiseNext old) old new
      by None is =
          let same : medium_of new ≡ medium_of old = ap (λ u. u.store.medium) (rw is at makes.calls) in
          ticked old new sees step makes.follows (omega (arith, ap (λ (w : Window). sent (state_of w)) same)) (none_named _ _ _ same) dead
      by (Some pending) is =
          let calls = rw is at makes.calls in
          ticked old new sees step makes.follows (rw is calls.sent) (rw is calls.looks) dead

  -- a step in the background, or none
  pub work_played : (work : Work) → IsLagStep ⊥ (state_of (medium_of old)) (state_of (medium_of new)) old Tick Ticked new
      → WorksAside work state_of ComesAfter old.pending old new → PlaysWork work old new
  work_played work step works = record { plays = by old.pending refl; works = works }
    where
      by : (pending : Option Pending) → old.pending ≡ pending → PlaysTick ⊥ old new
      by None is =
          let made = rw is at works in
          ticked old new sees step made.1.follows (rw is made.1.step.ticks.0.sent) (rw is made.1.step.looks)
          (λ was. asks_nothing (medium_of old) (medium_of new) made.1.follows.medium (made.1.step.few.faulted was).0)
      by (Some pending) is =
          let same : new ≡ old = (rw is at works) ∙ (λ i. record old { pending = sym is i }) in
          let medium = ap (λ (d : Disk). medium_of d) same in
          ticked old new sees step (rw same (comes_itself comes_after_itself))
          (omega (arith, ap (λ (w : Window). sent (state_of w)) medium)) (none_named _ _ _ medium)
          (λ was. ap (λ (w : Window). w.outbox) medium)
