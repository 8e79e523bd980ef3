-- What was made of an image on a device.
use Rattle.std.proofs.{Common.{◌≡◌, ◌⊎◌, inl, inr, ◌+◌, ◌<◌, Some, ◌≤◌, length, ap, sym, subst, arith}, lemmas.Bool.cases_lt}
use Rattle.medium.specs.{Sent.sent, declared.fault.MediumFault.MediumFault}
use Rattle.std.specs.{Prelude.Bool}
use Rattle.window.specs.{Window.{Window, state_of, kept_out, ComesAfter, CoversDevice}, Looks.{near_in_sight, none_missed}}
use Rattle.journal.specs.{Places.Shape}
use Rattle.recovery.specs.{Calls.MakesNoRead, Causes.start_fault_of}
use Rattle.recovery.specs.Recovered.{IsMigrationBy, IsMigrationRefusal, IsMigrationCause, MigrationLeaves}
use Rattle.recovery.specs.{declared.recovered.Recovered.Recovered, declared.start_fault.StartFault.StartFault}
use Rattle.image_calls.specs.{Parts.IsBegun, Formats.{BeginsMaking, most_of_part}, declared.work.Work.Work}
use Rattle.image_calls.specs.{declared.plan.Aim.Aim, declared.plan.Plan.Plan}
use Rattle.image_calls.specs.Images.{IsMigratedOn, IsMigratedNot, MissesNone}
use Rattle.recovery.specs.declared.start_fault.StartFault.TheVariants as start
use Rattle.medium.specs.declared.fault.MediumFault.TheVariants as kind

-- no write and no flush is refused for which there is room
pub kept_same : (old new : Window) → ComesAfter old new → length old.outbox + sent (state_of new) ≤ sent (state_of old) + old.room
    → kept_out new.seen.told.refused ≡ kept_out old.seen.told.refused
kept_same old new follows few = elim (cases_lt (kept_out old.seen.told.refused) (kept_out new.seen.told.refused)) [
  | inl more ↦ absurd (omega (arith, few, follows.refuses more, follows.room_stays))
  | inr none ↦ omega (arith, none, follows.failures_stay)
]

-- nothing that makes no read is refused then
pub none_refused : (old new : Window) → ComesAfter old new → length old.outbox + sent (state_of new) ≤ sent (state_of old) + old.room
    → MakesNoRead (state_of old) (state_of new) → ¬ ((state_of old).failures < (state_of new).failures)
none_refused old new follows few silent grew =
    let kept = kept_same old new follows few in
    let reads = silent.refused_stays in
    omega (arith, kept, reads, grew)

-- all that a migration reads lies in memory
misses_none : (first after : Window) → ComesAfter first after → MigrationLeaves (state_of first) (state_of after) → MissesNone first after
misses_none first after follows leaves log =
    none_missed (λ s. s < first.near) first after follows (near_in_sight first) (leaves.looks first.near log)

pub migrated_on : (first m new held : Window) (answer : Recovered) (was_one : Bool) → m ≡ first → held ≡ new
    → IsMigrationBy was_one (state_of m) (state_of new) answer → MigrationLeaves (state_of m) (state_of new) → ComesAfter m new
    → CoversDevice m new → IsMigratedOn first held
migrated_on first m new held answer was_one on same migrated leaves follows covers =
    subst (λ (w : Window). IsMigratedOn first w) (sym same)
    (subst (λ (w : Window). IsMigratedOn w new) on (record {
      answer = answer;
      was_one = was_one;
      migrated = migrated;
      leaves = leaves;
      waits = record { follows = follows; covers = covers };
      seen = misses_none m new follows leaves;
    }))

-- the call that the fault names was refused for want of room
grew : (m after : Window) (why : MediumFault) → IsMigrationCause (state_of m) (state_of after) (start_fault_of why)
    → (state_of m).refused why < (state_of after).refused why
grew m after kind.Read cause = cause.kind_grew
grew m after kind.Write cause = cause.kind_grew
grew m after kind.Flush cause = cause.kind_grew

no_room : (m after : Window) → length m.outbox ≡ 0 → ComesAfter m after → kept_out m.seen.told.refused < kept_out after.seen.told.refused
    → sent (state_of m) + m.room < sent (state_of after)
no_room m after empty follows more = omega (arith, empty, follows.refuses more, follows.room_stays)

full : (m after : Window) (why : StartFault) → length m.outbox ≡ 0 → IsMigrationRefusal (state_of m) (state_of after) why
    → MigrationLeaves (state_of m) (state_of after) → ComesAfter m after → (why ≡ start.Write) ⊎ (why ≡ start.Flush)
    → sent (state_of m) + m.room < sent (state_of after)
full m after why empty refusal leaves follows (inl is) = no_room m after empty follows (omega (
  arith,
  grew m after kind.Write (subst (IsMigrationCause (state_of m) (state_of after)) is refusal.cause),
  leaves.moments.refused_stay kind.Flush,
))
full m after why empty refusal leaves follows (inr is) = no_room m after empty follows (omega (
  arith,
  grew m after kind.Flush (subst (IsMigrationCause (state_of m) (state_of after)) is refusal.cause),
  leaves.moments.refused_stay kind.Write,
))

pub migrated_not : (first m after : Window) (why : StartFault) → m ≡ first → length m.outbox ≡ 0
    → IsMigrationRefusal (state_of m) (state_of after) why → MigrationLeaves (state_of m) (state_of after) → ComesAfter m after
    → IsMigratedNot first after why
migrated_not first m after why on empty refusal leaves follows =
    subst (λ (w : Window). IsMigratedNot w after why) on (record {
      refusal = refusal;
      follows = follows;
      leaves = leaves;
      full = full m after why empty refusal leaves follows;
      kept = λ shape has room. let most = leaves.sends.most shape has in kept_same m after follows (omega (arith, empty, room, most));
      seen = misses_none m after follows leaves;
    })

-- ---- an image that has begun

-- two calls wait
pub begins : (what : Aim) (shape : Shape) (first m new : Window) (plan : Plan) (held : Work) → m ≡ first
    → held ≡ record { medium = new; left = Some plan }
    → first.room ≡ most_of_part → IsBegun state_of what shape plan m new → ComesAfter m new
    → CoversDevice m new → BeginsMaking what shape first held
begins what shape first m new plan held on same room begun follows covers =
    subst (λ (w : Work). BeginsMaking what shape first w) (sym same)
    (subst (λ (w : Window). BeginsMaking what shape w (record { medium = new; left = Some plan })) on (record {
      making = record {
        on_way = begun.0;
        room = omega (arith, room, ap (λ (w : Window). w.room) on, follows.room_stays);
      };
      calls = begun.1;
      waits = record { follows = follows; covers = covers };
    }))
