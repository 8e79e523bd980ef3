-- A migration has the room that it needs.
use Rattle.std.proofs.{Common.{◌≡◌, ◌⊎◌, inl, inr, ◌+◌, ◌*◌, ◌≤◌, ℕ, List, length, refl, sym, subst, arith}, lemmas.Bool.cases_lt}
use Rattle.medium.specs.{Sent.{sent, SendsUpTo}, Writes.sector_of}
use Rattle.journal.proofs.{SectorNumbers.IsSuper-one}
use Rattle.journal.specs.{Places.{Shape, sectors_of, limit_of, slot_sectors_of}, Sectors.IsSuper, Standing.HasShape}
use Rattle.journal.specs.{declared.log_format.LogFormat.LogFormat, declared.log_format.LogFormat.TheVariants.{One, Two}}
use Rattle.recovery.specs.{Calls.HoldsLog, Recovered.{IsMigrationCause, most_migration_sends}, declared.start_fault.StartFault.StartFault}
use Rattle.window.specs.Window.{Window, state_of, fresh}
use Rattle.window.proofs.{Kept.opened_front}
use Rattle.store_calls.specs.{Starts.IsNoLength}
use Rattle.image_calls.specs.{Images.IsMigratedNot, Plans.{IsRoomToMigrate, IsMigratedNever, IsMigrateRefusal}}
use Rattle.image_calls.specs.{declared.image_fault.ImageFault.ImageFault}
use Rattle.recovery.specs.declared.start_fault.StartFault.TheVariants as start
use Rattle.image_calls.specs.declared.image_fault.ImageFault.TheVariants as fault

-- what a migration sends
pub sends_one : (format : LogFormat) (slots : ℕ) → format ≡ One
    → (limit_of format * slots + 4) + slot_sectors_of format * slots + 5 ≡ most_migration_sends format slots
sends_one One slots is = omega arith
sends_one Two slots is = absurd (cc is)

pub sends_two : (format : LogFormat) (slots : ℕ) → ¬ (format ≡ One) → limit_of format * slots + 4 ≡ most_migration_sends format slots
sends_two One slots is = absurd (is refl)
sends_two Two slots is = refl

some_sends : (format : LogFormat) (slots : ℕ) → 1 ≤ most_migration_sends format slots
some_sends One slots = omega arith
some_sends Two slots = omega arith

module _ (near : List ℕ) (sectors : ℕ) (holds : List ℕ) (room : ℕ) (some : 512 ≤ length near) (has : IsRoomToMigrate near room)
    (after : Window) (why : StartFault) (not : IsMigratedNot (fresh sectors near holds 0 room) after why) where
  abbrev first : Window
  first = fresh sectors near holds 0 room

  begins : sector_of near 0 ≡ (state_of first).content 0
  begins = opened_front sectors near holds 0 (omega (arith, some))

  super_of : (shape : Shape) → HasShape (state_of first).size shape (state_of first).content → IsSuper shape (sector_of near 0)
  super_of shape is = subst (λ (b : List ℕ). IsSuper shape b) (sym begins) is.super

  -- there is room for all that it sends
  by_super : (shape : Shape) → IsSuper shape (sector_of near 0) → room ≡ most_migration_sends shape.format shape.slots
      → sent (state_of after) ≤ sent (state_of first) + room
  by_super shape super is = elim (cases_lt (state_of first).size (sectors_of shape)) [
    | inl short ↦
        let none : SendsUpTo 1 (state_of first) (state_of after) = not.leaves.sends.none (λ other there.
        let same = IsSuper-one shape other (sector_of near 0) super (super_of other there) in
        absurd (omega (arith, short, subst (λ (s : Shape). sectors_of s ≤ (state_of first).size) (sym same) there.fits))) in
        omega (arith, none, is, some_sends shape.format shape.slots)
    | inr long ↦
        let most : SendsUpTo (most_migration_sends shape.format shape.slots) (state_of first) (state_of after) =
        not.leaves.sends.most shape (record { super = subst (λ (b : List ℕ). IsSuper shape b) begins super; fits = long }) in
        omega (arith, most, is)
  ]

  enough : sent (state_of after) ≤ sent (state_of first) + room
  enough = elim has [
    | inl super ↦ by_super super.0 super.1 super.2
    | inr none ↦
        let few : SendsUpTo 1 (state_of first) (state_of after) =
        not.leaves.sends.none (λ other there. none.0 other (super_of other there)) in
        omega (arith, few, none.1)
  ]

  full_not : ¬ ((why ≡ start.Write) ⊎ (why ≡ start.Flush))
  full_not is = absurd (omega (arith, not.full is, enough))

  reads : HoldsLog first.near (state_of first).size (state_of first).content → ¬ (why ≡ start.Read)
  reads log is =
      let cause = subst (λ (w : StartFault). IsMigrationCause (state_of first) (state_of after) w) is not.refusal.cause in
      absurd (omega (arith, cause.kind_grew, not.seen log))

  pub never : IsMigratedNever first why
  never = record {
    after = after;
    refusal = not.refusal;
    no_write = λ is. full_not (inl is);
    no_flush = λ is. full_not (inr is);
    no_read = reads;
  }

-- no medium is made
pub no_medium : (near : List ℕ) (sectors : ℕ) (first : Window) (why : ImageFault)
    → (why ≡ fault.Start start.NoMemory) ⊎ ((why ≡ fault.Length) × IsNoLength near sectors)
    → IsMigrateRefusal near sectors first why
no_medium near sectors first why (inl memory) = subst (λ (w : ImageFault). IsMigrateRefusal near sectors first w) (sym memory) (inl refl)
no_medium near sectors first why (inr (is, bad)) = subst (λ (w : ImageFault). IsMigrateRefusal near sectors first w) (sym is) bad
