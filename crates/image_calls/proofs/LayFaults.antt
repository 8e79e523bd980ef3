-- A medium for a plan that fits refuses no call that the plan makes.
use Rattle.std.proofs.Common.{◌≡◌, ◌-◌, ◌*◌, ◌≤◌, ◌++◌, ℕ, List, length, arith, length-append, ap, sym, subst}
use Rattle.std.proofs.lemmas.List.{length-take, length-replicate}
use Rattle.std.specs.Prelude.{replicate, take}
use Rattle.window.specs.Window.{Window, state_of, ComesAfter}
use Rattle.journal.specs.Places.{Shape}
use Rattle.recovery.specs.{Calls.{AreSizes, IsFormatCause}, declared.format_fault.FormatFault.FormatFault}
use Rattle.recovery.specs.declared.format_fault.FormatFault.TheVariants as format_fault
use Rattle.image_calls.specs.{Parts.SendsPart, Formats.most_of_part, Plans.{shape_by, medium_by}, declared.image_plan.ImagePlan.ImagePlan}
use Rattle.image_calls.proofs.{Laid.none_refused}

module _ (near holds : List ℕ) (plan : ImagePlan) where
  -- the medium has as many sectors as the plan says, or more
  size_is : plan.sectors ≤ (state_of (medium_by near holds plan)).size
  size_is = let rest : ℕ = 512 * plan.sectors - length near in omega (
    arith,
    length-append near (take rest (holds ++ replicate rest 0)),
    length-take rest (holds ++ replicate rest 0),
    length-append holds (replicate rest 0),
    length-replicate {A = ℕ} rest 0,
  )

  sizes_on : AreSizes plan.sectors (shape_by plan) → AreSizes (state_of (medium_by near holds plan)).size (shape_by plan)
  sizes_on sizes = record {
    some_blocks = sizes.some_blocks;
    most_blocks = sizes.most_blocks;
    some_slots = sizes.some_slots;
    most_slots = sizes.most_slots;
    home_is = sizes.home_is;
    fits = omega (arith, sizes.fits, size_is);
  }

  -- so many calls that read nothing
  pub never_fails : (shape : Shape) (m new : Window) (fault : FormatFault) (most : ℕ) → m ≡ medium_by near holds plan
      → shape ≡ shape_by plan → AreSizes plan.sectors (shape_by plan) → ComesAfter m new
      → SendsPart most (state_of m) (state_of new) → most ≤ most_of_part
      → IsFormatCause shape (state_of m) (state_of new) fault → ⊥
  never_fails shape m new format_fault.BadSize most on same sizes follows sends few cause =
      cause (subst (λ (s : Shape). AreSizes (state_of m).size s) (sym same)
      (subst (λ (w : Window). AreSizes (state_of w).size (shape_by plan)) (sym on) (sizes_on sizes)))
  never_fails shape m new format_fault.Medium most on same sizes follows sends few cause =
      none_refused m new follows (omega (
        arith,
        ap (λ (w : Window). length w.outbox) on,
        ap (λ (w : Window). w.room) on,
        sends.1,
        few,
      )) sends.0 cause.1
