-- No recovery and no migration in a window over the first sectors of an image misses.
use Rattle.std.{proofs.Common.{◌≡◌, ◌<◌, ◌≤◌, ◌+◌, ◌*◌, ℕ, List, length, min, arith, refl, sym, ap, subst}, specs.Prelude.Option}
use Rattle.medium.specs.{Medium.State, Sent.SendsUpTo, Writes.sector_of, declared.fault.MediumFault.MediumFault}
use Rattle.journal.specs.{Standing.HasShape, Places.Shape, Sectors.IsSuper, Formats.shape_of, declared.super_sector.Super.Super}
use Rattle.journal.proofs.SectorNumbers.{IsSuper-one}
use Rattle.recovery.specs.Causes.{IsDeviceFault, IsCause, IsRefusalBy, MakesReadsAlone, WritesNothing, start_fault_of, IsLookCause}
use Rattle.recovery.specs.{Calls.{HoldsLog, LooksAtLog}, declared.start_fault.StartFault.StartFault}
use Rattle.window.specs.{Window.{Window, state_of, fresh, ComesAfter, IsServed}, Looks.{near_in_sight, none_refused}}
use Rattle.window.proofs.Kept.{opened_length, opened_front}
use Rattle.device_file.{proofs.Fresh.served_after, specs.{First.near_of, declared.opening.FirstSectors.FirstSectors}}
use Rattle.usbdisk.specs.images.Opened.{HaveImage, IsWindowOver}
use Rattle.medium.specs.declared.fault.MediumFault.TheVariants as kind

module _ (sectors : ℕ) (bytes holds : List ℕ) (room : ℕ) (sizes : Super) (some : 0 < sectors)
    (count : length bytes ≡ 512 * min sizes.home sectors) (spells : IsSuper (shape_of sizes) (sector_of bytes 0))
    (fits : sizes.home + sizes.blocks ≤ sectors) where
  abbrev over : Window
  over = fresh sectors bytes holds 0 room

  size_is : (state_of over).size ≡ sectors
  size_is = omega (arith, opened_length sectors bytes holds (omega (arith, count)))

  at_0 : (state_of over).content 0 ≡ sector_of bytes 0
  at_0 = sym (opened_front sectors bytes holds 0 (omega (arith, some, spells.home_is.0, count)))

  shaped : HasShape (state_of over).size (shape_of sizes) (state_of over).content
  shaped = record { super = subst (IsSuper (shape_of sizes)) (sym at_0) spells; fits = omega (arith, fits, size_is) }

  held : HoldsLog over.near (state_of over).size (state_of over).content
  held = record {
    some = omega (arith, some, spells.home_is.0, count);
    log = λ shape has.
        let same = IsSuper-one shape (shape_of sizes) (sector_of bytes 0) (subst (IsSuper shape) at_0 has.super) spells in
        omega (arith, count, has.fits, size_is, ap (λ (s : Shape). s.home) same, ap (λ (s : Shape). s.blocks) same);
  }

  none : (after : Window) → IsServed over after → LooksAtLog (state_of over) (state_of after)
      → SendsUpTo room (state_of over) (state_of after) → (state_of after).failures ≡ (state_of over).failures
  none after served looks sends = none_refused (λ s. s < over.near) over after served (near_in_sight over)
      (looks over.near held) (omega (arith, sends))

-- So over the first sectors of an image, where there is the room.
pub misses : (first : FirstSectors) (device : List ℕ) (sizes : Super) (room : ℕ) (w after : Window)
    → IsWindowOver first device room w → HaveImage first sizes → ComesAfter w after → LooksAtLog (state_of w) (state_of after)
    → ((shape : Shape) → shape ≡ shape_of sizes → HasShape (state_of w).size shape (state_of w).content
    → SendsUpTo room (state_of w) (state_of after))
    → (state_of after).failures ≡ (state_of w).failures
misses first device sizes room w after is have follows looks sends =
    let counted = subst (λ (z : Option Super). length first.bytes.items ≡ 512 * min (near_of z) first.sectors) have.sizes_are
    first.count in
    let whole = shaped first.sectors first.bytes.items device room sizes first.some counted have.spells have.fits in
    let here = subst (λ (v : Window). HasShape (state_of v).size (shape_of sizes) (state_of v).content) (sym is) whole in
    let same = none first.sectors first.bytes.items device room sizes first.some counted have.spells have.fits after
    (subst (λ (v : Window). IsServed v after) is (served_after w after follows))
    (subst (λ (v : Window). LooksAtLog (state_of v) (state_of after)) is looks)
    (subst (λ (v : Window). SendsUpTo room (state_of v) (state_of after)) is (sends (shape_of sizes) refl here)) in
    subst (λ (v : Window). (state_of after).failures ≡ (state_of v).failures) (sym is) same

-- the fault is none of a call then
grew : (before after : State) (why : MediumFault) → IsCause before after (start_fault_of why) → before.failures < after.failures
grew before after kind.Read cause = cause.grew
grew before after kind.Write cause = cause.grew
grew before after kind.Flush cause = cause.grew

pub by_image : (before after : State) (fault : StartFault) → after.failures ≡ before.failures → IsCause before after fault
    → ¬ IsDeviceFault fault
by_image before after fault same cause (why, is) =
    absurd (omega (arith, same, grew before after why (subst (IsCause before after) is cause)))

grew_there : (before after : State) (why : MediumFault) → IsRefusalBy 5 WritesNothing before after (start_fault_of why)
    → before.failures < after.failures
grew_there before after kind.Read cause = cause.grew
grew_there before after kind.Write cause = cause.grew
grew_there before after kind.Flush cause = cause.grew

pub migration_by_image : (before after : State) (fault : StartFault) → after.failures ≡ before.failures
    → IsRefusalBy 5 WritesNothing before after fault → ¬ IsDeviceFault fault
migration_by_image before after fault same cause (why, is) =
    absurd (omega (arith, same, grew_there before after why (subst (IsRefusalBy 5 WritesNothing before after) is cause)))

grew_looking : (before after : State) (why : MediumFault) → IsLookCause before after (start_fault_of why) → before.failures < after.failures
grew_looking before after kind.Read cause = cause.grew
grew_looking before after kind.Write cause = cause.grew
grew_looking before after kind.Flush cause = cause.grew

pub look_by_image : (before after : State) (fault : StartFault) → after.failures ≡ before.failures → IsLookCause before after fault
    → ¬ IsDeviceFault fault
look_by_image before after fault same cause (why, is) =
    absurd (omega (arith, same, grew_looking before after why (subst (IsLookCause before after) is cause)))

-- reads alone send nothing
pub none_sent : (before after : State) → MakesReadsAlone before after → SendsUpTo 0 before after
none_sent before after reads = omega (arith, reads kind.Write (λ e. cc e), reads kind.Flush (λ e. cc e))
