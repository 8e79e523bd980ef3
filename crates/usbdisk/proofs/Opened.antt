-- A window over the first sectors of a file is ready for a start.
use Rattle.std.proofs.Common.{◌≡◌, ◌<◌, ◌≤◌, ◌+◌, ◌*◌, ℕ, List, length, min, inl, inr, arith, refl, sym, ap, subst}
use Rattle.std.{proofs.lemmas.Bool.{cases_Bool, leb-true, leb-false}, specs.Prelude.{Option, Some, None, nat_le}}
use Rattle.medium.specs.Writes.{sector_of}
use Rattle.journal.specs.{Places.Shape, Sectors.IsSuper, Standing.HasShape, Formats.shape_of, declared.super_sector.Super.Super}
use Rattle.journal.proofs.SectorNumbers.{IsSuper-one}
use Rattle.window.{specs.Window.{Window, state_of, fresh}, proofs.Kept.{opened_length, opened_front}}
use Rattle.device_file.{proofs.Fresh.covers_fresh, specs.First.{SpellsSuper, near_of}}
use Rattle.usbdisk.specs.{live.Ready.{IsReadyToStart, HasRoomToStart}, live.Starting.{IsWindowOf, room_for}}

module _ (sectors : ℕ) (bytes device : List ℕ) (some : 0 < sectors) where
  abbrev over : ℕ → Window
  over room = fresh sectors bytes device 240 room

  size_is : (room near : ℕ) → length bytes ≡ 512 * min near sectors → (state_of (over room)).size ≡ sectors
  size_is room near count = omega (arith, opened_length sectors bytes device (omega (arith, count)))

  at_0 : (room near : ℕ) → 0 < near → length bytes ≡ 512 * min near sectors → (state_of (over room)).content 0 ≡ sector_of bytes 0
  at_0 room near first count = sym (opened_front sectors bytes device 0 (omega (arith, some, first, count)))

  -- the image of such a medium is the one that its first sector tells
  image_is : (sizes : Super) (room : ℕ) (shape : Shape) → IsSuper (shape_of sizes) (sector_of bytes 0)
      → length bytes ≡ 512 * min sizes.home sectors → HasShape (state_of (over room)).size shape (state_of (over room)).content
      → (shape.home ≡ sizes.home) × (sizes.home + sizes.blocks ≤ sectors)
  image_is sizes room shape is count has =
      let zero = at_0 room sizes.home (omega (arith, is.home_is.0)) count in
      let same = IsSuper-one shape (shape_of sizes) (sector_of bytes 0) (subst (IsSuper shape) zero has.super) is in
      let home = ap (λ (s : Shape). s.home) same in
      (home, omega (arith, has.fits, size_is room sizes.home count, home, ap (λ (s : Shape). s.blocks) same))

  -- with a super, whose image may be longer than the file
  room_of_image : (sizes : Super) → IsSuper (shape_of sizes) (sector_of bytes 0) → length bytes ≡ 512 * min sizes.home sectors
      → HasRoomToStart (state_of (over (room_for sectors (Some sizes)))).size (state_of (over (room_for sectors (Some sizes)))).content
      (room_for sectors (Some sizes))
  room_of_image sizes is count =
      let room = room_for sectors (Some sizes) in
      let zero = at_0 room sizes.home (omega (arith, is.home_is.0)) count in
      elim (cases_Bool (nat_le (sizes.home + sizes.blocks) sectors)) [
        | inl fits ↦ (
            let few : sizes.home + sizes.blocks ≤ sectors = leb-true (sizes.home + sizes.blocks) sectors fits in
            let stands : sizes.home + sizes.blocks ≤ (state_of (over room)).size = omega (arith, few, size_is room sizes.home count) in
            inl (shape_of sizes, record { super = rw zero is; fits = stands }, rw fits (omega arith)))
        | inr not ↦ inr (
          λ shape has. absurd (omega (arith, leb-false _ _ not, (image_is sizes room shape is count has).1)),
          rw not (omega arith),
        )
      ]

  ready : (sizes : Option Super) → SpellsSuper sizes (sector_of bytes 0) → length bytes ≡ 512 * min (near_of sizes) sectors
      → IsReadyToStart (over (room_for sectors sizes))
  ready (Some sizes) spells count =
      let room = room_for sectors (Some sizes) in record {
        empty = refl;
        log = record {
          some = omega (arith, some, spells.home_is.0, count);
          log = λ shape has. let is = image_is sizes room shape spells count has in omega (arith, count, is.0, is.1);
        };
        room = room_of_image sizes spells count;
        span = omega arith;
        foresees = λ new. covers_fresh sectors bytes device 240 room (over room) new refl;
      }
  ready None spells count =
      let zero = at_0 1 2 (omega arith) count in
      record {
        empty = refl;
        log = record { some = omega (arith, some, count); log = λ shape has. absurd (spells shape (subst (IsSuper shape) zero has.super)) };
        room = inr (λ shape has. spells shape (subst (IsSuper shape) zero has.super), omega arith);
        span = omega arith;
        foresees = λ new. covers_fresh sectors bytes device 240 1 (over 1) new refl;
      }

pub opened_ready : {D : Type 0} (holds : D → ℕ → List ℕ → Type 0) (size : D → ℕ) (device : List ℕ) (file : D) (w : Window)
    → IsWindowOf holds size device file w → IsReadyToStart w
opened_ready holds size device file w of = subst IsReadyToStart (sym of.is)
    (ready of.first.sectors of.first.bytes.items device of.first.some of.first.sizes of.spells of.first.count)
