use Rattle.std.proofs.{Common.{◌≡◌, ◌&&◌, ℕ, Bool, true, List, [], ◌∷◌, nat_le, refl, arith}, lemmas.Bool.and_parts}
use Rattle.std.proofs.{lemmas.Bool.Decides.nat_tests, lemmas.List.Elements.{All-cons, All-nil}}
use Rattle.std.specs.{Prelude.{All, Option, Some, None, SomeIff, IsSome}, List.list_all}
use Rattle.scsi.specs.Identification.{IsPrintable, IsLegible}
use Rattle.usbdisk.specs.runner.Script.{identification}
use Rattle.usbdisk.proofs.runner.identity.disk_identity.Goals as goal

-- whether a byte is printable, as a test that computes
abbrev is_printable : ℕ → Bool
is_printable byte = nat_le 0x20 byte && nat_le byte 0x7e

printable : (byte : ℕ) → is_printable byte ≡ true → IsPrintable byte
printable byte test =
    let parts = and_parts (nat_le 0x20 byte) (nat_le byte 0x7e) test in
    (grind (arith, nat_tests, parts.0), grind (arith, nat_tests, parts.1))

all_printable : (text : List ℕ) → list_all is_printable text ≡ true → All IsPrintable text
all_printable [] test = All-nil IsPrintable
all_printable (byte ∷ text) test =
    let parts = and_parts (is_printable byte) (list_all is_printable text) test in
    All-cons IsPrintable byte text (printable byte parts.0) (all_printable text parts.1)

legible : IsLegible identification
legible = record {
  vendor = all_printable identification.vendor refl;
  product = all_printable identification.product refl;
  revision = all_printable identification.revision refl;
  serial = all_printable identification.serial refl;
}

-- there is a value where the fact holds
some-where : {T : Type 0} (r : Option T) (P : Type 0) (v : T) → SomeIff r P v → P → IsSome r
some-where None P v absent holds = absurd (absent holds)
some-where (Some x) P v there holds = refl

pub unwrap-requires : goal.unwrap-requires
unwrap-requires c = some-where c.new.result (IsLegible identification) identification c.new.ensures legible
