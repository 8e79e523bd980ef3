-- An import, step by step.
use Rattle.std.{proofs.Common.{◌≡◌, ℕ, List, inr, Result, Ok, Err, OnOk, IfErr}, specs.Prelude.is_ok}
use Rattle.journal.specs.Places.{Shape, first_home}
use Rattle.device_file.specs.{Asked.Told, Copied.IsCopied, declared.copying.CopyFault.CopyFault, declared.fault.FileFault.FileFault}
use Rattle.usbdisk.specs.{images.Importing.{IsImported, IsNotImported}, images.NewImage.IsAskedToBe}
use Rattle.device_file.specs.declared.copying.CopyFault.TheVariants as fault

module _ (holds : ℕ → List ℕ → Type 0) (refuses : ℕ → ℕ → Type 0) (shape : Shape) (old between new : Told) where
  -- all blocks were copied, and then an image was made of the file
  pub imported_all : (result : Result (Unit {0}) CopyFault) → IsCopied holds 0 shape.blocks (first_home shape) old between
      → IsAskedToBe shape (is_ok result) between new → OnOk result (IsImported holds shape old new)
  imported_all (Ok done) copied asked = record { between = between; copied = copied; made = asked }
  imported_all (Err why) copied asked = tt

  -- or it refused a call of that
  pub imported_unmade : (result : Result (Unit {0}) CopyFault) → IsCopied holds 0 shape.blocks (first_home shape) old between
      → IsAskedToBe shape (is_ok result) between new
      → IfErr result (λ why. (refused : FileFault) × (why ≡ fault.To refused)) → IfErr result (IsNotImported holds refuses shape old new)
  imported_unmade (Ok done) copied asked named = tt
  imported_unmade (Err why) copied asked named = inr (record {
    between = between;
    copied = copied;
    made = asked;
    refused = named.0;
    why_is = named.1;
  })
