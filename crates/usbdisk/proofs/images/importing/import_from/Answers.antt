use Rattle.std.{proofs.Common.{◌≡◌, ◌∙◌, ℕ, List, inr, ap}, specs.{Prelude.{Option, Some}, Io.KnownBytes.Appends}}
use Rattle.usbdisk.{specs.console.Streams.AppendsSome, proofs.Options.{if_ok, if_err}}
use Rattle.journal.specs.{Places.{Shape, new_shape, sectors_of}, declared.log_format.LogFormat.LogFormat}
use Rattle.device_file.specs.{FileValue.{FileValue, IsMade}, declared.existing.Existing.Existing}
use Rattle.usbdisk.specs.{images.Imported.{IsImage, IsNoImage, imported_text}, images.Importing.IsImported, images.Limits.AreLimits}
use Rattle.usbdisk.specs.images.Opened.{made_at}
use Rattle.usbdisk.specs.declared.console.ended.Stopped.{Stopped}
use Rattle.usbdisk.specs.declared.console.refusal.Refusal.TheVariants as refused
use Rattle.usbdisk.proofs.images.importing.import_from.Goals as goal

module _ {holds : ℕ → List ℕ → Type 0} {refuses : ℕ → ℕ → Type 0} {format : LogFormat} {blocks slots : ℕ} {shape : Shape}
    {was now : Option (List ℕ)} {path : List ℕ} {existing : Existing} {old new : FileValue} {line : List ℕ}
    (fits : (shape ≡ new_shape format blocks slots) × AreLimits blocks slots)
    (made : IsMade path existing (sectors_of shape) old) (same : new.size ≡ old.size)
    (asked : IsImported holds shape old.told new.told) (is : line ≡ imported_text blocks) where
  imported : (back : FileValue) → (back ≡ new) × Appends was now line
      → IsImage holds refuses format blocks slots was now (made_at path existing) (Some back)
  imported back told = record {
    limits = fits.1;
    file = new;
    given = ap Some told.0;
    size = same ∙ rw fits.0 at made.sectors_are;
    asked = rw (fits.0, made.told_is) at asked;
    written = rw is at told.1;
  }

  untold : (stopped : Stopped (Option FileValue))
      → (stopped.left ≡ Some new) × (stopped.refusal ≡ refused.Streams) × AppendsSome was now line
      → IsNoImage holds refuses format blocks slots was now (made_at path existing) stopped.left stopped.refusal
  untold stopped told = inr (inr (inr (record {
    limits = fits.1;
    file = new;
    given = told.0;
    size = same ∙ rw fits.0 at made.sectors_are;
    asked = rw (fits.0, made.told_is) at asked;
    failed = told.1;
    written = rw is at told.2;
  })))

pub returns-in-Ok-clause-ok : goal.returns-in-Ok-clause-ok
returns-in-Ok-clause-ok g c = if_ok c.say_done.result
    (imported (rw c.sectors.ensures at c.in-Some.ensures) c.in_ok-file.ensures.ok c.in-Ok.ensures.size.0 c.in-Ok.ensures.ok
    (rw c.in-Ok.ensures.size.1 c.requires)) c.say_done.ensures.told

pub returns-in-Ok-clause-err : goal.returns-in-Ok-clause-err
returns-in-Ok-clause-err g c = if_err c.say_done.result
    (untold (rw c.sectors.ensures at c.in-Some.ensures) c.in_ok-file.ensures.ok c.in-Ok.ensures.size.0 c.in-Ok.ensures.ok
    (rw c.in-Ok.ensures.size.1 c.requires)) c.say_done.ensures.untold
