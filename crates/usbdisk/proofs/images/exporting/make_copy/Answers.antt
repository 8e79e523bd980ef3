use Rattle.std.proofs.{Common.{◌≡◌, ◌∙◌, ℕ, List, inl, inr, refl, ap}, KnownBytes.Keeps-refl}
use Rattle.std.specs.{Prelude.{Option, Some}, Io.KnownBytes.Appends}
use Rattle.usbdisk.{specs.console.Streams.AppendsSome, proofs.Options.{if_ok, if_err}}
use Rattle.window.specs.declared.call.DeviceCall.{DeviceCall}
use Rattle.journal.specs.declared.super_sector.Super.{Super}
use Rattle.device_file.specs.{FileValue.{FileValue, IsMade}, declared.existing.Existing.Existing}
use Rattle.usbdisk.specs.{images.Exported.{IsNoCopyMade, IsPlainCopy, exported_text}, images.Exporting.HasBlocks, images.Opened.made_at}
use Rattle.usbdisk.specs.declared.console.ended.Stopped.{Stopped}
use Rattle.usbdisk.specs.declared.console.refusal.Refusal.TheVariants as refused
use Rattle.usbdisk.proofs.images.exporting.make_copy.Goals as goal

module _ {holds : ℕ → List ℕ → Type 0} {refuses : ℕ → ℕ → Type 0} {sizes : Super} {waiting : List DeviceCall}
    {was now : Option (List ℕ)} {path : List ℕ} {existing : Existing} {old new : FileValue} {line : List ℕ}
    (made : IsMade path existing sizes.blocks old) (same : new.size ≡ old.size)
    (asked : HasBlocks holds sizes waiting old.told new.told) (is : line ≡ exported_text sizes.blocks) where
  copied : (back : FileValue) → (back ≡ new) × Appends was now line
      → IsPlainCopy holds refuses sizes waiting was now (made_at path existing) (Some back)
  copied back told = record {
    plain = new;
    given = ap Some told.0;
    size = same ∙ made.sectors_are;
    asked = rw made.told_is at asked;
    written = rw is at told.1;
  }

  untold : (stopped : Stopped (Option FileValue))
      → (stopped.left ≡ Some new) × (stopped.refusal ≡ refused.Streams) × AppendsSome was now line
      → IsNoCopyMade holds refuses sizes waiting was now (made_at path existing) stopped.left stopped.refusal
  untold stopped told = inr (inr (record {
    plain = new;
    given = told.0;
    size = same ∙ made.sectors_are;
    asked = rw made.told_is at asked;
    failed = told.1;
    written = rw is at told.2;
  }))

pub returns-in-Ok-clause-ok : goal.returns-in-Ok-clause-ok
returns-in-Ok-clause-ok g c = if_ok c.say_done.result
    (copied c.in_ok-plain.ensures.ok c.in-Ok.ensures.size.0 c.in-Ok.ensures.ok (rw c.in-Ok.ensures.size.1 c.requires))
    c.say_done.ensures.told

pub returns-in-Ok-clause-err : goal.returns-in-Ok-clause-err
returns-in-Ok-clause-err g c = if_err c.say_done.result
    (untold c.in_ok-plain.ensures.ok c.in-Ok.ensures.size.0 c.in-Ok.ensures.ok (rw c.in-Ok.ensures.size.1 c.requires))
    c.say_done.ensures.untold

pub returns-in-Err-clause-err : goal.returns-in-Err-clause-err
returns-in-Err-clause-err g c = rw c.with.ensures (inr (inl (record {
  plain = c.export_watched.new.to;
  given = refl;
  size = c.in-Err.ensures.size.0 ∙ c.in_ok-plain.ensures.ok.sectors_are;
  why = c.in-Err.fault;
  asked = rw c.in_ok-plain.ensures.ok.told_is at c.in-Err.ensures.err;
  refused_is = c.refusal_of.ensures;
  kept = Keeps-refl (g.O.Write.contents c.args.out.now);
})))
