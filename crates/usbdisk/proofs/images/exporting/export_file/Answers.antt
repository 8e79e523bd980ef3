use Rattle.std.{proofs.{Common.{◌⊎◌, ℕ, List, inl, inr, refl}, KnownBytes.Keeps-refl}, specs.Prelude.{Option, None}}
use Rattle.device_file.specs.Asked.{Told}
use Rattle.usbdisk.specs.{images.Exported.IsNotExportedOf, images.Exporting.IsNotRecoveredIn, images.Opened.{HasNoFirst, WithFirst}}
use Rattle.usbdisk.{specs.declared.console.refusal.Refusal.Refusal, proofs.Options.{if_ok, if_err}}
use Rattle.usbdisk.proofs.images.exporting.export_file.Goals as goal

-- an image that was not read or not recovered leaves no plain file
unexported : (holds : ℕ → List ℕ → Type 0) (refuses : ℕ → ℕ → Type 0) (size : ℕ) (device : List ℕ) (was : Option (List ℕ))
    (made : Told) (refusal : Refusal)
    → HasNoFirst refuses size refusal ⊎ WithFirst holds size (λ first. IsNotRecoveredIn first device refusal)
    → IsNotExportedOf holds refuses size device was was made None refusal
unexported holds refuses size device was made refusal (inl unread) =
    inl (record { none = refl; cause = unread; kept = Keeps-refl was })
unexported holds refuses size device was made refusal (inr read) = inr (record {
  first = read.first;
  has = read.has;
  so = inl (record { none = refl; cause = read.so; kept = Keeps-refl was });
})

pub returns-in-Ok-clause-ok : goal.returns-in-Ok-clause-ok
returns-in-Ok-clause-ok g c = if_ok c.make_copy.result (λ plain copied. record {
  first = c.in-Ok.ensures.ok.first;
  has = c.in-Ok.ensures.ok.has;
  so = record {
    sizes = c.in-Ok.ready.image.sizes;
    after = c.in-Ok.ready.image.window;
    recovered = c.in-Ok.ensures.ok.so;
    copied = copied;
  };
}) c.make_copy.ensures.ok

pub returns-in-Ok-clause-err : goal.returns-in-Ok-clause-err
returns-in-Ok-clause-err g c = if_err c.make_copy.result (λ stopped why. inr (record {
  first = c.in-Ok.ensures.ok.first;
  has = c.in-Ok.ensures.ok.has;
  so = inr (record {
    sizes = c.in-Ok.ready.image.sizes;
    after = c.in-Ok.ready.image.window;
    recovered = c.in-Ok.ensures.ok.so;
    stopped = inr why;
  });
})) c.make_copy.ensures.err

pub returns-in-Err-clause-err : goal.returns-in-Err-clause-err
returns-in-Err-clause-err g c = rw (c.from.ensures.0, c.from.ensures.1)
    (unexported (g.S.DeviceFile.holds c.args.image.now) (g.S.DeviceFile.refuses c.args.image.now)
    (g.S.DeviceFile.size c.args.image.now) c.args.device.now.bytes (g.O.Write.contents c.args.out.now) _ c.in-Err.refusal
    c.in-Err.ensures.err)
