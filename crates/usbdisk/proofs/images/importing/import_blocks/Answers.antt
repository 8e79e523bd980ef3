use Rattle.std.{proofs.Common.{inl, inr, refl}, specs.Prelude.is_ok}
use Rattle.journal.specs.Formats.{shape_of}
use Rattle.usbdisk.proofs.Imports.{imported_all, imported_unmade}
use Rattle.usbdisk.proofs.images.importing.import_blocks.Goals as goal

pub returns-in-Ok-clause-ok : goal.returns-in-Ok-clause-ok
returns-in-Ok-clause-ok g c =
    imported_all (g.S.DeviceFile.holds c.args.plain.now) (g.S.DeviceFile.refuses c.args.plain.now) (shape_of c.args.sizes.now)
    (g.D.DeviceFile.told c.args.image.now)
    (g.D.DeviceFile.told c.copy_blocks.new.image) (g.D.DeviceFile.told c.become_image.new.image) c.become_image.result
    c.in-Ok.ensures.ok c.become_image.ensures.asked

pub returns-in-Ok-clause-err : goal.returns-in-Ok-clause-err
returns-in-Ok-clause-err g c =
    imported_unmade (g.S.DeviceFile.holds c.args.plain.now) (g.S.DeviceFile.refuses c.args.plain.now) (shape_of c.args.sizes.now)
    (g.D.DeviceFile.told c.args.image.now)
    (g.D.DeviceFile.told c.copy_blocks.new.image) (g.D.DeviceFile.told c.become_image.new.image) c.become_image.result
    c.in-Ok.ensures.ok c.become_image.ensures.asked c.become_image.ensures.named

pub returns-in-Err-clause-err : goal.returns-in-Err-clause-err
returns-in-Err-clause-err g c = inl c.in-Err.ensures.err

pub returns-in-Ok-clause-runs : goal.returns-in-Ok-clause-runs
returns-in-Ok-clause-runs g c = record {
  copied = c.copy_blocks.new.image;
  blocks = c.in-Ok.ensures.runs;
  made = inr (is_ok c.become_image.result, c.become_image.ensures.asked);
}

pub returns-in-Err-clause-runs : goal.returns-in-Err-clause-runs
returns-in-Err-clause-runs g c = record { copied = c.copy_blocks.new.image; blocks = c.in-Err.ensures.runs; made = inl refl }
