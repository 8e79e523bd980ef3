use Rattle.std.proofs.{Common.{inl, inr, refl}, KnownBytes.Keeps-refl}
use Rattle.usbdisk.proofs.images.importing.import.Goals as goal

pub returns-in-Err-clause-refused : goal.returns-in-Err-clause-refused
returns-in-Err-clause-refused g c = rw (c.with.ensures, c.new.ensures) (inr (record {
  plain = c.in_ok-plain.plain;
  opened = record { given = refl; opened = c.in_ok-plain.ensures.ok };
  not_imported =
      inl (record { none = refl; refused_is = c.in-Err.ensures.err; kept = Keeps-refl (g.O.Write.contents c.args.out.now) });
}))

pub returns-in-Ok-import_from-clause-done : goal.returns-in-Ok-import_from-clause-done
returns-in-Ok-import_from-clause-done g c = rw c.new-in-Ok-import_from.ensures (record {
  plain = c.in_ok-plain.plain;
  opened = record { given = refl; opened = c.in_ok-plain.ensures.ok };
  imported = c.in-Ok-import_from.ensures.ok;
})

pub returns-clause-refused : goal.returns-clause-refused
returns-clause-refused g c = rw (c.with-in-Err-import_from.ensures, c.new-in-Err-import_from.ensures) (inr (record {
  plain = c.in_ok-plain.plain;
  opened = record { given = refl; opened = c.in_ok-plain.ensures.ok };
  not_imported = inr c.in-Err-import_from.ensures.err;
}))
