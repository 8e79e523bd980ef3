use Rattle.std.{proofs.{Common.{◌≡◌, ℕ, Bool, List, inl, inr, refl, subst, sym}, KnownBytes.Keeps-refl}, specs.Io.KnownBytes.Appends}
use Rattle.medium.specs.declared.file_call.Access.TheVariants.{Change}
use Rattle.device_file.specs.{Asked.begun, FileValue.{FileValue, GivesBlock, HasGiven, HasRefused, IsOpened, RefusesBlocks}}
use Rattle.device_file.{specs.{Carried.{at_once_of, told_of}, InRuns.IsAskedInRuns}, proofs.Looks.looks_stay}
use Rattle.usbdisk.specs.{console.Streams.AppendsSome, declared.console.refusal.Refusal.Refusal}
use Rattle.usbdisk.specs.images.Migrating.{IsMigratedOf, IsNotMigratedOf}
use Rattle.usbdisk.proofs.images.migrating.migrate.Goals as goal

-- A file that was just opened was asked nothing. It is as large as before, and its looks are the same.
module _ (path device : List ℕ) (old new : FileValue) (opened : IsOpened path Change old) (same : new.size ≡ old.size)
    (runs : IsAskedInRuns told_of at_once_of old new) where
  migrated_of : (was_one : Bool) → IsMigratedOf (HasGiven old) old.size device old.told new.told was_one
      → IsMigratedOf (HasGiven new) new.size device (begun path Change) new.told was_one
  migrated_of was_one migrated = rw same (subst
      (λ looks. IsMigratedOf (GivesBlock looks) old.size device (begun path Change) new.told was_one)
      (sym (looks_stay old new runs))
      (subst (λ told. IsMigratedOf (HasGiven old) old.size device told new.told was_one) opened.told_is migrated))

  not_migrated_of : (refusal : Refusal)
      → IsNotMigratedOf (HasGiven old) old.size device old.told new.told (HasRefused old) refusal
      → IsNotMigratedOf (HasGiven new) new.size device (begun path Change) new.told (HasRefused new) refusal
  not_migrated_of refusal why = rw same (subst
      (λ looks. IsNotMigratedOf (GivesBlock looks) old.size device (begun path Change) new.told (RefusesBlocks looks) refusal)
      (sym (looks_stay old new runs))
      (subst (λ told. IsNotMigratedOf (HasGiven old) old.size device told new.told (HasRefused old) refusal) opened.told_is
      why))

pub returns-in-Err-clause-refused : goal.returns-in-Err-clause-refused
returns-in-Err-clause-refused g c = rw c.with.ensures (inr (inl (record {
  file = c.migrate_file.new.file;
  given = refl;
  not_migrated = not_migrated_of c.args.image.now c.args.device.now.bytes c.in_ok-file.file c.migrate_file.new.file
      c.in_ok-file.ensures.ok c.in-Err.ensures.size c.in-Err.ensures.runs c.in-Err.refusal c.in-Err.ensures.err;
  kept = Keeps-refl (g.O.Write.contents c.args.out.now);
})))

pub returns-in-Ok-write_out-clause-done : goal.returns-in-Ok-write_out-clause-done
returns-in-Ok-write_out-clause-done g c = record {
  file = c.migrate_file.new.file;
  given = refl;
  was_one = c.in-Ok.was_one;
  migrated = migrated_of c.args.image.now c.args.device.now.bytes c.in_ok-file.file c.migrate_file.new.file
      c.in_ok-file.ensures.ok c.in-Ok.ensures.size c.in-Ok.ensures.runs c.in-Ok.was_one c.in-Ok.ensures.ok;
  written = subst
      (λ (text : List ℕ). Appends (g.O.Write.contents c.args.out.now) (g.O.Write.contents c.write_out.new.out) text)
      c.migration_line.ensures c.in-Ok-write_out.ensures.ok;
}

pub returns-in-Err-write_out-clause-refused : goal.returns-in-Err-write_out-clause-refused
returns-in-Err-write_out-clause-refused g c = rw c.with-in-Err-write_out.ensures (inr (inr (record {
  file = c.migrate_file.new.file;
  given = refl;
  was_one = c.in-Ok.was_one;
  migrated = migrated_of c.args.image.now c.args.device.now.bytes c.in_ok-file.file c.migrate_file.new.file
      c.in_ok-file.ensures.ok c.in-Ok.ensures.size c.in-Ok.ensures.runs c.in-Ok.was_one c.in-Ok.ensures.ok;
  failed = refl;
  written = subst
      (λ (text : List ℕ). AppendsSome (g.O.Write.contents c.args.out.now) (g.O.Write.contents c.write_out.new.out) text)
      c.migration_line.ensures c.in-Err-write_out.ensures.err;
})))
