use Rattle.std.proofs.{Common.{inl, inr, refl}, KnownBytes.Keeps-refl}
use Rattle.usbdisk.proofs.Options.{if_ok, if_err}
use Rattle.usbdisk.proofs.runner.program.migrate_medium.Goals as goal

pub returns-in-Ok-clause-done : goal.returns-in-Ok-clause-done
returns-in-Ok-clause-done g c =
    let made = c.in-Ok.ensures in
    if_ok c.say_done.result
    (λ back told. (
      c.migrate.new.m,
      told.0,
      (
        record {
          was_one = c.in-Ok.was_one;
          answer = c.in-Ok.field-0-0;
          migrated = made.ok;
          leaves = made.leaves;
          written = rw c.migration_line.ensures at told.1;
        },
        made.follows,
      ),
    ))
    c.say_done.ensures.done

pub returns-in-Ok-clause-refused : goal.returns-in-Ok-clause-refused
returns-in-Ok-clause-refused g c =
    let made = c.in-Ok.ensures in
    if_err c.say_done.result
    (λ stopped told. (
      c.migrate.new.m,
      told.0,
      (
        inr (
          told.1,
          record {
            was_one = c.in-Ok.was_one;
            answer = c.in-Ok.field-0-0;
            migrated = made.ok;
            leaves = made.leaves;
            written = rw c.migration_line.ensures at told.2;
          },
        ),
        made.follows,
      ),
    ))
    c.say_done.ensures.refused

pub returns-in-Err-clause-refused : goal.returns-in-Err-clause-refused
returns-in-Err-clause-refused g c =
    let why = c.in-Err.ensures in
    let kept = Keeps-refl (g.O.Write.contents c.args.out.now) in
    rw c.with.ensures (
      c.migrate.new.m,
      refl,
      (
        inl (record {
          fault = c.in-Err.fault;
          cause = why.err.cause;
          leaves = why.leaves;
          told = refl;
          kept = kept;
        }),
        why.follows,
      ),
    )
