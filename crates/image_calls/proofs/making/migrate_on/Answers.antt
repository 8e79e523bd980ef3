use Rattle.std.proofs.{Common.refl}
use Rattle.image_calls.proofs.Laid.{migrated_on, migrated_not}
use Rattle.image_calls.proofs.making.migrate_on.Goals as goal

pub returns-in-Ok-clause-ok : goal.returns-in-Ok-clause-ok
returns-in-Ok-clause-ok c = (
  migrated_on c.args.medium c.args.medium c.migrate.new.m c.migrate.new.m c.in-Ok.field-0.0 c.in-Ok.field-0.1 refl refl
      c.in-Ok.ensures.ok c.migrate.ensures.leaves c.migrate.ensures.follows
      (c.waiting-waiting.ensures.device c.migrate.new.m c.migrate.ensures.follows),
  refl,
)

pub returns-in-Err-clause-err : goal.returns-in-Err-clause-err
returns-in-Err-clause-err c = λ empty. (
  c.migrate.new.m,
  migrated_not c.args.medium c.args.medium c.migrate.new.m c.in-Err.fault refl empty c.in-Err.ensures.err c.migrate.ensures.leaves
      c.migrate.ensures.follows,
)
