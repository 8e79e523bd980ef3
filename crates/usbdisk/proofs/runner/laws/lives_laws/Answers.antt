use Rattle.usbdisk.proofs.Readiness.{format_is_ready, migration_is_ready, lives_are_ready}
use Rattle.usbdisk.proofs.runner.laws.lives_laws.Goals as goal

pub returns-clause-format : goal.returns-clause-format
returns-clause-format c = format_is_ready

pub returns-clause-migration : goal.returns-clause-migration
returns-clause-migration c = migration_is_ready

pub returns-clause-lives : goal.returns-clause-lives
returns-clause-lives c = lives_are_ready
