use Rattle.std.proofs.{Common.{[], inl, inr}, lemmas.Bool.cases_Bool}
use Rattle.scsi.specs.Rules.{reads_blocks}
use Rattle.scsi_unit.proofs.PendingSteps.{commit_waits, commit_fails, commit_ends_it, commit_reads_on}
use Rattle.scsi_unit.proofs.WantedCommands.{commit_reads, commit_ends}
use Rattle.scsi_unit.proofs.unit.Unit.commit.Goals as goal

pub returns-in-Waits : goal.returns-in-Waits
returns-in-Waits g c taken out can =
    commit_waits c.args.self.now c.commit_step.new.self c.args.command.now taken c.requires.live can.wanted c.commit_step.result
    c.commit_step.ensures c.in-Waits.is out

pub returns-in-Failed : goal.returns-in-Failed
returns-in-Failed g c taken out can =
    rw (c.end.ensures.kept [], c.end.ensures.told)
    (commit_fails c.args.self.now c.commit_step.new.self c.args.command.now taken c.requires.live can.wanted c.commit_step.result
    c.commit_step.ensures c.in-Failed.is out)

pub returns-in-Promised : goal.returns-in-Promised
returns-in-Promised g c taken out can =
    let old = c.args.self.now in
    let command = c.args.command.now in
    let at = c.in-Promised.is in
    rw (c.committed.ensures.is, c.committed.ensures.told)
    (elim (cases_Bool (reads_blocks command)) [
      | inl reads ↦
          let after = commit_reads command taken old.write_cache can.wanted reads in
          rw (after.0, after.1) (commit_reads_on old c.commit_step.new.self command taken c.requires.live can.wanted c.commit_step.result
          c.commit_step.ensures at reads out)
      | inr plain ↦
          rw (commit_ends command taken old.write_cache can.wanted plain) (commit_ends_it old c.commit_step.new.self command taken
          c.requires.live can.wanted c.commit_step.result c.commit_step.ensures at plain out)
    ])
