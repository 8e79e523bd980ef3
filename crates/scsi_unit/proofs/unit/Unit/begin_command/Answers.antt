use Rattle.std.{proofs.Common.{[], ◌≡◌, ◌∙◌, Ok, true, false, arith, sym}, specs.Prelude.◌&&◌}
use Rattle.scsi.specs.{Rules.needs_medium, SenseCodes.internal_target_failure}
use Rattle.blocks.specs.StoreValue.{is_dead}
use Rattle.scsi_unit.proofs.{PendingBegun.{refused_begins, refused_by, plain_begins}, WantedCommands.first_may}
use Rattle.scsi_unit.proofs.unit.Unit.begin_command.Goals.{else-is_dead-via-then-is_dead+else-needs_medium, else-is_dead-via-else-is_dead}
use Rattle.scsi_unit.proofs.unit.Unit.begin_command.Goals as goal

pub returns-then-needs_medium : goal.returns-then-needs_medium
returns-then-needs_medium g c =
    let old = c.args.self.now in
    let dead : is_dead old.store.cached ≡ true = grind (arith, c.is_dead.ensures, c.if-is_dead.true) in
    let needs : needs_medium c.args.command ≡ true = grind (arith, c.needs_medium.ensures, c.if-needs_medium.true) in
    rw (c.end.ensures.kept [], c.end.ensures.told)
    (refused_begins old g.met.M.Medium.follows_itself g.met.M.Medium.sound (Ok c.args.command) internal_target_failure c.args.taken.now
    c.args.out.now (refused_by (is_dead old.store.cached) c.args.command dead needs))

pub begin_by-requires-clause-can : goal.begin_by-requires-clause-can
begin_by-requires-clause-can g c = record {
  supported = c.requires.supported;
  taken_all = c.requires.taken_all;
  wanted = first_may c.in-Some.want c.args.command c.args.taken.now c.args.self.now.write_cache
      (sym c.first_want.ensures ∙ c.in-Some.is);
}

pub returns-in-Some : goal.returns-in-Some
returns-in-Some g c = c.begin_by.ensures c.args.out.now

pub returns-in-None : goal.returns-in-None
returns-in-None g c =
    let old = c.args.self.now in
    let free : (is_dead old.store.cached && needs_medium c.args.command) ≡ false = elim c.else-is_dead.branch [
      | else-is_dead-via-then-is_dead+else-needs_medium w ↦
          let told = w.needs_medium.ensures in let none = w.if-needs_medium.false in grind (arith, told, none)
      | else-is_dead-via-else-is_dead w ↦ let live = w.if-is_dead.false in grind (arith, c.is_dead.ensures, live)
    ] in
    let done = c.perform-answer.ensures in
    rw (c.end-in-None.ensures.kept c.perform-answer.new.out, c.end-in-None.ensures.told)
    (plain_begins old g.met.M.Medium.follows_itself g.met.M.Medium.sound c.args.command c.args.taken.now c.perform-answer.new.out free
    (sym c.first_want.ensures ∙ c.in-None.is) done.performs done.spares done.sends.sends)
