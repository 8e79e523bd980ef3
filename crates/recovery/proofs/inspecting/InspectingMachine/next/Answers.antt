use Rattle.std.proofs.Common.{◌<◌, ◌≤◌, refl, arith}
use Rattle.journal.specs.{declared.log_format.LogFormat.TheVariants.Two, Places.sectors_of, Formats.shape_of}
use Rattle.recovery.specs.Starting.{all_calls}
use Rattle.recovery.proofs.Looks.{look_refused, super_read, super_looked, head_read, head_looked, survey_read, survey_looked, told_by}
use Rattle.recovery.proofs.inspecting.InspectingMachine.next.Goals as goal

pub returns-in-ReadSuper : goal.returns-in-ReadSuper
returns-in-ReadSuper g c =
    let sound = g.met.M.Medium.sound in
    let is = c.in-ReadSuper.is in
    let some = c.args.self.now.goes.super is in
    record {
      due = rw is tt;
      within = some;
      looks = some;
      made = λ m n got view next fits held performed after. super_looked sound fits some (rw is at held) performed (rw is at after.1);
      refused = λ m n got view next e fits held performed gone.
          rw gone.1 (look_refused sound (rw is at held) performed refl (super_read sound (rw is at held) performed));
      rest = all_calls 1 Two 64;
      pays = rw is refl;
      rests = λ got next after. grind (arith, rw is at after.1);
    }

pub returns-in-ReadHead : goal.returns-in-ReadHead
returns-in-ReadHead g c =
    let sound = g.met.M.Medium.sound in
    let is = c.in-ReadHead.is in
    let sizes = c.in-ReadHead.field-0 in
    let some : 1 < c.args.self.now.sectors = omega (arith, c.args.self.now.goes.head sizes is, sizes.home_is.0) in
    record {
      due = rw is tt;
      within = some;
      looks = some;
      made = λ m n got view next fits held performed after. head_looked sound (rw is at held) performed (rw is at after.1);
      refused = λ m n got view next e fits held performed gone.
          rw gone.1 (look_refused sound (rw is at held) performed refl (head_read sound (rw is at held) performed));
      rest = all_calls 0 sizes.format sizes.slots;
      pays = rw is (grind arith);
      rests = λ got next after. grind (arith, rw is at after.1);
    }

-- each read of the survey
pub returns-in-Survey : goal.returns-in-Survey
returns-in-Survey g c =
    let sound = g.met.M.Medium.sound in
    let s = c.args.self.now in
    let is = c.in-Survey.is in
    let shape = shape_of s.survey.reader.sizes in
    let inside : sectors_of shape ≤ s.sectors = s.goes.fits c.in-Survey.field-0 is in
    told_by c.call.result (λ none. (rw is none.0, none.1)) (λ call tells named. record {
      due = rw is tells.due;
      within = grind (arith, inside, tells.within);
      looks = grind (arith, inside, tells.looks);
      made = λ m n got view next fits held performed after.
          let step = rw is at after.1 in
          rw step.2 (survey_looked sound (rw is at held) tells performed step.1);
      refused = λ m n got view next e fits held performed gone.
          rw gone.1 (look_refused sound (rw is at held) performed named.0 (survey_read sound (rw is at held) tells performed));
      rest = tells.rest;
      pays = rw is tells.pays;
      rests = λ got next after. let step = rw is at after.1 in rw step.2 (tells.rests got step.0 step.1);
    }) c.call.ensures.told c.call.ensures.named
