use Rattle.std.proofs.Common.{◌≡◌, ◌<◌, ◌≤◌, ◌+◌, ℕ, length, arith}
use Rattle.medium.specs.Medium.{State, IsSound}
use Rattle.journal.specs.{declared.naming_stage.NamingStage.TheVariants.Named, Places.{first_home, sectors_of}, Layout.slot_at}
use Rattle.journal.specs.{Format2.format2, Formats.shape_of, declared.reader.RecordReader.RecordReader}
use Rattle.recovery.specs.Surveying.{HoldsSurveyed, SurveyView, surveys_left}
use Rattle.recovery.proofs.{SurveyedRecords.{untried, named_taken, place_taken, data_place}, Looks.{less_read, names_few}}
use Rattle.recovery.proofs.surveying.Surveying.call.Goals as goal

-- each sector of the log has its bytes
all_sized : {M : Type 0} {state : M → State} {reader : RecordReader} {left place : ℕ} {waiting : _} {view : SurveyView M} {m : M}
    → HoldsSurveyed state reader left place waiting view m → IsSound (state m) → sectors_of (shape_of reader.sizes) ≤ (state m).size
    → (x : ℕ) → x < first_home (shape_of view.sizes) → length ((state view.start).content x) ≡ 512
all_sized {state = state} {view = view} {m = m} held sound fits x below =
    let inside : x < first_home (shape_of view.sizes) + view.sizes.blocks = omega (arith, below) in
    let less : x < (state m).size = omega (arith, fits, rw held.sizes_are at inside) in
    rw (held.quiet.content_stays x) at (sound.sized x ((state m).content x) less (sound.holds_content x))

pub returns-in-Some-clause-told : goal.returns-in-Some-clause-told
returns-in-Some-clause-told g c =
    let s = c.args.self.now in
    let asked = c.in-Some.ensures in
    let due : 0 < s.left = omega (arith, c.if-self-eq0.false) in
    let names = names_few _ s.reader.stage s.reader.read s.reader.reads asked.0 in
    record {
      due = due;
      within = omega (arith, asked.1);
      looks = asked.1;
      made = λ m n got view next fits held performed after.
          named_taken held due (all_sized held (g.met.M.Medium.sound m) fits) performed asked.2
          (s.goes.unnamed due (λ is. rw is at asked.0)) after.sizes_stay (after.reading asked.0);
      refused = λ m n got view next e fits held performed gone. rw gone (untried held due performed);
      rest = less_read (surveys_left s.reader s.left s.place);
      pays = grind (arith, due, names);
      rests = λ got next after.
          let few = λ (named : next.reader.stage ≡ Named). (next.reader.reads.named named).few in
          grind (arith, due, names, next.goes.two, few, after.sizes_stay, after.reading asked.0);
    }

pub returns-clause-told : goal.returns-clause-told
returns-clause-told g c =
    let s = c.args.self.now in
    let r = s.reader in
    let due : 0 < s.left = omega (arith, c.if-self-eq0.false) in
    let named : s.reader.stage ≡ Named = grind (arith, c.in_default.ensures, s.goes.there due) in
    let two = s.goes.two due named in
    let below = s.goes.named due named in
    let few = (s.reader.reads.named named).few in
    let lies = data_place r.sizes r.stamp s.place c.slot_of-slot.ensures c.copy_place.ensures (omega (arith, below, few)) in
    let here : c.copy_place.result ≡ slot_at format2 (shape_of r.sizes) r.stamp + (8 + s.place) = omega (arith, rw two at lies.0) in
    record {
      due = due;
      within = omega (arith, lies.1);
      looks = lies.1;
      made = λ m n got view next fits held performed after.
          place_taken held due (all_sized held (g.met.M.Medium.sound m) fits) performed named two below here after.sizes_stay
          (after.placed named);
      refused = λ m n got view next e fits held performed gone. rw gone (untried held due performed);
      rest = less_read (surveys_left s.reader s.left s.place);
      pays = grind (arith, due, named, below, two, few);
      rests = λ got next after. grind (arith, due, named, below, two, few, after.sizes_stay, after.placed named);
    }
