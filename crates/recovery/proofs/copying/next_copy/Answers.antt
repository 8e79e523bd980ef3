use Rattle.std.proofs.Common.{◌≡◌, ◌<◌, ◌≤◌, ◌+◌, ◌++◌, [], length, drop, get_or, refl, arith, true, false, ⊎_elim, Bool}
use Rattle.journal.specs.Places.{first_home, limit_of}
use Rattle.journal.specs.{declared.naming_stage.NamingStage.TheVariants.Named, Formats.shape_of, declared.reader.RecordReader.RecordReader}
use Rattle.recovery.specs.{declared.copy_step.CopyStep.CopyStep, Copying.IsBlockStep, Copying.copies_left}
use Rattle.recovery.proofs.CopiedBlocks.{unread, took, block_read, unwritten, block_written, record_written}
use Rattle.recovery.proofs.{SurveyedRecords.data_place, Looks.less_read, Looks.less_write, Looks.names_few}
use Rattle.recovery.proofs.copying.next_copy.Goals as goal

-- by whether the bytes of a block were read
stepped : {has_bytes : Bool} (reader : RecordReader) (step : CopyStep) (next : RecordReader) (after : CopyStep) → step.has_bytes ≡ has_bytes
    → IsBlockStep step.has_bytes reader step next after → IsBlockStep has_bytes reader step next after
stepped reader step next after is goes = rw (← is) goes

pub returns-in-Some-clause-told : goal.returns-in-Some-clause-told
returns-in-Some-clause-told g c =
    let reader = c.args.reader.now in
    let step = c.args.step.now in
    let asked = c.in-Some.ensures in
    let due : 0 < step.left = omega (arith, c.if-step-eq0.false) in
    let first = c.requires.unnamed (λ is. rw is at asked.0) in
    let names = names_few _ reader.stage reader.read reader.reads asked.0 in
    record {
      due = due;
      within = omega (arith, asked.1);
      looks = asked.1;
      made = λ m n got view next fits held performed after. took held performed due asked.1 asked.2 first.0 first.1 (after.reading asked.0);
      refused = λ m n got view next e fits held performed gone. rw gone (unread held performed);
      rest = less_read (copies_left reader step);
      pays = grind (arith, due, names);
      rests = λ got next after. grind (arith, due, names, after.sizes_stay, after.reading asked.0);
    }

pub returns-then-not-step-clause-told : goal.returns-then-not-step-clause-told
returns-then-not-step-clause-told g c =
    let reader = c.args.reader.now in
    let step = c.args.step.now in
    let due : 0 < step.left = omega (arith, c.if-step-eq0.false) in
    let named : reader.stage ≡ Named = grind (arith, c.in_default.ensures, c.requires.there) in
    let below = c.requires.named named in
    let inside : length reader.read.numbers.items ≤ limit_of reader.sizes.format = (reader.reads.named named).few in
    let no_bytes : step.has_bytes ≡ false = c.if-not-step.true in
    let lies = data_place reader.sizes reader.stamp step.i c.slot_of-slot.ensures c.copy_place.ensures (omega (arith, below, inside)) in
    record {
      due = due;
      within = omega (arith, lies.1);
      looks = lies.1;
      made = λ m n got view next fits held performed after.
          let read = stepped reader step next.reader next.step no_bytes (after.copying named) in
          rw (read.0, read.1) (block_read held performed due lies.1 lies.0 no_bytes);
      refused = λ m n got view next e fits held performed gone. rw gone (unread held performed);
      rest = less_read (copies_left reader step);
      pays = grind (arith, due, named, below, inside, no_bytes);
      rests = λ got next after.
          grind (arith, due, named, below, inside, no_bytes, stepped reader step next.reader next.step no_bytes (after.copying named));
    }

pub returns-clause-told : goal.returns-clause-told
returns-clause-told g c =
    let reader = c.args.reader.now in
    let step = c.args.step.now in
    let due : 0 < step.left = omega (arith, c.if-step-eq0.false) in
    let named : reader.stage ≡ Named = grind (arith, c.in_default.ensures, c.requires.there) in
    let below = c.requires.named named in
    let names = reader.reads.named named in
    let full : step.has_bytes ≡ true = c.if-not-step.false in
    let is : c.home_of.result ≡ first_home (shape_of reader.sizes) + get_or reader.read.numbers.items step.i 0 =
    rw c.deref.ensures.0 at c.home_of.ensures in
    let inside = names.inside step.i 0 below in
    let first = get_or reader.read.firsts.items step.i [] in
    let bytes_are : c.copy_from_slice.new.self ++ drop (length c.first-first.result.now) c.args.sector.now
    ≡ first ++ drop (length first) c.args.sector.now = rw (c.copy_from_slice.ensures.after, c.first-first.ensures.is) refl in
    record {
      due = due;
      within = omega (arith, is, inside);
      looks = tt;
      made = λ m n got view next fits held performed after.
          ⊎_elim (λ has. rw (has.0, has.2) (block_written held due named below is full bytes_are performed))
          (λ last. record_written held due named below is full bytes_are performed last.0 last.1)
          (stepped reader step next.reader next.step full (after.copying named));
      refused = λ m n got view next e fits held performed gone. rw gone (unwritten held due named below is performed);
      rest = less_write (copies_left reader step);
      pays = grind (arith, due, named, below, names.few, full);
      rests = λ got next after. let on = stepped reader step next.reader next.step full (after.copying named) in
          grind (arith, due, named, below, names.few, full, after.sizes_stay, on);
    }
