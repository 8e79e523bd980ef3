use Rattle.std.proofs.{Common.{◌≡◌, ◌+◌, ◌-◌, ◌*◌, ◌∙◌, length, take, drop, refl, arith}, lemmas.List.take-take}
use Rattle.redo_log.specs.Halfway.{IsNextData}
use Rattle.redo_log.proofs.{RecordSteps.log_is, DataPlaces.{data_bytes, data_called}, log.Log.make_step.Given.Over}
use Rattle.redo_log.proofs.log.Log.make_step.Goals.{After-is_stamped}
use Rattle.redo_log.proofs.log.Log.make_step.Goals as goal

-- it is the block that goes to the data place
block_is : (g : Over) (c : After-is_stamped g) → c.in-Some-first_chunk.block.now ≡ take 512 (drop (512 * c.in-Some.i) c.args.bytes.now)
block_is g c =
    let next : IsNextData c.args.self.now (length c.args.numbers.now) c.in-Some.place c.in-Some.i = c.in-Some.ensures in
    c.in-Some-first_chunk.ensures.cases.same
    ∙ take-take 512 (length c.args.bytes.now - 512 * c.in-Some.i) (drop (512 * c.in-Some.i) c.args.bytes.now)
    (omega (arith, next.inside, c.requires.size))

pub returns-then-is_stamped : goal.returns-then-is_stamped
returns-then-is_stamped g c =
    let log = c.args.self.now in
    let next : IsNextData log (length c.args.numbers.now) c.in-Some.place c.in-Some.i = c.in-Some.ensures in
    let is = log_is c.self.inside c.self.view_is c.self.invariant in
    let format : c.self.inside.sizes.format ≡ log.shape.format = rw (← c.self.view_is) refl in
    let block = block_is g (goal.at.returns-then-is_stamped g c).After-is_stamped in
    let stamped = rw format at c.is_stamped.ensures in
    let part = data_bytes log.shape.format (log.head + length log.waiting) c.args.numbers.now c.args.bytes.now c.in-Some.i next.inside
    block in (
      c.write_stamped.ensures.follows,
      data_called is c.requires next (rw c.stamp.ensures (part.0 (stamped.0 c.if-is_stamped.true)))
          (g.met.M.Medium.sound c.args.m.now) (g.met.M.Medium.sound c.write_stamped.new.m) c.write_stamped.ensures.performed,
    )

pub returns : goal.returns
returns g c =
    let log = c.args.self.now in
    let next : IsNextData log (length c.args.numbers.now) c.in-Some.place c.in-Some.i = c.in-Some.ensures in
    let is = log_is c.self.inside c.self.view_is c.self.invariant in
    let format : c.self.inside.sizes.format ≡ log.shape.format = rw (← c.self.view_is) refl in
    let block = block_is g (goal.at.returns g c).After-is_stamped in
    let stamped = rw format at c.is_stamped.ensures in
    let part = data_bytes log.shape.format (log.head + length log.waiting) c.args.numbers.now c.args.bytes.now c.in-Some.i next.inside
    block in (
      c.write.ensures.follows,
      data_called is c.requires next (part.1 (λ none. absurd (cc (c.if-is_stamped.false, stamped.1 none))))
          (g.met.M.Medium.sound c.args.m.now) (g.met.M.Medium.sound c.write.new.m) c.write.ensures.performed,
    )
