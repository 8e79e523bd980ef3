use Rattle.std.proofs.Common.{◌≡◌, ◌≢◌, ◌⊎◌, inl, inr, ⊎_elim, ℕ, ◌+◌, refl, true, ◌∙◌, arith, rules, replicate, OnOk}
use Rattle.std.proofs.lemmas.Result.{on_ok_weaker}
use Rattle.medium.specs.{Medium.{State, Image}, Moments.IsFlushed}
use Rattle.logical_blocks.specs.Blocks.{Array}
use Rattle.journal.{specs.{Places.{Shape, first_home, migrated}, Formats.shape_of}, proofs.Formats.laws_of}
use Rattle.recovery.specs.{Calls.{AreMade, zeros_and_head, Writes, IsBetween, IsWritten, WithOrWithout}, Recovered.{StaysFresh, IsFresh}}
use Rattle.recovery.specs.{Recovered.IsMadeTwo, NewImage.{Under, IsPart}, declared.image_plan.ImagePlan.ImagePlan}
use Rattle.recovery.proofs.{ImageCalls.image_driven, JoinedCalls.{log_ends, zeros_fresh}}
use Rattle.recovery.proofs.migration.make_two.Goals as goal
use Rattle.recovery.proofs.migration.make_two.Goals.{After-drive}

-- where the medium is flushed, what a cut leaves is what was there
flushed_part : {plan : ImagePlan} {under : Under} {image : Image} (m : State) → under.image ≡ m.content → IsFlushed m
    → WithOrWithout 0 (under.image 0) m.may_leave image → IsPart plan under image
flushed_part m was flushed either = grind (arith, flushed)

module _ {plan : ImagePlan} {under : Under} {shape : Shape} {array : Array} {image : Image} (two : under.first ≡ 2)
    (ends : plan.end ≡ first_home shape) (fresh : IsFresh shape array plan.head.stamp under.image) where
  -- zeros may stand in the log, so no record waits in a part of the new image either
  still_fresh : IsPart plan under image → IsFresh shape array plan.head.stamp image
  still_fresh part =
      let apart : (x : ℕ) → x ≢ 1 → (image x ≡ under.image x) ⊎ (IsBetween 2 (first_home shape) x × (image x ≡ replicate 512 0)) =
      λ x not. grind (arith, part.each x) in
      let carries = λ (slot o stamp : ℕ). (laws_of shape.format).zeros o stamp in
      grind (arith, apart, fresh, part.each 1, carries, log_ends shape fresh.super.home_is, plan.head.least)

  -- and none in the new image
  stays_fresh : {sizes : Shape} (m : State) → under.image ≡ m.content → IsFlushed m → sizes ≡ migrated shape → WithOrWithout 0
      (under.image 0) m.may_leave image ⊎ (IsPart plan under image ⊎ IsWritten sizes plan.head.stamp (first_home shape) under.image image)
      → IsFresh shape array plan.head.stamp image ⊎ IsFresh (migrated shape) array plan.head.stamp image
  stays_fresh m same flushed sized may = ⊎_elim (λ was. inl (still_fresh (flushed_part m same flushed was)))
      (λ is. ⊎_elim (λ part. inl (still_fresh part)) (λ new. inr (zeros_fresh (migrated shape) array plan.head.stamp image
      (rw sized at new.super) new.head new.zeros (λ b below. new.behind (first_home shape + b) (omega arith) ∙ fresh.home b below))) is) may

-- the new image is written over what recovery left
made : (g : _) (c : After-drive g) → let shape = shape_of c.args.found.now.sizes in let next = c.args.found.now.next in
    Writes (StaysFresh shape next (g.M.Medium.state c.args.m.now).content) shape.home (shape.home + 3) (g.M.Medium.state c.args.m.now)
    (g.M.Medium.state c.drive.new.m) c.drive.result
    × OnOk c.drive.result (IsMadeTwo shape next (g.M.Medium.state c.drive.new.m)
    × AreMade g.M.Medium.state (zeros_and_head 2 true shape.home) c.args.m.now c.drive.new.m)
made g c =
    let old = g.M.Medium.state c.args.m.now in
    let shape = shape_of c.args.found.now.sizes in
    let two = c.migrated-sizes.ensures in
    let long = c.args.found.now.sizes.home_is.0 in
    let d = image_driven (StaysFresh shape c.args.found.now.next old.content) (shape.home + 3) old.calls
    (record { first = 2; image = old.content; some = omega arith; most = omega arith })
    c.drive.ensures.driven c.drive.ensures.done (omega (arith, c.requires.fits)) tt (λ e. cc e) refl
    (grind (arith, long), λ image cut. flushed_part old refl c.requires.flushed (inl cut)) (omega (arith, long)) (omega arith) (omega arith)
    (λ image may array fresh. rw (← c.new.ensures)
    (stays_fresh refl refl (rw (← c.new.ensures) at fresh) old refl c.requires.flushed two may)) in (
      d.0,
      on_ok_weaker c.drive.result
          (λ is. (search (rules, is.1, rw two at is.0.super, rw c.new.ensures at is.0.head, is.0.zeros), is.2)) d.1,
    )

pub returns-in_err-drive-clause-writes : goal.returns-in_err-drive-clause-writes
returns-in_err-drive-clause-writes g c = search (rules, (made g (goal.at.returns-in_err-drive-clause-writes g c).After-drive).0)

pub returns-clause-writes : goal.returns-clause-writes
returns-clause-writes g c = search (rules, (made g (goal.at.returns-clause-writes g c).After-drive).0)

pub returns-clause-ok : goal.returns-clause-ok
returns-clause-ok g c =
    let done = rw c.in_ok-drive.was at (made g (goal.at.returns-clause-ok g c).After-drive).1 in
    (c.migrated-sizes.ensures, refl, done.0, done.1)
