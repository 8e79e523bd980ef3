use Rattle.std.proofs.{Common.{◌≡◌, ◌≤◌, ℕ, ◌⊎◌, ◌+◌, inl, inr, ⊎_elim, refl, ◌∙◌, arith, replicate}, lemmas.Result.on_ok_weaker}
use Rattle.medium.{specs.Medium.{Image, Holds, CutLeaves}, proofs.Moments.{updated, updated_here, updated_elsewhere}}
use Rattle.journal.specs.{Places.Shape, Formats.shape_of}
use Rattle.recovery.specs.{Calls.{IsWritten, IsNoneOrWritten}, NewImage.{Under, IsPart}, declared.image_plan.ImagePlan.ImagePlan}
use Rattle.recovery.proofs.ImageCalls.{image_driven}
use Rattle.recovery.proofs.formatting.write_image.Goals as goal

-- the new image is that of a format
new_written : {shape : Shape} {stamp end : ℕ} {start under image : Image} → stamp ≡ 1 → Holds 0 (replicate 512 0) start under → 2 ≤ end
    → IsWritten shape stamp end under image → IsWritten shape 1 end start image
new_written one wiped long is = grind (arith, is.zeros, is.behind, wiped.elsewhere)

-- and a part of it has no super
none_or_written : {plan : ImagePlan} {under : Under} {shape : Shape} {stamp end : ℕ} {start image : Image} → stamp ≡ 1
    → Holds 0 (replicate 512 0) start under.image → 2 ≤ end → IsPart plan under image ⊎ IsWritten shape stamp end under.image image
    → IsNoneOrWritten shape end start image
none_or_written one wiped long either =
    ⊎_elim (λ part. inl (grind (arith, part.each 0))) (λ new. inr (new_written one wiped long new)) either

pub returns-clause-image : goal.returns-clause-image
returns-clause-image g c =
    let old = g.M.Medium.state c.args.m.now in
    let under = updated old.content 0 (replicate 512 0) in
    let wiped : Holds 0 (replicate 512 0) old.content under =
    grind (arith, updated_here old.content 0 (replicate 512 0) 0, updated_elsewhere old.content 0 (replicate 512 0)) in
    let long : 2 ≤ c.args.end = omega (arith, c.args.sizes.now.home_is.0, c.requires.log) in
    let d = image_driven (λ image. CutLeaves old.may_leave image ⊎ IsNoneOrWritten (shape_of c.args.sizes.now) c.args.end old.content image)
    (c.args.end + 5) (old.calls + 2) (record { first = 1; image = under; some = omega arith; most = omega arith })
    c.drive.ensures.driven c.drive.ensures.done (omega (arith, c.requires.inside, c.requires.fits)) tt (λ e. cc e) refl
    ((refl, wiped), λ image cut. cut) (omega arith) (omega arith) (omega arith)
    (λ image either. ⊎_elim (λ may. ⊎_elim inl (λ w. inr (inl (w.2.here ∙ wiped.here))) may)
    (λ is. inr (none_or_written c.new.ensures wiped long is)) either) in
    record {
      done = on_ok_weaker c.drive.result (λ is. (new_written c.new.ensures wiped long is.0, is.1)) d.1;
      writes = d.0;
      after_flush = λ more image since. none_or_written c.new.ensures wiped long (d.2 (omega (arith, more)) image since);
    }
