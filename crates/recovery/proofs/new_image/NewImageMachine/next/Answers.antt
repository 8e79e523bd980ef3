use Rattle.std.proofs.Common.{◌≡◌, true, false, ◌≤◌, ◌+◌, ◌-◌, inl, inr, refl, suc, arith}
use Rattle.recovery.proofs.ImageCalls.{tells_write, tells_flush}
use Rattle.recovery.specs.declared.image_stage.ImageStage.TheVariants as stage
use Rattle.recovery.proofs.new_image.NewImageMachine.next.Goals as goal

pub returns-in-Wipe : goal.returns-in-Wipe
returns-in-Wipe g c =
    let s = c.args.self.now in
    tells_write g.met.M.Medium.sound s stage.Wipe stage.FlushWipe c.in-Wipe.is tt (λ t is. is) (omega arith) 0
    (omega (arith, s.plan.sizes.home_is.0, s.plan.long)) (λ e. cc e) (grind arith) refl (λ view now has. (
      λ image holds. grind (arith, has.1.here, has.1.elsewhere, holds.elsewhere),
      λ image cut. inl cut,
      λ before image holds cut. inr (before, cut, rw has.1.here holds),
    ))

pub returns-in-FlushWipe : goal.returns-in-FlushWipe
returns-in-FlushWipe g c =
    let s = c.args.self.now in
    tells_flush g.met.M.Medium.sound s stage.FlushWipe (stage.Zeros 1 false) c.in-FlushWipe.is tt (λ t is. is) (omega arith)
    (grind arith) refl (λ view now has cut. (
      grind (arith, s.plan.sizes.home_is.0, s.plan.long, has.1, view.under.some),
      record { each = λ x. inl (has.1 x) },
    )) tt

pub returns-in-Zeros : goal.returns-in-Zeros
returns-in-Zeros g c =
    let s = c.args.self.now in
    let at = c.in-Zeros.at in
    let below = c.if-at-self.true in
    let more : s.plan.end - at ≡ suc (s.plan.end - (at + 1)) = omega (arith, below) in
    tells_write g.met.M.Medium.sound s (stage.Zeros at c.in-Zeros.field-1) (stage.Zeros (at + 1) c.in-Zeros.field-1) c.in-Zeros.is tt
    (λ t is. is.0 below) (omega arith) at below (λ e. cc e) (grind arith) (rw more refl) (λ view now has. (
      λ image holds. grind (arith, below, has.zeros, has.elsewhere, holds.elsewhere, holds.here, has.some),
      λ image is. is,
      λ before image holds is. grind (arith, is.each, holds, has.some, below),
    ))

pub returns-in-Zeros-2 : goal.returns-in-Zeros-2
returns-in-Zeros-2 g c =
    let s = c.args.self.now in
    let at = c.in-Zeros.at in
    let is : s.stage ≡ stage.Zeros at true = cc (c.in-Zeros.is, c.in-Zeros-2.is, c.if-flush.true) in
    let none : s.plan.end - at ≡ 0 = omega (arith, c.if-at-self.false) in
    tells_flush g.met.M.Medium.sound s (stage.Zeros at true) (stage.Zeros at false) is tt (λ t is. is.1 c.if-at-self.false) (omega arith)
    refl (rw none refl) (λ view now has cut. (has, cut)) tt

pub returns-in-Zeros-3 : goal.returns-in-Zeros-3
returns-in-Zeros-3 g c =
    let s = c.args.self.now in
    let at = c.in-Zeros.at in
    let is : s.stage ≡ stage.Zeros at false = cc (c.in-Zeros.is, c.in-Zeros-2.is, c.if-flush.false) in
    let full = c.if-at-self.false in
    let none : s.plan.end - at ≡ 0 = omega (arith, full) in
    tells_write g.met.M.Medium.sound s (stage.Zeros at false) stage.FlushHead is tt (λ t is. is.1 full) (omega arith) 1
    (omega (arith, s.plan.sizes.home_is.0, s.plan.long)) (λ e. cc e) (rw none refl) (rw none refl) (λ view now has. (
      λ image holds. grind (arith, full, c.encode.ensures, view.under.most, view.under.some, has.zeros, has.elsewhere, holds.elsewhere),
      λ image is. is,
      λ before image holds is. grind (arith, is.each, holds, c.encode.ensures),
    ))

pub returns-in-FlushHead : goal.returns-in-FlushHead
returns-in-FlushHead g c =
    tells_flush g.met.M.Medium.sound c.args.self.now stage.FlushHead stage.Super c.in-FlushHead.is tt (λ t is. is) (omega arith) refl
    refl (λ view now has cut. (has, (has, cut))) tt

pub returns-in-Super : goal.returns-in-Super
returns-in-Super g c =
    let s = c.args.self.now in
    let long : 2 ≤ s.plan.end = omega (arith, s.plan.sizes.home_is.0, s.plan.long) in
    let super = c.encode-in-Super.ensures in
    tells_write g.met.M.Medium.sound s stage.Super stage.FlushSuper c.in-Super.is tt (λ t is. is) (omega arith) 0 (omega (arith, long))
    (λ e. cc e) refl refl (λ view now has. (
      λ image holds. grind (arith, long, super, has.zeros, has.elsewhere, holds.elsewhere),
      λ image is. inl is.1,
      λ before image holds is. inr (grind (arith, long, super, is.0.zeros, is.0.elsewhere, holds.elsewhere)),
    ))

pub returns-in-FlushSuper : goal.returns-in-FlushSuper
returns-in-FlushSuper g c =
    tells_flush g.met.M.Medium.sound c.args.self.now stage.FlushSuper stage.Made c.in-FlushSuper.is tt (λ t is. is) (omega arith) refl
    refl (λ view now has cut. (has, has)) tt
