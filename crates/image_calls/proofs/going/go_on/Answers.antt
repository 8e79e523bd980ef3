use Rattle.std.proofs.Common.{inl, refl, ◌∙◌, sym, arith}
use Rattle.window.specs.{WindowLaws.comes_after_itself}
use Rattle.image_calls.proofs.NextCall.{rests, keeps_part, follows_part, stays_part, fails_part}
use Rattle.image_calls.proofs.going.go_on.Goals as goal

pub loop-plan-init : goal.loop-plan-init
loop-plan-init c = record {
  follows = comes_after_itself c.args.work.now.medium;
  keeps = λ what shape first making. making;
  stays = λ either. refl;
}

pub returns-in_default-next_part : goal.returns-in_default-next_part
returns-in_default-next_part c =
    let inv = c.loop-plan.invariant in
    let nothing = sym c.waiting.ensures.is ∙ c.loop-plan-test.true in
    fails_part c.args.work.now c.loop-plan.work inv.follows inv.keeps inv.stays c.waiting-waiting.ensures.device c.in-Some.plan
    c.in-Some.is nothing c.next_part.new.m c.next_part.ensures.goes.follows c.next_part.ensures.goes.sends _ refl
    c.in_default-next_part.ensures.err

pub loop-plan-preserved : goal.loop-plan-preserved
loop-plan-preserved c =
    let inv = c.loop-plan.invariant in
    let nothing = sym c.waiting.ensures.is ∙ c.loop-plan-test.true in record {
      follows = follows_part c.args.work.now c.loop-plan.work inv.follows inv.keeps inv.stays c.waiting-waiting.ensures.device
          c.in-Some.plan c.in-Some.is nothing c.next_part.new.m c.next_part.ensures.goes.follows c.next_part.ensures.goes.sends;
      keeps = keeps_part c.args.work.now c.loop-plan.work inv.follows inv.keeps inv.stays c.waiting-waiting.ensures.device
          c.in-Some.plan c.in-Some.is nothing c.next_part.new.m c.next_part.ensures.goes.follows c.next_part.ensures.goes.sends c.in-Ok.left
          c.in-Ok.ensures.ok;
      stays = stays_part c.args.work.now c.loop-plan.work inv.follows inv.keeps inv.stays c.waiting-waiting.ensures.device
          c.in-Some.plan c.in-Some.is nothing c.next_part.new.m c.next_part.ensures.goes.follows c.next_part.ensures.goes.sends _;
    }

pub returns : goal.returns
returns c =
    let inv = c.loop-plan.invariant in
    rests c.args.work.now c.loop-plan.work inv.follows inv.keeps inv.stays c.waiting-waiting.ensures.device
    (inl (omega (arith, c.waiting.ensures.is, c.loop-plan-test.false)))
