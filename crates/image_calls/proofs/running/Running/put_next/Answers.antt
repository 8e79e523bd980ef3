use Rattle.std.proofs.Common.{refl, sym, ◌∙◌, ap, subst}
use Rattle.image_calls.specs.{Running.IsAtRest, declared.asked.Asked.Asked}
use Rattle.image_calls.proofs.Stepped.{run_ends, gathers_still, gathers_through, gathers_more}
use Rattle.image_calls.proofs.running.Running.put_next.Goals as goal

pub returns-then-not-put-clause-puts : goal.returns-then-not-put-clause-puts
returns-then-not-put-clause-puts g c = let laws = g.met.T.Machine in (
  ap (λ x. x.asked) c.if-not-put.ensures.1 ∙ c.answer_reads.ensures.answers.2,
  refl,
  run_ends _ _ _ _ _ _ _ _ _ _ laws.leaves laws.goes_on _ _ _ _ _ c.if-not-put.ensures c.answer_reads.ensures.answers.3,
)

pub returns-then-not-put-clause-hands : goal.returns-then-not-put-clause-hands
returns-then-not-put-clause-hands g c = let laws = g.met.T.Machine in
    gathers_still _ _ _ _ _ _ _ _ _ _ laws.leaves laws.goes_on c.args.first c.args.count c.args.buffer.now c.args.self.now
    c.answer_reads.new.self _ c.answer_reads.ensures.hands c.if-not-put.ensures.1 c.if-not-put.ensures.2

pub returns-clause-hands : goal.returns-clause-hands
returns-clause-hands g c first began m n given = let laws = g.met.T.Machine in
    let rests : IsAtRest c.answer_reads.new.self.carried.asked =
    subst (λ (a : Asked). IsAtRest a) (sym (c.answer_reads.ensures.answers.2 ∙ c.requires.writes)) tt in
    gathers_more _ _ _ _ _ _ _ _ _ _ laws.leaves laws.goes_on c.args.first c.args.count c.args.buffer.now c.put-2.new.bytes
    c.answer_reads.new.self _ rests c.if-not-put.ensures c.put-2.ensures first began m n
    (gathers_through _ _ _ _ _ _ _ _ _ _ laws.leaves laws.goes_on c.args.first c.args.count c.args.buffer.now c.args.self.now
    c.answer_reads.new.self c.answer_reads.ensures.hands first began m n given)
