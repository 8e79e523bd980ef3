use Rattle.std.proofs.{Common.{◌≡◌, ◌+◌, ◌∙◌, ap, arith, inl, rules}, lemmas.Bool.Decides.nat_tests}
use Rattle.medium.specs.{Sent.sent, declared.fault.MediumFault.TheVariants.Flush}
use Rattle.journal.specs.Places.{Shape, limit_of}
use Rattle.theorems.{specs.{Ahead.{passed, passed_calls}, Room.{NeedsNoneAhead, HasSlots}}, proofs.Steady.none_ahead}
use Rattle.blocks.{specs.Passing.PassesPaid, proofs.TurnsJoined.{kept_paid, paid_more, paid_then, rested_paid}}
use Rattle.blocks.proofs.store.Store.go_ahead.Goals.{Else-needs_none_ahead, After-pass_head, In_ok-pass_head}
use Rattle.blocks.proofs.store.Store.go_ahead.Goals as goal

-- something is to be done ahead
few : (g : _) (c : Else-needs_none_ahead g) → NeedsNoneAhead c.args.self.now.cached.log → ⊥
few g c none = grind (arith, c.needs_none_ahead.ensures, c.if-needs_none_ahead.false)

-- the flush is counted, and the head goes past
passes : (g : _) (c : After-pass_head g) → PassesPaid g.M.Medium.state g.M.Medium.follows 1 c.args.self.now c.pass_head.new.self
passes g c =
    let counts = c.count_flush.ensures in
    paid_then {first = 0} g.met.M.Medium.follows_through
    (kept_paid g.met.M.Medium.follows_itself counts.keeps (λ live. counts.fewer)) (counts.life ∙ c.requires.live)
    c.pass_head.ensures.passes (omega (arith, ap (λ m. sent (g.M.Medium.state m)) counts.keeps.medium, c.pass_head.ensures.passes.sent))

-- what the head that went past makes of the log, by how many calls
gone_past : (g : _) (c : In_ok-pass_head g) → (HasSlots 3 c.args.self.now.cached.log → ⊥)
    → (c.pass_head.new.self.cached.log ≡ passed c.args.self.now.cached.log)
    × ((g.M.Medium.state c.pass_head.new.self.medium).calls
    ≡ (g.M.Medium.state c.args.self.now.medium).calls + passed_calls c.args.self.now.cached.log)
    × ((g.M.Medium.state c.pass_head.new.self.medium).made Flush ≡ (g.M.Medium.state c.args.self.now.medium).made Flush)
gone_past g c short =
    let passing = rw c.count_flush.ensures.keeps.medium at c.pass_head.ensures.way in
    grind (arith, nat_tests, passing, c.in_ok-pass_head.ensures.answer, c.count_flush.ensures.is, short)

pub returns-then-needs_none_ahead : goal.returns-then-needs_none_ahead
returns-then-needs_none_ahead g c =
    let none = none_ahead c.args.self.now.cached.log (c.needs_none_ahead.ensures.0 c.if-needs_none_ahead.true) in
    let m = g.met.M.Medium in
    record { passes = rested_paid m.follows_itself m.sound; going = grind (arith, none, c.requires); rests = search rules }

pub returns-in_err-pass_head : goal.returns-in_err-pass_head
returns-in_err-pass_head g c =
    let all = passes g (goal.at.returns-in_err-pass_head g c).After-pass_head in
    let passing = rw c.count_flush.ensures.keeps.medium at c.pass_head.ensures.way in
    record {
      passes = paid_more all (omega (arith, all.sent));
      going = grind (arith, c.in_err-pass_head.ensures.answer, c.count_flush.ensures, passing);
      rests = λ none. absurd (few g (goal.at.returns-in_err-pass_head g c).Else-needs_none_ahead none);
    }

pub returns-then-has_slots : goal.returns-then-has_slots
returns-then-has_slots g c =
    let all = passes g (goal.at.returns-then-has_slots g c).After-pass_head in
    let some = few g (goal.at.returns-then-has_slots g c).Else-needs_none_ahead in
    let slots : HasSlots 3 c.pass_head.new.self.cached.log = rw (← c.self.view_is) (c.has_slots.ensures.0 c.if-has_slots.true) in
    let past = gone_past g (goal.at.returns-then-has_slots g c).In_ok-pass_head (λ slots. some (inl slots)) in
    let live = c.in_ok-pass_head.ensures.answer in
    grind (arith, nat_tests, all, some, slots, past, live, c.count_flush.ensures, c.pass_head.ensures.way.stays)

pub returns : goal.returns
returns g c =
    let first = passes g (goal.at.returns g c).After-pass_head in
    let last = c.go_home.ensures in
    let some = few g (goal.at.returns g c).Else-needs_none_ahead in
    let past = gone_past g (goal.at.returns g c).In_ok-pass_head (λ slots. some (inl slots)) in
    let short : HasSlots 3 c.pass_head.new.self.cached.log → ⊥ = λ (slots : HasSlots 3 c.pass_head.new.self.cached.log).
    grind (arith, c.has_slots.ensures, c.if-has_slots.false, c.self.view_is) in
    let limit = ap (λ (shape : Shape). limit_of shape.format) first.turn.goes_on.layout_stays in
    let all = paid_then {all = limit_of c.args.self.now.cached.log.shape.format + 1} g.met.M.Medium.follows_through first
    c.in_ok-pass_head.ensures.answer last.passes (omega (arith, first.sent, last.passes.sent, limit)) in
    let counts = c.count_flush.ensures in
    record {
      passes = all;
      going = grind (
        arith,
        nat_tests,
        short,
        past,
        last.going,
        counts.is,
        counts.head,
        counts.stays,
        counts.life,
        c.pass_head.ensures.way.stays,
      );
      rests = λ none. absurd (some none);
    }
