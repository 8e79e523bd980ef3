use Rattle.std.proofs.Common.{◌≡◌, ℕ, true, length, if◌then◌else◌, sym, ◌∙◌, ap, rules}
use Rattle.medium.specs.Sim.{Sim, content_of}
use Rattle.medium.specs.Writes.{sector_of}
use Rattle.medium.specs.Power.{admits}
use Rattle.medium.specs.Tally.{one_more}
use Rattle.medium.specs.declared.fault.MediumFault.TheVariants.{Flush}
use Rattle.medium.proofs.Flushed.{apply_all, flushed_content, flushed_only, flushed_set}
use Rattle.medium.proofs.SimCalls.{flushed_once, unflushed_once}
use Rattle.medium.proofs.sim.SimMediumMedium.flush.Goals.{After-settle}
use Rattle.medium.proofs.sim.SimMediumMedium.flush.Goals as goal

all_applied : (c : After-settle) (s : ℕ) → sector_of c.settle.new.bytes.items s ≡ content_of c.args.self.now s
all_applied c s =
    let view = c.self.view_is ∙ c.admit.ensures.after in
    c.settle.ensures.sectors s ∙ apply_all _ _ _ _ s (ap (λ (m : Sim). m.unflushed) view) (ap (λ (m : Sim). m.flushed) view)

pub returns-clause-ok : goal.returns-clause-ok
returns-clause-ok c =
    flushed_only c.args.self.now c.settle.new.bytes.items c.settle.new.writes.items (all_applied (goal.at.returns-clause-ok c).After-settle)
    c.settle.ensures.none

pub returns-clause-content : goal.returns-clause-content
returns-clause-content c =
    flushed_content c.args.self.now c.settle.new.bytes.items c.settle.new.writes.items
    (all_applied (goal.at.returns-clause-content c).After-settle) c.settle.ensures.none

pub returns-clause-sets : goal.returns-clause-sets
returns-clause-sets c =
    flushed_set c.args.self.now c.settle.new.bytes.items c.settle.new.writes.items
    (all_applied (goal.at.returns-clause-sets c).After-settle) c.settle.ensures.none

pub returns-clause-exact : goal.returns-clause-exact
returns-clause-exact c =
    let view = c.self.view_is ∙ c.admit.ensures.after in
    let happens : admits c.args.self.now.power Flush true ≡ true = sym c.admit.ensures.happens ∙ c.if-not-admit.false in
    let was : c.self.inside.flushes ≡ c.args.self.now.flushes = ap (λ (m : Sim). m.flushes) view in
    record {
      image = all_applied (goal.at.returns-clause-exact c).After-settle;
      size_stays = c.settle.ensures.length ∙ ap (λ (m : Sim). length m.flushed) view;
      none = c.settle.ensures.none;
      flushes_are = rw (← was) (search rules);
      room_stays = ap (λ (m : Sim). m.room) view;
      power_is = ap (λ (m : Sim). m.power) view;
      calls_are = ap (λ (m : Sim). m.calls) view;
      made_is = ap (λ (m : Sim). m.made) view;
      refused_stay = ap (λ (m : Sim). m.refused) view
          ∙ ap (λ b. if b then c.args.self.now.refused else one_more c.args.self.now.refused Flush) happens;
      without_room_stays = ap (λ (m : Sim). m.without_room) view;
    }

pub returns-then-not-admit-clause-follows : goal.returns-then-not-admit-clause-follows
returns-then-not-admit-clause-follows c =
    unflushed_once c.args.self.now c.admit.new.self (sym c.admit.ensures.happens ∙ c.if-not-admit.true) c.admit.ensures.after

pub returns-clause-follows : goal.returns-clause-follows
returns-clause-follows c =
    flushed_once c.args.self.now _ (sym c.admit.ensures.happens ∙ c.if-not-admit.false) (returns-clause-exact c)
