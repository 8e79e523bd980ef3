use Rattle.std.proofs.Common.{◌≡◌, ◌≤◌, ◌<◌, ◌+◌, ◌*◌, ◌/◌, List, ◌++◌, ◌∷◌, [], length, true, sym, ◌∙◌, ap, subst, arith, length-append}
use borrow.Author.Tests.{ltb-true}
use Rattle.medium.specs.Power.{admits}
use Rattle.medium.specs.declared.fault.MediumFault.TheVariants.{Write}
use Rattle.medium.specs.declared.unflushed.UnflushedWrite.{UnflushedWrite}
use Rattle.medium.specs.Sim.{Sim, fits, after_call}
use Rattle.medium.specs.Writes.{LieWithin, are_whole}
use Rattle.medium.specs.SimLaws.{size_whole}
use Rattle.medium.proofs.Flushed.{whole_last, admits_fits, written_content, written_set, room_last}
use Rattle.medium.proofs.SimCalls.{refused_once, written_once}
use Rattle.medium.proofs.sim.SimMediumMedium.write.Goals as goal

pub invariant_of-self : goal.invariant_of-self
invariant_of-self c =
    let w : UnflushedWrite = record { sector = c.args.sector; block = c.args.from.now } in
    let sound = c.self.invariant.well_formed in
    let view = c.self.view_is ∙ c.admit.ensures.after in
    let same_size : length c.self.inside.bytes.items ≡ length c.args.self.now.flushed = ap (λ (m : Sim). length m.flushed) view in
    let whole : are_whole c.args.self.now.unflushed ≡ true = ap (λ (m : Sim). are_whole m.unflushed) (sym view) ∙ sound.whole_writes in
    let inside : w.sector < length c.args.self.now.flushed / 512 = rw (size_whole c.args.self.now whole) at c.requires in
    let lies : 512 * (w.sector + 1) ≤ length c.self.inside.bytes.items = omega (arith, inside, same_size, sound.whole) in
    let happens : admits c.args.self.now.power Write c.has_room-fits.result ≡ true = sym c.admit.ensures.happens ∙ c.if-not-admit.false in
    let fewer : length c.args.self.now.unflushed < c.args.self.now.room =
    ltb-true _ _ (sym c.has_room-fits.ensures ∙ admits_fits c.args.self.now.power Write c.has_room-fits.result happens) in
    let same_room : c.self.inside.room ≡ c.args.self.now.room = ap (λ (m : Sim). m.room) view in
    let same_writes : length c.self.inside.writes.items ≡ length c.args.self.now.unflushed = ap (λ (m : Sim). length m.unflushed) view in
    let held : length c.push_reserved.new.self.items ≤ c.self.inside.room =
    rw c.push_reserved.ensures.items (simp length-append (omega arith)) in
    let whole_writes : are_whole c.push_reserved.new.self.items ≡ true =
    rw c.push_reserved.ensures.items (whole_last c.self.inside.writes.items w sound.whole_writes c.told-from) in
    record {
      well_formed = record {
        some = sound.some;
        whole = sound.whole;
        within = subst (LieWithin (length c.self.inside.bytes.items)) (sym c.push_reserved.ensures.items)
            (room_last _ c.self.inside.writes.items w sound.within lies);
        whole_writes = whole_writes;
        held = held;
      };
      reserved = omega (arith, c.push_reserved.ensures.capacity, c.self.invariant.reserved);
    }

pub returns-clause-ok : goal.returns-clause-ok
returns-clause-ok c =
    let view = c.self.view_is ∙ c.admit.ensures.after in
    written_content c.args.self.now c.self.inside.bytes.items c.push_reserved.new.self.items
    (record { sector = c.args.sector; block = c.args.from.now }) (ap (λ (m : Sim). m.flushed) view)
    (c.push_reserved.ensures.items
    ∙ ap (λ (m : Sim). m.unflushed ++ record { sector = c.args.sector; block = c.args.from.now } ∷ []) view)

pub returns-clause-sets : goal.returns-clause-sets
returns-clause-sets c =
    let view = c.self.view_is ∙ c.admit.ensures.after in
    written_set c.args.self.now c.self.inside.bytes.items c.push_reserved.new.self.items
    (record { sector = c.args.sector; block = c.args.from.now }) (ap (λ (m : Sim). m.flushed) view)
    (c.push_reserved.ensures.items
    ∙ ap (λ (m : Sim). m.unflushed ++ record { sector = c.args.sector; block = c.args.from.now } ∷ []) view)

pub returns-then-not-admit-clause-follows : goal.returns-then-not-admit-clause-follows
returns-then-not-admit-clause-follows c =
    let room = c.has_room-fits.ensures in
    refused_once c.args.self.now c.admit.new.self c.args.sector c.args.from.now
    (ap (admits c.args.self.now.power Write) (sym room) ∙ sym c.admit.ensures.happens ∙ c.if-not-admit.true)
    (c.admit.ensures.after ∙ ap (after_call c.args.self.now Write) room)

pub returns-clause-follows : goal.returns-clause-follows
returns-clause-follows c =
    let room = c.has_room-fits.ensures in
    let w : UnflushedWrite = record { sector = c.args.sector; block = c.args.from.now } in
    let view = c.self.view_is ∙ c.admit.ensures.after ∙ ap (after_call c.args.self.now Write) room in
    written_once c.args.self.now _ c.args.sector c.args.from.now
    (ap (admits c.args.self.now.power Write) (sym room) ∙ sym c.admit.ensures.happens ∙ c.if-not-admit.false)
    (ap (λ (m : Sim). record m { unflushed = c.push_reserved.new.self.items }) view
    ∙ ap (λ (l : List UnflushedWrite). record (after_call c.args.self.now Write (fits c.args.self.now)) { unflushed = l })
    (c.push_reserved.ensures.items ∙ ap (λ (m : Sim). m.unflushed ++ w ∷ []) view))
