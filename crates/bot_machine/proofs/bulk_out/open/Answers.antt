use Rattle.std.proofs.Common.{◌≡◌, ◌∙◌, inl, inr, [], refl, sym, arith}
use Rattle.transport_laws.proofs.Packets.{packets_of-none}
use Rattle.bot_machine.proofs.{Wrappers.{at_home, opens, no_write, carries_out, carried_at_once}, Packets.some_bytes}
use Rattle.bot_machine.proofs.{UnitLaws.{proceeding_so, fits_size}, OutPackets.{unit_stays, idle, carried, passes_wider}}
use Rattle.spec.specs.{Packets.bytes_of, Exchange.{at_once, after_data, never}}
use Rattle.bot_machine.specs.Refinement.{left_of}
use Rattle.bot_machine.proofs.bulk_out.open.Goals as goal

pub returns-in_default-clause-serves : goal.returns-in_default-clause-serves
returns-in_default-clause-serves g c =
    let unit = c.args.unit.now in
    rw c.lock.ensures
    (idle _ unit _ _ _ _ (g.met.M.Medium.sound unit.store.medium)
    (λ book size. (refl, inr (record { unknown = c.in_default.ensures; unit = refl; after = refl }))) (λ book. refl)
    (λ book size block taken carries. c.in_default.ensures carries.command carries.spelled))

pub returns-in_default-clause-passes : goal.returns-in_default-clause-passes
returns-in_default-clause-passes g c =
    unit_stays _ _ _ c.args.unit.now c.args.bulk.now c.lock.new.self g.met.M.Medium.follows_itself
    (rw (c.lock.ensures, c.requires.expected) tt) (rw c.lock.ensures refl)

pub returns-in-AtOnce-clause-serves : goal.returns-in-AtOnce-clause-serves
returns-in-AtOnce-clause-serves g c =
    let e = c.in-Some.exchange in
    let begun = c.in-Some.ensures in
    let unit = c.args.unit.now in
    let bulk = c.args.bulk.now in
    let left = left_of (bytes_of bulk.size) bulk.phase c.args.transfer.now bulk.status in
    let spared = c.carry_out.ensures.spares in
    carried _ _ unit _ _ _ _ _ e.command.block.items []
    (λ book fits.
    let size = fits_size _ unit book fits in
    proceeding_so _ _ _ _ _ _ _ _ book (c.carry_out.ensures.carried_out _ left (λ once. refl) book fits)
    (no_write _ book size _ e begun [] c.in-AtOnce.ensures)
    (λ later moves. (refl, inl (opens _ book size _ e begun _ _ _ (rw (← c.in-AtOnce.ensures) moves)))))
    (λ book size. (
      carries_out _ book size _ e begun c.in-AtOnce.ensures,
      (λ block taken carries. let same = carried_at_once _ book size _ e begun block taken carries in (same.1, same.2)),
    ))
    (spared.0, spared.1, spared.2, spared.3 _ (λ once. refl))

pub returns-in-AfterData-clause-serves : goal.returns-in-AfterData-clause-serves
returns-in-AfterData-clause-serves g c =
    let e = c.in-Some.exchange in
    let unit = c.args.unit.now in
    idle _ unit _ _ _ _ (g.met.M.Medium.sound unit.store.medium)
    (λ book size. (
      refl,
      inl (opens _ book size _ e c.in-Some.ensures _ _ _ (rw (← c.in-AfterData.ensures, ← c.size-due.ensures)
          (refl, refl))),
    ))
    (λ book. refl)
    (λ book size block taken carries. let same : after_data ≡ at_once
    = c.in-AfterData.ensures ∙ (carried_at_once _ book size _ e c.in-Some.ensures block taken carries).0 in cc)

pub returns-in-Never-clause-serves : goal.returns-in-Never-clause-serves
returns-in-Never-clause-serves g c =
    let e = c.in-Some.exchange in
    let unit = c.args.unit.now in
    let bulk = c.args.bulk.now in
    let left = left_of (bytes_of bulk.size) bulk.phase c.args.transfer.now bulk.status in
    idle _ unit _ _ _ _ (g.met.M.Medium.sound unit.store.medium)
    (λ book size. (
      refl,
      inl (opens _ book size _ e c.in-Some.ensures _ _ _ (rw (← c.in-Never.ensures) (
        refl,
        rw (packets_of-none _ (some_bytes bulk.size)) at (c.conclude.ensures.line c.args.transfer.now left (omega arith)),
      ))),
    ))
    (λ book. refl)
    (λ book size block taken carries. let same : never ≡ at_once
    = c.in-Never.ensures ∙ (carried_at_once _ book size _ e c.in-Some.ensures block taken carries).0 in cc)

pub returns-in-Never-clause-passes : goal.returns-in-Never-clause-passes
returns-in-Never-clause-passes g c =
    unit_stays _ _ _ c.args.unit.now c.args.bulk.now c.conclude.new.self g.met.M.Medium.follows_itself
    (c.conclude.ensures.phase _ _ (omega arith)) c.conclude.ensures.size

pub returns-in-AtOnce-clause-passes : goal.returns-in-AtOnce-clause-passes
returns-in-AtOnce-clause-passes g c =
    passes_wider _ _ _ _ _ _ _ _ _ refl (at_home c.args.unit.now c.args.packet.now c.in-Some.exchange c.in-Some.ensures
    (sym c.in-AtOnce.ensures)) c.carry_out.ensures.passes
