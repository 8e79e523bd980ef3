use Rattle.std.proofs.Common.{inl, inr, refl, arith, rules}
use Rattle.transport_laws.proofs.Packets.{packets_of-none}
use Rattle.spec.specs.Exchange.{finished}
use Rattle.bot_machine.proofs.{Wrappers.{opens, waits_to_send_none}, Packets.some_bytes}
use Rattle.bot_machine.proofs.LaggingPackets.{acts_alone, at_once_over, at_once_wants, nothing_left}
use Rattle.bot_machine.proofs.pending.open_packet.Goals as goal

pub returns-in_default : goal.returns-in_default
returns-in_default g c =
    let bulk = c.args.bulk.now in
    rw c.lock.ensures
    (acts_alone g.met.M.Medium.follows_itself g.met.M.Medium.sound c.args.unit.now bulk _ c.args.transfer.now c.args.transfer.now
    c.args.packet.now
    (λ book size. rw (nothing_left bulk c.args.transfer.now c.requires.expected)
    (refl, inr (record { unknown = c.in_default.ensures; unit = refl; after = refl })))
    (rw c.requires.expected tt) refl refl)

pub returns-in_err-wanted-in-AtOnce : goal.returns-in_err-wanted-in-AtOnce
returns-in_err-wanted-in-AtOnce g c =
    rw c.from_residual.ensures
    (at_once_over c.args.unit.now c.begin.new.unit c.args.bulk.now c.begin.new.bulk c.args.transfer.now c.begin.new.out c.args.packet.now
    c.in-Some.exchange c.in-Some.ensures c.in-AtOnce.ensures c.requires.expected (omega arith) c.in_err-wanted-in-AtOnce.ensures)

pub returns-in_ok-wanted-in-AtOnce : goal.returns-in_ok-wanted-in-AtOnce
returns-in_ok-wanted-in-AtOnce g c =
    at_once_wants c.args.unit.now c.begin.new.unit c.args.bulk.now c.begin.new.bulk c.args.transfer.now c.begin.new.out c.args.packet.now
    c.in-Some.exchange c.in-Some.ensures c.in-AtOnce.ensures c.requires.expected (omega arith) c.in_ok-wanted-in-AtOnce.wanted
    c.requires.room c.in_ok-wanted-in-AtOnce.ensures

pub returns-in-AfterData : goal.returns-in-AfterData
returns-in-AfterData g c =
    let e = c.in-Some.exchange in
    let unit = c.args.unit.now in
    let bulk = c.args.bulk.now in
    rw c.expect_data.ensures
    (acts_alone g.met.M.Medium.follows_itself g.met.M.Medium.sound unit bulk _ c.args.transfer.now c.args.transfer.now c.args.packet.now
    (λ book size. rw (nothing_left bulk c.args.transfer.now c.requires.expected) (
      refl,
      inl (opens _ book size _ e c.in-Some.ensures _ _ _ (rw (← c.in-AfterData.ensures) (refl, refl))),
    ))
    (search (rules, waits_to_send_none)) refl refl)

pub returns-in-Never : goal.returns-in-Never
returns-in-Never g c =
    let e = c.in-Some.exchange in
    let unit = c.args.unit.now in
    let bulk = c.args.bulk.now in
    acts_alone g.met.M.Medium.follows_itself g.met.M.Medium.sound unit bulk _ c.args.transfer.now c.args.transfer.now c.args.packet.now
    (λ book size. rw (nothing_left bulk c.args.transfer.now c.requires.expected) (
      refl,
      inl (opens _ book size _ e c.in-Some.ensures _ _ _ (rw (← c.in-Never.ensures) (
        refl,
        rw (packets_of-none _ (some_bytes bulk.size)) at (c.conclude.ensures.line c.args.transfer.now finished (omega arith)),
      ))),
    ))
    (c.conclude.ensures.phase _ _ (omega arith)) c.conclude.ensures.size refl
