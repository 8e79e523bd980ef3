use Rattle.std.proofs.{Common.{ℕ, ◌≡◌, ◌≢◌, ◌≤◌, inl, inr, length, min, refl, sym, arith, ◌∙◌}, lemmas.Bool.cases_lt}
use Rattle.transport_laws.proofs.Packets.{packets_of-none}
use Rattle.bot_machine.proofs.{Packets.some_bytes, OutPackets.one_taking}
use Rattle.bot_machine.proofs.LaggingPackets.{acts_alone, data_over, data_wants, nothing_from}
use Rattle.spec.specs.Packets.{bytes_of}
use Rattle.bot_machine.specs.Refinement.{taking_of}
use Rattle.bot_machine.proofs.pending.end_packet.Goals as goal

pub returns-then-packet-size_of_next : goal.returns-then-packet-size_of_next
returns-then-packet-size_of_next g c =
    let d = c.in-DataOut.taking in
    let unit = c.args.unit.now in
    let bulk = c.args.bulk.now in
    let most : ℕ = bytes_of bulk.size in
    acts_alone g.met.M.Medium.follows_itself g.met.M.Medium.sound unit bulk c.conclude_wrong_size.new.bulk c.args.transfer.now
    c.args.transfer.now c.args.packet.now
    (λ book size. rw (← c.in-DataOut.ensures.value) (
      refl,
      inr (inr (record {
        size = let s : length c.args.packet.now ≢ min most d.due = omega arith in s;
        unit = refl;
        after = rw (packets_of-none most (some_bytes bulk.size))
            at (c.conclude_wrong_size.ensures.line c.args.transfer.now (taking_of d c.args.transfer.now) (omega arith));
      })),
    ))
    (c.conclude_wrong_size.ensures.phase _ _ (omega arith)) c.conclude_wrong_size.ensures.size refl

pub returns-in_err-wanted : goal.returns-in_err-wanted
returns-in_err-wanted g c =
    let d = c.in-DataOut.taking in
    let unit = c.args.unit.now in
    let taking = c.requires.awaits.taking in
    let held = rw (← one_taking d taking.0 (c.in-DataOut.ensures.value ∙ taking.1)) at taking.2 in
    let most : ℕ = bytes_of c.args.bulk.now.size in
    let bytes = rw c.size-size.ensures at c.fill.ensures.bytes in
    let ends = c.requires.ends d (sym c.in-DataOut.ensures.value) in
    let last : d.due ≤ most = elim (cases_lt most d.due) [
      | inl h ↦ ends (omega (arith, h, c.if-packet-size_of_next.false, c.size_of_next.ensures, c.bytes-most.ensures))
      | inr h ↦ h
    ] in
    let whole : length c.args.packet.now ≡ d.due =
    omega (arith, last, c.if-packet-size_of_next.false, c.size_of_next.ensures, c.bytes-most.ensures) in
    rw c.from_residual.ensures
    (data_over unit c.begin.new.unit c.args.bulk.now c.begin.new.bulk c.args.transfer.now c.fill.new.buffer c.args.packet.now d
    c.fill.new.filled (sym c.in-DataOut.ensures.value) held whole last (rw c.size-size.ensures at c.fill.ensures.filled) bytes (omega arith)
    (rw (nothing_from c.begin.new.out (omega arith), c.replace.ensures.after) at c.in_err-wanted.ensures))

pub returns : goal.returns
returns g c =
    let d = c.in-DataOut.taking in
    let unit = c.args.unit.now in
    let taking = c.requires.awaits.taking in
    let held = rw (← one_taking d taking.0 (c.in-DataOut.ensures.value ∙ taking.1)) at taking.2 in
    let most : ℕ = bytes_of c.args.bulk.now.size in
    let bytes = rw c.size-size.ensures at c.fill.ensures.bytes in
    let ends = c.requires.ends d (sym c.in-DataOut.ensures.value) in
    let last : d.due ≤ most = elim (cases_lt most d.due) [
      | inl h ↦ ends (omega (arith, h, c.if-packet-size_of_next.false, c.size_of_next.ensures, c.bytes-most.ensures))
      | inr h ↦ h
    ] in
    let whole : length c.args.packet.now ≡ d.due =
    omega (arith, last, c.if-packet-size_of_next.false, c.size_of_next.ensures, c.bytes-most.ensures) in
    data_wants unit c.begin.new.unit c.args.bulk.now c.begin.new.bulk c.args.transfer.now c.fill.new.buffer c.args.packet.now d
    c.fill.new.filled (sym c.in-DataOut.ensures.value) held whole last (rw c.size-size.ensures at c.fill.ensures.filled) bytes (omega arith)
    c.in_ok-wanted.wanted (rw (nothing_from c.begin.new.out (omega arith), c.replace.ensures.after) at c.in_ok-wanted.ensures)
