use Rattle.std.proofs.Common.{◌≡◌, ◌≤◌, ◌<◌, ◌-◌, inl, inr, length, drop, slice_range, sym, ap, refl, arith, length-take}
use Rattle.std.proofs.lemmas.Bool.{cases_lt}
use Rattle.spec.specs.{Exchange.{Line, after_in}, Packets.bytes_of}
use Rattle.bot_machine.specs.{Disk.DiskValue, Refinement.line_of}
use Rattle.bot_machine.proofs.Packets.{some_bytes, few_bytes, sent_more, sent_last, answer_sent}
use Rattle.bot_machine.proofs.disk.Disk.bulk_in.Goals as goal

pub returns-in-DataIn : goal.returns-in-DataIn
returns-in-DataIn g c =
    let d = c.self.inside in
    let put : Line → DiskValue g.row.M.Denot = λ s. record { line = s; unit = d.unit } in
    let i = c.in-DataIn in
    let held = rw i.is at c.self.invariant.phase_holds in
    let some : i.from < i.to = held.0 in
    let there : i.to ≤ length d.transfer.items = omega (arith, c.self.invariant.room, held.1) in
    let moves = c.move_on-end.ensures in
    let e = c.move_on-end.result in
    let answer = answer_sent (bytes_of d.bulk.size) (some_bytes d.bulk.size) d.bulk.locked d.bulk.out_halted d.bulk.status
    d.transfer.items i.from i.to e i.halt some there moves.ends in
    let fits : length (slice_range d.transfer.items i.from e) ≤ bytes_of d.bulk.size =
    omega (arith, moves.ends, length-take (e - i.from) (drop i.from d.transfer.items)) in
    let after = elim (cases_lt e i.to) as (λ _. put (line_of c.move_on-end.new.self d.transfer.items) ≡ put
    (after_in (line_of d.bulk d.transfer.items))) [
      | inl more ↦
          rw (moves.more more, c.in-DataIn.is, c.if-self.false) (ap put
          (sym (sent_more (bytes_of d.bulk.size) (some_bytes d.bulk.size) d.bulk.locked d.bulk.out_halted d.bulk.status
          d.transfer.items i.from i.to e i.halt some there moves.ends more)))
      | inr last ↦
          rw (moves.last last, c.in-DataIn.is, c.if-self.false) (ap put
          (sym (sent_last (bytes_of d.bulk.size) (some_bytes d.bulk.size) d.bulk.locked d.bulk.out_halted d.bulk.status
          d.transfer.items i.from i.to e i.halt some there moves.ends last)))
    ] in
    rw (← c.self.view_is, c.in-DataIn.is, c.deref.ensures.value, c.if-self.false) (
      (refl, (λ _. tt), rw (c.in-DataIn.is, c.if-self.false) at after),
      record { after = tt; answer = answer; fits = fits; most = (few_bytes d.bulk.size).1 },
    )
