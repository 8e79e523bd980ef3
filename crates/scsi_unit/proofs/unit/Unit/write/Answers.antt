use Rattle.std.proofs.{Common.{arith, refl}, lemmas.Result.err_from_is_err_and, lemmas.Bool.Decides.nat_tests}
use Rattle.scsi_unit.proofs.CommandCalls.{write_stops, write_on, spares_writing}
use Rattle.scsi_unit.proofs.PerformedCommands.{by_table, write_refused, writes_blocks}
use Rattle.blocks.proofs.StoreRuns.{comes_itself, comes_through}
use Rattle.scsi_unit.proofs.unit.Unit.write.Goals as goal

pub returns-then-transfer-eq0-clause-performs : goal.returns-then-transfer-eq0-clause-performs
returns-then-transfer-eq0-clause-performs g c =
    let none = c.if-transfer-eq0.true in
    by_table (g.met.M.Medium.sound c.args.self.now.store.medium) refl refl (grind (arith, nat_tests, none))
    (λ book fits. grind (arith, nat_tests, none))

pub returns-in_err-write_blocks-clause-performs : goal.returns-in_err-write_blocks-clause-performs
returns-in_err-write_blocks-clause-performs g c =
    let p = err_from_is_err_and c.from_residual.result c.from_residual.ensures.1 in
    rw (p.1, p.2)
    (write_refused c.requires.live c.in_err-write_blocks.ensures c.if-transfer-eq0.false)

pub returns-clause-performs : goal.returns-clause-performs
returns-clause-performs g c =
    writes_blocks c.requires.live c.if-transfer-eq0.false c.in_ok-write_blocks.ensures c.synchronize_if.result
    (rw c.goes_through-through.ensures at c.synchronize_if.ensures)

pub returns-in_err-write_blocks-clause-bounded : goal.returns-in_err-write_blocks-clause-bounded
returns-in_err-write_blocks-clause-bounded g c = write_stops c.if-transfer-eq0.false c.in_err-write_blocks.ensures

pub returns-clause-bounded : goal.returns-clause-bounded
returns-clause-bounded g c =
    write_on c.requires.live c.if-transfer-eq0.false c.in_ok-write_blocks.ensures
    (rw c.goes_through-through.ensures at c.synchronize_if.ensures) c.requires.within.few

pub returns-clause-spares : goal.returns-clause-spares
returns-clause-spares g c =
    spares_writing c.in_ok-write_blocks.ensures (rw c.goes_through-through.ensures at c.synchronize_if.ensures) c.if-transfer-eq0.false

pub returns-then-transfer-eq0-clause-follows : goal.returns-then-transfer-eq0-clause-follows
returns-then-transfer-eq0-clause-follows g c = comes_itself g.met.M.Medium.follows_itself

pub returns-clause-follows : goal.returns-clause-follows
returns-clause-follows g c =
    comes_through g.met.M.Medium.follows_through c.write_blocks.ensures.follows.comes c.synchronize_if.ensures.follows.comes
