use Rattle.std.proofs.{Common.{arith, refl}, lemmas.Result.err_from_is_err_and, lemmas.Bool.Decides.nat_tests}
use Rattle.scsi.specs.declared.command.Command.TheVariants as command
use Rattle.scsi_unit.proofs.{CommandCalls.{synced, read_on}, PerformedCommands.{by_table, dies_writing, reads_blocks_of}}
use Rattle.blocks.proofs.StoreRuns.{comes_itself, comes_through}
use Rattle.scsi_unit.proofs.unit.Unit.read.Goals as goal

pub returns-then-transfer-eq0-clause-performs : goal.returns-then-transfer-eq0-clause-performs
returns-then-transfer-eq0-clause-performs g c taken =
    let none = c.if-transfer-eq0.true in
    by_table (g.met.M.Medium.sound c.args.self.now.store.medium) refl refl refl (λ book fits. grind (arith, nat_tests, none))

pub returns-in_err-synchronize_if-clause-performs : goal.returns-in_err-synchronize_if-clause-performs
returns-in_err-synchronize_if-clause-performs g c taken =
    let p = err_from_is_err_and c.from_residual.result c.from_residual.ensures.1 in
    let unwanted = c.in_err-synchronize_if.ensures.unwanted in
    rw (p.1, p.2)
    (dies_writing c.requires.live (command.Read10 c.args.transfer) c.in_err-synchronize_if.ensures refl
    (grind (arith, nat_tests, unwanted, c.if-transfer-eq0.false)))

pub returns-clause-performs : goal.returns-clause-performs
returns-clause-performs g c taken =
    reads_blocks_of c.requires.live c.if-transfer-eq0.false c.read_blocks.result c.read_blocks.new.out c.in_ok-synchronize_if.ensures
    c.read_blocks.ensures

pub returns-in_err-synchronize_if-clause-bounded : goal.returns-in_err-synchronize_if-clause-bounded
returns-in_err-synchronize_if-clause-bounded g c =
    let some = c.if-transfer-eq0.false in
    synced c.requires.live c.in_err-synchronize_if.ensures (grind (arith, nat_tests, some))

pub returns-clause-bounded : goal.returns-clause-bounded
returns-clause-bounded g c = read_on c.requires.live c.if-transfer-eq0.false c.in_ok-synchronize_if.ensures c.read_blocks.ensures

pub returns-then-transfer-eq0-clause-sends : goal.returns-then-transfer-eq0-clause-sends
returns-then-transfer-eq0-clause-sends g c = record {
  sent = grind (arith, nat_tests, c.if-transfer-eq0.true);
  follows = comes_itself g.met.M.Medium.follows_itself;
}

pub returns-clause-sends : goal.returns-clause-sends
returns-clause-sends g c = record {
  sent = c.read_blocks.ensures.sent_all;
  follows = comes_through g.met.M.Medium.follows_through c.synchronize_if.ensures.follows.comes c.read_blocks.ensures.follows.comes;
}
