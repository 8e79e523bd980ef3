use Rattle.std.proofs.{Common.{arith, refl, sym, ◌∙◌}, lemmas.Result.err_from_is_err_and, lemmas.Bool.Decides.nat_tests}
use Rattle.scsi.specs.declared.command.Command.TheVariants as command
use Rattle.scsi_unit.proofs.{CommandCalls.synced, PerformedCommands.{by_table, dies_writing, selects_bit}}
use Rattle.blocks.proofs.StoreRuns.{comes_itself}
use Rattle.scsi_unit.proofs.unit.Unit.select.Goals as goal

pub returns-in_err-enabled-clause-performs : goal.returns-in_err-enabled-clause-performs
returns-in_err-enabled-clause-performs g c =
    let p = err_from_is_err_and c.from_residual.result c.from_residual.ensures.1 in
    let refused = sym c.mode_select.ensures.answer ∙ c.in_err-enabled.was in
    rw (p.1, p.2)
    (by_table (g.met.M.Medium.sound c.args.self.now.store.medium) refl refl refl (λ book fits. grind (arith, refused, c.from.ensures)))

pub returns-in_err-synchronize_if-clause-performs : goal.returns-in_err-synchronize_if-clause-performs
returns-in_err-synchronize_if-clause-performs g c =
    let p = err_from_is_err_and c.from_residual-in_err-synchronize_if.result c.from_residual-in_err-synchronize_if.ensures.1 in
    let chosen = sym c.mode_select.ensures.answer ∙ c.in_ok-enabled.was in
    let unwanted = c.in_err-synchronize_if.ensures.unwanted in
    rw (p.1, p.2)
    (dies_writing c.requires.live (command.ModeSelect c.args.list_len) c.in_err-synchronize_if.ensures refl
    (grind (arith, nat_tests, unwanted, chosen, c.from.ensures, c.is_disabled-clears.ensures)))

pub returns-clause-performs : goal.returns-clause-performs
returns-clause-performs g c =
    let chosen = sym c.mode_select.ensures.answer ∙ c.in_ok-enabled.was in
    selects_bit c.requires.live (rw c.is_disabled-clears.ensures at c.in_ok-synchronize_if.ensures) (grind (arith, chosen, c.from.ensures))

pub returns-in_err-synchronize_if-clause-bounded : goal.returns-in_err-synchronize_if-clause-bounded
returns-in_err-synchronize_if-clause-bounded g c =
    let chosen = sym c.mode_select.ensures.answer ∙ c.in_ok-enabled.was in
    let clears = c.is_disabled-clears.ensures in
    synced c.requires.live c.synchronize_if.ensures (grind (arith, chosen, c.from.ensures, clears))

pub returns-clause-bounded : goal.returns-clause-bounded
returns-clause-bounded g c =
    let chosen = sym c.mode_select.ensures.answer ∙ c.in_ok-enabled.was in
    let clears = c.is_disabled-clears.ensures in
    synced c.requires.live c.synchronize_if.ensures (grind (arith, chosen, c.from.ensures, clears))

pub returns-in_err-enabled-clause-follows : goal.returns-in_err-enabled-clause-follows
returns-in_err-enabled-clause-follows g c = comes_itself g.met.M.Medium.follows_itself
