use Rattle.std.proofs.Common.{sym, ◌∙◌}
use Rattle.disk_machine.proofs.Sights.{has_place}
use Rattle.disk_machine.proofs.machine.DiskMachine.has_place.Goals as goal

pub returns-else-is_refused : goal.returns-else-is_refused
returns-else-is_refused c =
    rw (sym c.needed_home.ensures.is, c.in-Some.is)
    (has_place c.args.self.now c.in-Some.field-0 c.lacks.result c.is_none.result (sym c.is_refused.ensures ∙ c.if-is_refused.false)
    c.is_none.ensures c.lacks.ensures)
