use Rattle.std.proofs.Common.{◌∙◌}
use Rattle.journal.{specs.Formats.shape_of, proofs.SectorsRead.begun_is}
use Rattle.journal.proofs.copies.read_copy.Goals as goal

pub returns-clause-ok : goal.returns-clause-ok
returns-clause-ok g c stamp entries slot below is whole =
    c.put_first.ensures ∙ begun_is c.args.sizes.now.format (shape_of c.args.sizes.now)
    (g.M.Medium.state c.args.m.now).content stamp entries whole c.args.copy.place below c.args.first.now is c.read.new.to
    (rw (c.in_ok-read.ensures.ok, c.copy_place.ensures, slot))
