use Rattle.std.proofs.Common.{refl, rules}
use Rattle.journal.proofs.v1.descriptor.Descriptor.write_to.Goals as goal

pub returns : goal.returns
returns c =
    let written = c.put_all.ensures _ refl c.spell.ensures in search rules
