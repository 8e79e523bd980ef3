use Rattle.std.proofs.Common.{[], refl}
use Rattle.journal.specs.Sectors.{padded, spelling}
use Rattle.journal.proofs.fields.spell.Goals as goal

pub returns : goal.returns
unfolding padded spelling
returns c = c.put_all.ensures [] refl refl
