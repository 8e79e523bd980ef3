use Rattle.std.proofs.Common.{refl}
use Rattle.std.proofs.lemmas.List.{map-set}
use Rattle.std.proofs.Math.Seq.{map-set_same}
use Rattle.cache.specs.declared.entry.Entry.{Entry}
use Rattle.cache.proofs.entry.set_row_place.Goals as goal

pub returns-clause-places : goal.returns-clause-places
returns-clause-places c = map-set (λ (e : Entry). e.place) c.args.entries.now c.args.at _

pub returns-clause-numbers : goal.returns-clause-numbers
returns-clause-numbers c = map-set_same (λ (e : Entry). e.number) c.args.entries.now c.args.at _ (record { number = 0; place = 0 }) refl
