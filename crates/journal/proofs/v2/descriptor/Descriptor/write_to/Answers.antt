use Rattle.std.proofs.Common.{ℕ, List, [], ◌∷◌, refl, rules, flat_map}
use Rattle.byteorder.specs.Endian.{little_bytes}
use Rattle.journal.specs.Sectors.{padded, spelling}
use Rattle.journal.proofs.v2.descriptor.Descriptor.write_to.Goals as goal

pub returns : goal.returns
unfolding spelling padded
returns c =
    let d = c.args.self.now in
    let header : List ℕ = flat_map (little_bytes 8) (c.mark_number-mark.result ∷ d.stamp ∷ d.count ∷ d.index ∷ []) in
    let written = c.append_entries.ensures header refl c.spell.ensures in
    search rules
