use Rattle.std.proofs.Common.{rules, arith}
use Rattle.medium.specs.ImageFile.{IsWritten}
use Rattle.medium.specs.SimView.{tally_of}
use Rattle.medium.proofs.ImageFile.{written_set, written_passes, written_follows}
use Rattle.medium.proofs.file.FileMediumMedium.write.Goals as goal

pub returns-clause-sets : goal.returns-clause-sets
returns-clause-sets g c =
    let w : IsWritten c.args.sector c.args.from.now c.args.self.now (record {
      bytes = c.write_through.new.copy.items;
      calls = c.next-self-inside.result.number;
      made = tally_of c.add.new.self;
      refused = tally_of c.self.inside.refused;
      file = c.write_through.new.file;
    }) =
    search rules in
    written_set _ _ _ _ w

pub returns-clause-passes : goal.returns-clause-passes
returns-clause-passes g c =
    let w : IsWritten c.args.sector c.args.from.now c.args.self.now (record {
      bytes = c.write_through.new.copy.items;
      calls = c.next-self-inside.result.number;
      made = tally_of c.add.new.self;
      refused = tally_of c.self.inside.refused;
      file = c.write_through.new.file;
    }) =
    search rules in
    written_passes _ _ _ _ w

pub returns-clause-follows : goal.returns-clause-follows
returns-clause-follows g c =
    let w : IsWritten c.args.sector c.args.from.now c.args.self.now (record {
      bytes = c.write_through.new.copy.items;
      calls = c.next-self-inside.result.number;
      made = tally_of c.add.new.self;
      refused = tally_of c.self.inside.refused;
      file = c.write_through.new.file;
    }) =
    search rules in
    written_follows _ _ _ _ w c.told-from (omega (arith, c.requires))
