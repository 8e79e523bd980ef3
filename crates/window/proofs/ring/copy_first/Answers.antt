use Rattle.window.proofs.Copied.{first_copied, behind_stays}
use Rattle.window.proofs.ring.copy_first.Goals as goal

pub returns-clause-first : goal.returns-clause-first
returns-clause-first c = first_copied c.args.blocks.now _ _ _ c.args.head c.args.count c.min-ahead.result c.min-ahead.ensures
    c.requires.starts c.requires.fits c.copy_sectors.ensures c.copy_sectors-2.ensures

pub returns-clause-behind : goal.returns-clause-behind
returns-clause-behind c = behind_stays c.args.blocks.now _ _ _ c.args.head c.args.count c.min-ahead.result c.min-ahead.ensures
    c.requires.starts c.requires.fits c.copy_sectors.ensures c.copy_sectors-2.ensures
