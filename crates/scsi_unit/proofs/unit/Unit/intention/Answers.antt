use Rattle.blocks.specs.StoreValue.{blocks_of}
use Rattle.scsi_unit.specs.UnitValue.{unit_limit}
use Rattle.scsi_unit.proofs.unit.Unit.intention.Goals as goal

pub moves-requires : goal.moves-requires
moves-requires g c =
    let most = rw c.limit.ensures.is at c.limit.ensures.most in
    (blocks_of c.args.self.now.store.cached, unit_limit c.args.self.now, most, rw c.in-Ok.is at c.requires)
