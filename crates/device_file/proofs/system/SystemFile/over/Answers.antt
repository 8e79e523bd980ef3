use Rattle.std.proofs.Common.{sym, subst}
use Rattle.device_file.specs.Carried.{IsCarried}
use Rattle.device_file.proofs.Carried.{carried_none}
use Rattle.device_file.proofs.system.SystemFile.over.Goals as goal

pub invariant_of-result : goal.invariant_of-result
invariant_of-result g c =
    let f = g.S.ToldFile.told c.args.file in
    subst (λ t. IsCarried t f) (sym c.of.ensures) (carried_none c.as_bytes.result.now c.args.access f c.requires)
