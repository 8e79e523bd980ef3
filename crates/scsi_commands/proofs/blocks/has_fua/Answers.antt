use Rattle.std.proofs.{Common.arith, lemmas.Bool.Decides.nat_tests, lemmas.Nat.Bits.and_pow}
use Rattle.scsi.specs.Commands.{byte_at}
use Rattle.scsi_commands.proofs.blocks.has_fua.Goals as goal

pub returns : goal.returns
returns c = let bit = and_pow (byte_at 1 c.args.block.now) 3 in grind (arith, nat_tests)
