use Rattle.std.proofs.Common.{sym, ap, ◌∙◌}
use Rattle.scsi.specs.Commands.{command_of}
use Rattle.scsi_commands.proofs.{RowLaws.{supported, refused}, Past.past, WrittenBlocks.written}
use Rattle.scsi_commands.proofs.decode.parse.Goals as goal

pub returns-clause-supported : goal.returns-clause-supported
returns-clause-supported c = rw c.by_operation_code.ensures (supported c.args.n c.args.limit c.args.block.now)

pub returns-clause-refusal : goal.returns-clause-refusal
returns-clause-refusal c = rw c.by_operation_code.ensures (refused c.args.n c.args.limit c.args.block.now)

pub returns-clause-past : goal.returns-clause-past
returns-clause-past c =
    λ more enough. past c.args.n c.args.limit c.args.block.now more enough
    ∙ sym c.by_operation_code.ensures

pub returns-clause-written : goal.returns-clause-written
returns-clause-written c =
    λ command supported fits same. c.by_operation_code.ensures
    ∙ ap (command_of c.args.n c.args.limit) same
    ∙ written c.args.n c.args.limit command supported fits
