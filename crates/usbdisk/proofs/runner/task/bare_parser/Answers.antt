use Rattle.std.proofs.Common.{◌∙◌, ap, true}
use Rattle.clap.specs.{Words.App, Simple.app_of_fields, declared.builder.command.Command.{Command, Command-F}}
use Rattle.usbdisk.proofs.runner.task.bare_parser.Goals as goal

pub returns : goal.returns
returns c =
    ap app_of_fields
    (c.subcommand_required.ensures
    ∙ ap (λ (f : Command-F Command). record f { subcommand_required = true }) c.no_binary_name.ensures)
    ∙ ap (λ (a : App). record a { top = record a.top { no_binary_name = true; subcommand_required = true } }) c.new.ensures.app
