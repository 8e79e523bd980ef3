use Rattle.std.{proofs.{Common.{◌≡◌, ◌∙◌, ap}, lemmas.Result.IfOk-weaker}, specs.Prelude.{Result, IfOk}}
use Rattle.clap.specs.{Words.{AddsSubcommand, App, app_of, with_subcommand}, declared.builder.command.Command.Command}
use Rattle.usbdisk.specs.runner.Parser.{IsParserOf}
use Rattle.usbdisk.proofs.runner.task.with_parser.Goals as goal

-- one more subcommand
with_more : {E : Type 0} (r : Result Command E) (old part : Command) (app : App) → IsParserOf app part → IfOk r (AddsSubcommand old part)
    → IfOk r (λ new. app_of new ≡ with_subcommand (app_of old) app.top)
with_more r old part app had added =
    IfOk-weaker r _ _
    (λ new adds. adds.shape had.local ∙ ap (λ (a : App). with_subcommand (app_of old) a.top) had.shape) added

pub returns-in-Ok : goal.returns-in-Ok
returns-in-Ok c app had =
    with_more c.subcommand.result c.args.command c.in-Ok.part app (rw c.in-Ok.is at had) c.subcommand.ensures
