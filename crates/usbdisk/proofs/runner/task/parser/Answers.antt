use Rattle.std.proofs.{Common.{◌∙◌, ap, codes}, lemmas.Result.IfOk-weaker}
use Rattle.clap.specs.Words.{App, with_subcommand}
use Rattle.usbdisk.specs.runner.Parser.{format_app, migrate_app, script_app}
use Rattle.usbdisk.proofs.runner.task.parser.Goals as goal

pub returns : goal.returns
returns c =
    let more : App → App → App = λ app part. with_subcommand app part.top in
    let formats = c.in_ok-formats.ensures format_app c.format_parser.ensures
    ∙ ap (λ (a : App). more a format_app) c.bare_parser.ensures in
    let migrates = c.in_ok-migrates.ensures migrate_app c.migrate_parser.ensures
    ∙ ap (λ (a : App). more a migrate_app) formats in
    let runs = c.in_ok-runs.ensures (script_app (codes "run")) c.script_parser.ensures
    ∙ ap (λ (a : App). more a (script_app (codes "run"))) migrates in
    IfOk-weaker c.with_parser-4.result _ _ (λ r is. is ∙ ap (λ (a : App). more a (script_app (codes "sim"))) runs)
    (c.with_parser-4.ensures (script_app (codes "sim")) c.script_parser-2.ensures)
