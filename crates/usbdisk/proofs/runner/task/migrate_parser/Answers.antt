use Rattle.std.proofs.Common.{codes}
use Rattle.clap.specs.Words.{new_app}
use Rattle.usbdisk.specs.runner.Parser.{IsParserOf}
use Rattle.usbdisk.proofs.runner.task.migrate_parser.Goals as goal

pub returns : goal.returns
returns c =
    let bare : IsParserOf (new_app (codes "migrate")) c.new.result = record { shape = c.new.ensures.app; local = c.new.ensures.local } in
    c.with_arg.ensures _ _ bare c.word.ensures
