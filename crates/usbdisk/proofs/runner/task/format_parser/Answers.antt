use Rattle.std.proofs.Common.{codes}
use Rattle.clap.specs.Words.{new_app}
use Rattle.usbdisk.specs.runner.Parser.{IsParserOf}
use Rattle.usbdisk.proofs.runner.task.format_parser.Goals as goal

pub returns : goal.returns
returns c =
    let bare : IsParserOf (new_app (codes "format")) c.new.result = record { shape = c.new.ensures.app; local = c.new.ensures.local } in
    c.with_arg.ensures _ _
    (c.with_arg-slots.ensures _ _
    (c.with_arg-blocks.ensures _ _ (c.with_arg-image.ensures _ _ bare c.word.ensures) c.option.ensures) c.option-2.ensures)
    c.free_option.ensures
