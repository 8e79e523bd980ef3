use Rattle.std.proofs.{Common.{◌∙◌, ap, take}, lemmas.List.take-replicate}
use Rattle.usbdisk.proofs.runner.events.packet_of.Goals as goal

pub returns : goal.returns
returns c =
    c.truncate.ensures.items
    ∙ ap (λ items. take c.args.count items) c.from-packet.ensures.0
    ∙ take-replicate c.args.count 512 c.args.byte c.requires
