use Rattle.std.proofs.{Common.{sym, ◌∙◌}, lemmas.List.append_cancel_left}
use Rattle.usbdisk.proofs.Options.{none_weaker}
use Rattle.usbdisk.proofs.runner.words.read_count.Goals as goal

pub returns-clause-refused : goal.returns-clause-refused
returns-clause-refused c =
    none_weaker c.read_number.result
    (λ refused count spelled.
    let same = append_cancel_left c.args.word.now c.in_ok-behind.field-0.now spelled.number (sym c.in_ok-behind.ensures ∙ spelled.parts) in
    refused count (rw same spelled.counted))
    c.read_number.ensures.refused
