use Rattle.std.proofs.{Common.{◌∙◌, sym, codes}, lemmas.List.append_cancel_left}
use Rattle.usbdisk.proofs.Packets.{sized}
use Rattle.usbdisk.proofs.runner.words.read_setup.Goals as goal

pub returns-in-Err-clause-refused : goal.returns-in-Err-clause-refused
returns-in-Err-clause-refused c packet spelled =
    let same = append_cancel_left (codes "setup ") c.in_ok-digits.digits.now spelled.digits (sym c.in_ok-digits.ensures ∙ spelled.parts) in
    let decoded = sized spelled.digits packet 8 spelled.decoded spelled.whole in
    let refused = rw (same, decoded) at c.in-Err.ensures.value in cc refused.0
