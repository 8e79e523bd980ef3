use Rattle.std.proofs.Common.{refl, [], ◌∷◌}
use Rattle.usbdisk.proofs.Packets.{sized}
use Rattle.usbdisk.proofs.runner.words.read_byte.Goals as goal

pub returns-in-Err-clause-refused : goal.returns-in-Err-clause-refused
returns-in-Err-clause-refused c byte spelled =
    let decoded = sized c.args.digits.now (byte ∷ []) 1 spelled refl in
    let refused = rw decoded at c.in-Err.ensures.value in cc refused.0
