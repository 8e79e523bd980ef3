use Rattle.std.proofs.Common.{◌≡◌, length, take, arith, length-take}
use Rattle.bot_machine.proofs.Packets.{front_filled}
use Rattle.bot_machine.proofs.bulk_out.fill.Goals as goal

pub returns-clause-bytes : goal.returns-clause-bytes
returns-clause-bytes c =
    let filled : length (take c.args.filled.now c.args.buffer.now) ≡ c.args.filled.now =
    omega (arith, length-take c.args.filled.now c.args.buffer.now) in
    rw c.copy_from_slice.ensures.after
    (front_filled (take c.args.filled.now c.args.buffer.now) c.args.packet.now _ c.args.filled.now c.args.size c.min-more.result filled
    c.requires.before c.min-more.ensures)
