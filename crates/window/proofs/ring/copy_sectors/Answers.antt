use Rattle.std.proofs.Common.{◌≡◌, ◌+◌, ◌-◌, ◌*◌, arith}
use Rattle.window.proofs.Copied.{copied}
use Rattle.window.proofs.ring.copy_sectors.Goals as goal

pub returns : goal.returns
returns c =
    let start = c.args.first * 512 in
    let place = c.args.at * 512 in
    let size = c.args.count * 512 in
    let read : start + size - start ≡ size = omega arith in
    let written : place + size - place ≡ size = omega arith in
    rw (c.copy_from_slice.ensures.after, read, written) (copied c.args.from.now c.args.to.now c.args.first c.args.count c.args.at start
    place size (omega arith) (omega arith) (omega arith) c.requires.there c.requires.room)
