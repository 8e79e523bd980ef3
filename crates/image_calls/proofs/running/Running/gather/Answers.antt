use Rattle.std.proofs.Common.{◌≡◌, ◌≤◌, ◌/◌, length, arith}
use Rattle.image_calls.proofs.running.Running.gather.Goals as goal

pub returns-clause-hands : goal.returns-clause-hands
returns-clause-hands g c =
    let some : 1 ≤ length c.args.buffer.now / 512 = omega (arith, c.requires.room) in
    let all : length c.args.buffer.now / 512 ≡ c.loop-count.count =
    omega (arith, c.loop-count-test.false, c.loop-count.auto.count-end some) in
    rw all c.loop-count.invariant.hands
