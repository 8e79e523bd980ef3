use Rattle.std.proofs.{Common.{◌≡◌, ◌≤◌, ◌*◌, ◌/◌, ℕ, List, length, take, rules, arith}, lemmas.List.length-take}
use Rattle.scsi_unit.proofs.store_calls.write_blocks.Goals as goal

-- the bytes that are written are as many blocks as the transfer has
whole : (count : ℕ) (taken : List ℕ) → 512 * count ≤ length taken → length (take (512 * count) taken) / 512 ≡ count
whole count taken enough = omega (arith, enough, length-take (512 * count) taken)

pub returns-in-Ok : goal.returns-in-Ok
returns-in-Ok g c =
    let is = whole c.args.transfer.count c.args.taken.now c.requires.taken in
    let cost = rw is at c.in-Ok.ensures.cost in
    search rules
