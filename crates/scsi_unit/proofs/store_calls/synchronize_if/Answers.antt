use Rattle.std.proofs.Common.{refl, rules}
use Rattle.blocks.proofs.{OneBatchSent.none_sent, StoreRuns.comes_itself, TurnsJoined.stays, SectorsRead.none}
use Rattle.scsi_unit.proofs.store_calls.synchronize_if.Goals as goal

pub returns-then-not-wanted : goal.returns-then-not-wanted
returns-then-not-wanted g c =
    let store = c.args.store.now in
    let m = g.M.Medium.state store.medium in
    let turn = stays m store.cached (g.met.M.Medium.sound store.medium) in
    let one = none_sent store.goes_ahead m store.cached.log m refl in
    let looks = none m m store.cached refl in
    let comes = comes_itself {state = g.M.Medium.state} {Follows = g.M.Medium.follows} {s = store} g.met.M.Medium.follows_itself in
    rw c.if-not-wanted.true (search rules)
