use Rattle.std.proofs.Common.{arith}
use Rattle.redo_log.specs.Value.{IsBatch}
use Rattle.theorems.specs.Retiring.{firsts_in}
use Rattle.blocks.proofs.{BookTurns.is_batch, TurnsJoined.{begins_record, begins_nothing}}
use Rattle.theorems.proofs.LogRuns.{begins_runs, dies_runs}
use Rattle.blocks.proofs.store.Store.begin.Goals as goal

pub begin-requires-clause-batch : goal.begin-requires-clause-batch
begin-requires-clause-batch g c =
    grind (arith, is_batch, c.self.view_is, c.numbers.ensures.value, c.bytes.ensures.value, c.self.invariant.frozen, c.requires.some)

pub returns-in-Ok : goal.returns-in-Ok
returns-in-Ok g c =
    let i = c.self.inside in
    let kept = c.self.invariant.frozen in
    let begun = c.in-Ok.ensures.ok in
    let live = rw (← c.self.view_is) at c.requires.live in
    let room = rw (← c.self.view_is) at c.requires.room in
    let batch : IsBatch i.log.shape i.frozen.numbers i.frozen.bytes = grind (arith, is_batch, c.self.view_is, kept, c.requires.some) in
    let runs = begins_runs {state = g.M.Medium.state} {Follows = g.M.Medium.follows} i.medium i.log live i.frozen.numbers i.frozen.bytes
    (firsts_in i.frozen) room batch begun.0 in
    grind (arith, is_batch, begins_record, g.met.M.Medium.sound, c.self.view_is, c.numbers.ensures, c.bytes.ensures, c.requires, runs)

pub returns-in-Err : goal.returns-in-Err
returns-in-Err g c =
    let runs = dies_runs {state = g.M.Medium.state} {Follows = g.M.Medium.follows} c.self.inside.medium c.self.inside.log in
    grind (arith, begins_nothing, g.met.M.Medium.sound, c.self.view_is, c.in-Err.ensures, c.requires, runs)
