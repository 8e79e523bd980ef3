use Rattle.std.proofs.Common.{◌≡◌, ◌<◌, arith, false}
use Rattle.medium.proofs.Moments.{unchanged}
use Rattle.blocks.{specs.{StoreValue.{is_dead, steps_left, unwritten}, Written.IsWritten}, proofs.TurnsJoined.{kept_on, rested_on}}
use Rattle.blocks.proofs.{FlushesOnce.to_write, store.Store.write_back.Goals.Else-is_written}
use Rattle.blocks.proofs.store.Store.write_back.Goals as goal

pub returns-then-is_written : goal.returns-then-is_written
returns-then-is_written g c =
    let written = c.is_written.ensures.0 c.if-is_written.true in
    let old = c.args.self.now in
    let passes = rested_on {Follows = g.M.Medium.follows} {most = 2} {sends = 2} old g.met.M.Medium.follows_itself g.met.M.Medium.sound in
    grind (arith, unchanged (g.M.Medium.state c.args.self.now.medium), written, passes)

-- a record is left to write, of a live store
left : (g : _) (c : Else-is_written g) → (¬ IsWritten c.args.self.now.cached) × ((is_dead c.args.self.now.cached ≡ false)
    × (0 < steps_left c.args.self.now.cached) × (0 < unwritten c.args.self.now.cached))
left g c =
    let some : ¬ IsWritten c.args.self.now.cached = λ written. absurd (cc (c.if-is_written.false, c.is_written.ensures.1 written)) in
    (some, to_write c.args.self.now.cached some)

pub returns-then-may_write : goal.returns-then-may_write
returns-then-may_write g c =
    let some = left g (goal.at.returns-then-may_write g c).Else-is_written in
    let passes = kept_on {Follows = g.M.Medium.follows} {most = 2} {sends = 2} g.met.M.Medium.follows_itself c.begin_next.ensures.keeps in
    grind (arith, some, c.may_write.ensures.begins.0 c.if-may_write.true, c.begin_next.ensures, passes)

pub returns : goal.returns
returns g c =
    let some = left g (goal.at.returns g c).Else-is_written in
    let none = c.is_writing.ensures.rests some.1.0 c.if-is_writing.false in
    grind (arith, some, none, c.may_write.ensures.begins, c.if-may_write.false, c.make_way.ensures)
