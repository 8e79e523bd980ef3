use Rattle.std.proofs.Common.{[], ◌≡◌, ◌*◌, true, arith}
use Rattle.blocks.specs.StoreValue.{is_dead}
use Rattle.scsi_unit.{proofs.{PendingBegun.faulted_ends, WantedCommands.read_in}, specs.Pending.transfer_of}
use Rattle.scsi_unit.proofs.unit.Unit.go_on.Goals as goal

pub returns-then-is_dead : goal.returns-then-is_dead
returns-then-is_dead g c =
    let dead : is_dead c.args.self.now.store.cached ≡ true = grind (arith, c.is_dead.ensures, c.if-is_dead.true) in
    rw (c.end.ensures.kept [], c.end.ensures.told)
    (faulted_ends c.args.self.now g.met.M.Medium.follows_itself g.met.M.Medium.sound c.args.command c.args.want c.args.taken.now
    c.args.out.now dead c.requires.wants.wanted)

pub read_now-requires-clause-room : goal.read_now-requires-clause-room
read_now-requires-clause-room g c =
    c.requires.room (512 * (transfer_of c.args.command).count)
    (read_in c.args.command c.args.taken.now (rw c.in-Read.is at c.requires.wants.wanted))

pub returns-in-Room : goal.returns-in-Room
returns-in-Room g c = rw c.in-Room.is (c.accept.ensures.step c.args.out.now)

pub returns-in-Commit : goal.returns-in-Commit
returns-in-Commit g c =
    rw c.in-Commit.is (c.commit.ensures c.args.taken.now c.args.out.now (rw c.in-Commit.is at c.requires.wants))

pub returns-in-Read : goal.returns-in-Read
returns-in-Read g c = rw c.in-Read.is (c.read_now.ensures c.args.taken.now (rw c.in-Read.is at c.requires.wants))
