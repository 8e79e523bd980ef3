use Rattle.std.proofs.Common.{◌≡◌, ◌++◌, ◌+◌, List, take, length}
use Rattle.spec.specs.declared.event.Answer.{Answer}
use Rattle.scsi_unit.specs.Calls.{ComesBy}
use Rattle.bot_machine.specs.Disk.{IsRun}
use Rattle.bot_machine.proofs.run.run_events.Given as goal

abbrev pub invariant-loop-event : goal.invariant-loop-event
invariant-loop-event g l =
    let medium = g.M.Medium in
    let old = l.fn.disk in
    record {
      run : (told : List Answer) × (l.answers ≡ record l.fn.answers {
        list = l.fn.answers.list ++
            told;
      })
          × IsRun medium.state old
          (take l.event-index l.events) told l.disk;
      follows : ComesBy medium.state medium.follows old.unit.store l.disk.unit.store;
      count : length l.answers.list ≡ length l.fn.answers.list + l.event-index;
      room : l.answers.room ≡ l.fn.answers.room;
    }
