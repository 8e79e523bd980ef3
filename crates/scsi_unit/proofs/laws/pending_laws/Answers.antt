use Rattle.scsi_unit.proofs.PendingLaws.{dropped, marks_stay, parsed_once, parsed_now, parsed_still, found, ticked}
use Rattle.scsi_unit.proofs.laws.pending_laws.Goals as goal

pub returns : goal.returns
returns g c =
    let state = g.M.Medium.state in record {
      dropped = λ unit. dropped (state unit.store.medium) unit;
      marks = marks_stay;
      parsed = parsed_once;
      command = record { parsed = λ unit. parsed_now (state unit.store.medium) unit; ticked = parsed_still };
      ticks = λ work old new command taken wanted book works. ticked work (state old.store.medium) (state new.store.medium) old new
          works.ticks command taken wanted book;
      found = λ unit. found (state unit.store.medium) unit;
    }
