use Rattle.std.proofs.Common.{inl, inr, refl}
use Rattle.scsi_unit.proofs.PendingLaws.{dropped, held_or_not}
use Rattle.scsi_unit.specs.Pending.{book_held}
use Rattle.scsi_unit.proofs.unit.Unit.refuse.Goals as goal

pub returns-clause-ends : goal.returns-clause-ends
returns-clause-ends g c command taken wanted book writes f =
    let old = c.args.self.now in
    let left = book_held wanted command taken book in (
      left,
      inr (inr (record {
        cause = inl refl;
        writes = writes;
        answered = refl;
        book = left;
        accepted = held_or_not wanted command taken book;
        after = c.fault.ensures.by_rules left;
      })),
      c.fault.ensures.fits left (dropped (g.M.Medium.state old.store.medium) old command taken wanted book f),
    )
