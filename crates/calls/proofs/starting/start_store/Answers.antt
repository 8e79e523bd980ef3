use Rattle.calls.proofs.starting.start_store.Goals as goal

pub returns : goal.returns
returns c =
    let none = c.holds_any.ensures.none c.if-holds_any.false in
    rw none (rw (c.holds_any.ensures.stays, none, c.kept_by.ensures) at c.recover.ensures)
