-- What a handle ends as, whose value is lent.
use Rattle.std.specs.Prelude.{Option, Some}
use Rattle.std.specs.Borrow.{LendsIf, MutBor, Fml}
use Rattle.calls.specs.HeldRow.{held_row}
use Rattle.calls.specs.declared.handle.UsbDisk.{UsbDisk}
use Rattle.calls.specs.contracts.handle.UsbDisk.{the_row}

-- It holds the value as that was left. One that holds nothing stays.
abbrev pub LendsHeld : MutBor UsbDisk → Option (MutBor held_row.Denot) → Fml
LendsHeld s r = LendsIf the_row held_row s r (λ w. record s.now { held = Some w }) s.now
