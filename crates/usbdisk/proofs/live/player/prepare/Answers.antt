use Rattle.std.proofs.Common.{inl, refl}
use Rattle.usbdisk.proofs.live.player.prepare.Goals as goal

pub returns-in_default-missing_for : goal.returns-in_default-missing_for
returns-in_default-missing_for g c =
    rw c.in-Out.is (inl (rw c.as_slice.ensures.value at (c.missing_for.ensures.none c.in_default-missing_for.is), refl))
