use Rattle.std.proofs.Common.{refl}
use Rattle.usbdisk.proofs.Ready.{plays_prepared}
use Rattle.usbdisk.proofs.live.player.FileDiskPlayer.play.Goals as goal

pub returns-in-Some-clause-stopped : goal.returns-in-Some-clause-stopped
returns-in-Some-clause-stopped g c =
    let fault = rw (c.fault.ensures, c.medium.ensures.is) at c.in-Some.is in
    rw (← c.self.view_is) (_, plays_prepared _ _ _ _ _ _ _ _ _ _ c.prepare.ensures c.play_ready-answer.ensures fault)

pub returns-clause-played : goal.returns-clause-played
returns-clause-played g c =
    let fault = rw (c.fault.ensures, c.medium.ensures.is) at c.in_default.is in
    rw (← c.self.view_is) (_, plays_prepared _ _ _ _ _ _ _ _ _ _ c.prepare.ensures c.play_ready-answer.ensures fault, refl)
