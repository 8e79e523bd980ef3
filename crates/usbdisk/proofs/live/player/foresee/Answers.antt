use Rattle.usbdisk.proofs.live.player.foresee.Goals as goal

pub returns : goal.returns
returns g c = rw (c.window.ensures, c.medium.ensures.is) at c.waiting-waiting.ensures.device
