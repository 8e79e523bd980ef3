use Rattle.usbdisk.proofs.live.player.FileDisk.into_file.Goals as goal

pub returns : goal.returns
returns g c = rw (c.into_file.ensures, c.into_medium.ensures, c.self.view_is)
