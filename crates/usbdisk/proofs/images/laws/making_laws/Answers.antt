use Rattle.usbdisk.proofs.NewImages.{makes_new}
use Rattle.usbdisk.proofs.images.laws.making_laws.Goals as goal

pub returns : goal.returns
returns c = makes_new
