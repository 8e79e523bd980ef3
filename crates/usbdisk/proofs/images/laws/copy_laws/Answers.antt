use Rattle.usbdisk.proofs.{ExportLaw.export_holds, NewImages.makes_image}
use Rattle.usbdisk.proofs.images.laws.copy_laws.Goals as goal

pub returns-clause-exports : goal.returns-clause-exports
returns-clause-exports c = λ first device sizes w image blocks count read. export_holds first device sizes w image blocks count read

pub returns-clause-imports : goal.returns-clause-imports
returns-clause-imports c = λ shape super head size blocks is_super is_head fits count sized.
    makes_image shape super head size is_super is_head fits blocks count sized
