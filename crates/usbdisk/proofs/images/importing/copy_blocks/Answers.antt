use Rattle.usbdisk.proofs.images.importing.copy_blocks.Goals as goal

pub returns : goal.returns
returns g c = record {
  ok = c.copy_sectors.ensures.ok;
  err = c.copy_sectors.ensures.err;
  size = c.copy_sectors.ensures.size;
  runs = c.copy_sectors.ensures.runs;
}
