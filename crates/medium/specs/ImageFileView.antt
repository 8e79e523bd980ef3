-- How a medium over an image file is kept.
use Rattle.medium.specs.ImageFile.{Copied}
use Rattle.medium.specs.SimView.{tally_of}
use Rattle.medium.specs.declared.file.FileMedium.TheInside.{Inside}

abbrev pub view_of : {F : Type 0} → Inside F → Copied
view_of m = record {
  bytes = m.bytes.items;
  calls = m.calls.number;
  made = tally_of m.made;
  refused = tally_of m.refused;
  file = m.file;
}
