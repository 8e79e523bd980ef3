-- How a file of sectors is kept.
use Rattle.device_file.specs.FileValue.{ValueOver}
use Rattle.device_file.specs.declared.system.SystemFile.TheInside.{Inside}

abbrev pub view_of : {S : Type 0} → Inside S → ValueOver S
view_of m = record { size = m.sectors; told = m.story.told; file = m.file }
