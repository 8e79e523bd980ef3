-- How an open file is kept.
use Rattle.medium.specs.FileStory.{Told}
use Rattle.medium.specs.declared.opened_file.OpenedFile.TheInside.{Inside}

abbrev pub view_of : {F : Type 0} → Inside F → Told
view_of m = m.story.told
