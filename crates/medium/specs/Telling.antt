-- What the story of a file tells.
use Rattle.std.specs.Prelude.{◌≡◌, []}
use Rattle.medium.specs.FileStory.{Told, noted}
use Rattle.medium.specs.declared.file_story.Telling.{Telling}
use Rattle.medium.specs.declared.file_story.Telling.TheVariants.{Nothing, Noted}

abbrev pub IsToldBy : Telling → Told → Type 0
IsToldBy Nothing told = told.asked ≡ []
IsToldBy (Noted story answered bytes) told = told ≡ noted answered.now bytes.now story.now.told
