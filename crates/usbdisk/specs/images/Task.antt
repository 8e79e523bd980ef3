-- The words of a command line.
use Rattle.std.specs.Prelude.{◌≡◌, ◌⊎◌, ◌*◌, ◌++◌, ℕ, List, [], ◌∷◌, codes, Option, Some, None}
use Rattle.journal.specs.declared.log_format.LogFormat.{LogFormat}
use Rattle.device_file.specs.declared.existing.Existing.{Existing}
use Rattle.device_file.specs.declared.existing.Existing.TheVariants.{Keep, Replace}
use Rattle.usbdisk.specs.console.Numbers.{SpellsNumber}
use Rattle.usbdisk.specs.console.Words.{IsFileWord, format_word}
use Rattle.usbdisk.specs.declared.images.task.ImageTask.{ImageTask}
use Rattle.usbdisk.specs.declared.images.task.NewSizes.{NewSizes}
use Rattle.usbdisk.specs.declared.images.task.Task.{Task}
use Rattle.usbdisk.specs.declared.images.task.ImageTask.TheVariants as one
use Rattle.usbdisk.specs.declared.images.task.Task.TheVariants as task

-- what a command line asks for
pub data Wanted : Type 0 where
  Help : Wanted
  Version : Wanted
  Show : List ℕ → Wanted
  Migrate : List ℕ → Wanted
  Make : List ℕ → NewSizes → Existing → Wanted
  Import : List ℕ → List ℕ → LogFormat → ℕ → Existing → Wanted
  Export : List ℕ → List ℕ → Existing → Wanted

-- what stands at the end where a file is replaced
abbrev pub replace_words : Existing → List (List ℕ)
replace_words Keep = []
replace_words Replace = codes "--replace" ∷ []

-- what stands behind the digits of a number of bytes: nothing, or K or M for a power of 1024
abbrev pub IsUnit : List ℕ → ℕ → Type 0
IsUnit letters bytes = ((letters ≡ []) × (bytes ≡ 1)) ⊎ (((letters ≡ codes "K") × (bytes ≡ 1024))
    ⊎ ((letters ≡ codes "M") × (bytes ≡ 1048576)))

-- a number of bytes, perhaps in such units
pub record SpellsBytes (word : List ℕ) (bytes : ℕ) : Type 0 where
  pub digits : List ℕ
  pub letters : List ℕ
  pub number : ℕ
  pub unit : ℕ
  pub word_is : word ≡ digits ++ letters
  pub number_is : SpellsNumber 0 4294967295 digits number
  pub unit_is : IsUnit letters unit
  pub bytes_are : bytes ≡ number * unit

-- what stands behind the format where the blocks begin at a multiple of so many bytes
abbrev pub AreAlignWords : List (List ℕ) → Option ℕ → Type 0
AreAlignWords words None = words ≡ []
AreAlignWords words (Some bytes) =
    (word : List ℕ) × (words ≡ codes "--align" ∷ word ∷ []) × SpellsBytes word bytes

-- the slots behind their name, and the format, and behind them where the blocks begin
pub record AreNewOptions (words : List (List ℕ)) (format : LogFormat) (slots : ℕ)
    (align : Option ℕ) (existing : Existing) : Type 0 where
  pub slots_word : List ℕ
  pub align_words : List (List ℕ)
  pub words_are : words ≡ codes "--slots" ∷ slots_word ∷ codes "--format" ∷ format_word format
      ∷ align_words ++ replace_words existing
  pub slots_are : SpellsNumber 0 4294967295 slots_word slots
  pub align_is : AreAlignWords align_words align

abbrev pub HasNewOptions : List (List ℕ) → Type 0
HasNewOptions words = (format : LogFormat) × (slots : ℕ) × (align : Option ℕ)
    × (existing : Existing) × AreNewOptions words format slots align existing

-- `make`, a word for the image, its blocks behind their name, and the rest of its sizes
pub record AreMakeWords (words : List (List ℕ)) (image : List ℕ) (sizes : NewSizes)
    (existing : Existing) : Type 0 where
  pub blocks_word : List ℕ
  pub options : List (List ℕ)
  pub words_are : words ≡ codes "make" ∷ image ∷ codes "--blocks" ∷ blocks_word ∷ options
  pub image_word : IsFileWord image
  pub blocks_are : SpellsNumber 0 4294967295 blocks_word sizes.blocks
  pub options_are : AreNewOptions options sizes.format sizes.slots sizes.align existing

abbrev pub IsMakeLine : List (List ℕ) → Type 0
IsMakeLine words = (image : List ℕ) × (sizes : NewSizes) × (existing : Existing)
    × AreMakeWords words image sizes existing

-- `import`, words for the plain file and for the image, the slots behind their name, and the format
pub record AreImportWords (words : List (List ℕ)) (raw image : List ℕ) (format : LogFormat)
    (slots : ℕ) (existing : Existing) : Type 0 where
  pub slots_word : List ℕ
  pub words_are : words
      ≡ codes "import" ∷ raw ∷ image ∷ codes "--slots" ∷ slots_word
      ∷ codes "--format" ∷ format_word format ∷ replace_words existing
  pub raw_word : IsFileWord raw
  pub image_word : IsFileWord image
  pub slots_are : SpellsNumber 0 4294967295 slots_word slots

abbrev pub IsImportLine : List (List ℕ) → Type 0
IsImportLine words = (raw : List ℕ) × (image : List ℕ) × (format : LogFormat) × (slots : ℕ)
    × (existing : Existing) × AreImportWords words raw image format slots existing

-- `export`, and words for the image and for the plain file
pub record AreExportWords (words : List (List ℕ)) (image raw : List ℕ) (existing : Existing)
    : Type 0 where
  pub words_are : words ≡ codes "export" ∷ image ∷ raw ∷ replace_words existing
  pub image_word : IsFileWord image
  pub raw_word : IsFileWord raw

abbrev pub IsExportLine : List (List ℕ) → Type 0
IsExportLine words = (image : List ℕ) × (raw : List ℕ) × (existing : Existing)
    × AreExportWords words image raw existing

-- a command's name, and a word for the image
pub record AreImageWords (name : List ℕ) (words : List (List ℕ)) (image : List ℕ) : Type 0 where
  pub words_are : words ≡ name ∷ image ∷ []
  pub image_word : IsFileWord image

-- the words ask for this
abbrev pub Asks : List (List ℕ) → Wanted → Type 0
Asks words Help = words ≡ codes "--help" ∷ []
Asks words Version = words ≡ codes "--version" ∷ []
Asks words (Show image) = AreImageWords (codes "show") words image
Asks words (Migrate image) = AreImageWords (codes "migrate") words image
Asks words (Make image sizes existing) = AreMakeWords words image sizes existing
Asks words (Import raw image format slots existing) =
    AreImportWords words raw image format slots existing
Asks words (Export image raw existing) = AreExportWords words image raw existing

-- the slots behind their name, and the format: what stands at the end where an image is made
pub record AreOptions (words : List (List ℕ)) (format : LogFormat) (slots : ℕ) (existing : Existing)
    : Type 0 where
  pub slots_word : List ℕ
  pub words_are : words
      ≡ codes "--slots" ∷ slots_word ∷ codes "--format" ∷ format_word format
      ∷ replace_words existing
  pub slots_are : SpellsNumber 0 4294967295 slots_word slots

abbrev pub HasOptions : List (List ℕ) → Type 0
HasOptions words = (format : LogFormat) × (slots : ℕ) × (existing : Existing)
    × AreOptions words format slots existing

-- what a task is that names one file at most
abbrev pub image_wanted : ImageTask → Wanted
image_wanted one.Help = Help
image_wanted one.Version = Version
image_wanted (one.Show image) = Show image.now
image_wanted (one.Migrate image) = Migrate image.now
image_wanted (one.Make image sizes existing) = Make image.now sizes existing

-- what a task is
abbrev pub wanted_of : Task → Wanted
wanted_of (task.Image it) = image_wanted it
wanted_of (task.Import raw image options) =
    Import raw.now image.now options.format options.slots options.existing
wanted_of (task.Export image raw existing) = Export image.now raw.now existing
