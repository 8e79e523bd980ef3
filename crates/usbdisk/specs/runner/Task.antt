-- The words of a command line.
use Rattle.std.specs.Prelude.{◌≡◌, ◌⊎◌, ℕ, List, [], ◌∷◌, codes}
use Rattle.clap.specs.declared.error.kind.ErrorKind.{ErrorKind}
use Rattle.clap.specs.declared.error.kind.ErrorKind.TheVariants.{OutOfMemory}
use Rattle.journal.specs.declared.log_format.LogFormat.{LogFormat}
use Rattle.journal.specs.declared.log_format.LogFormat.TheVariants.{One}
use Rattle.spec.specs.declared.packet_size.PacketSize.{PacketSize}
use Rattle.spec.specs.declared.packet_size.PacketSize.TheVariants.{Full64, High512}
use Rattle.usbdisk.specs.console.Numbers.{SpellsNumber}
use Rattle.usbdisk.specs.console.Words.{IsFileWord, format_word}
use Rattle.usbdisk.specs.declared.console.refusal.Refusal.{Refusal}
use Rattle.usbdisk.specs.declared.console.refusal.Refusal.TheVariants.{Words, NoMemory}
use Rattle.usbdisk.specs.declared.runner.task.Task.{Task}
use Rattle.usbdisk.specs.declared.runner.task.Task.TheVariants.{Format, Migrate, Run, Sim}

-- a number of the command line is at most 2^32 - 1
abbrev pub IsSizeWord : List ℕ → ℕ → Type 0
IsSizeWord word size = SpellsNumber 0 4294967295 word size

-- what may stand behind the sizes: a format's number behind its name, or nothing for format 1
abbrev pub IsFormatEnding : List (List ℕ) → LogFormat → Type 0
IsFormatEnding ending format =
    (ending ≡ codes "--format" ∷ format_word format ∷ []) ⊎ ((ending ≡ []) × (format ≡ One))

-- `format`, a word for the image, its sizes behind their names, and the ending
pub record AreFormatWords (words : List (List ℕ)) (image : List ℕ) (format : LogFormat)
    (blocks slots : ℕ) : Type 0 where
  pub blocks_word : List ℕ
  pub slots_word : List ℕ
  pub ending : List (List ℕ)
  pub words_are : words
      ≡ codes "format" ∷ image ∷ codes "--blocks" ∷ blocks_word ∷ codes "--slots" ∷ slots_word
      ∷ ending
  pub image_word : IsFileWord image
  pub blocks_are : IsSizeWord blocks_word blocks
  pub slots_are : IsSizeWord slots_word slots
  pub format_is : IsFormatEnding ending format

-- `migrate` and a word for the image
pub record AreMigrateWords (words : List (List ℕ)) (image : List ℕ) : Type 0 where
  pub words_are : words ≡ codes "migrate" ∷ image ∷ []
  pub image_word : IsFileWord image

-- the bytes of a packet
abbrev pub packet_word : PacketSize → List ℕ
packet_word Full64 = codes "64"
packet_word High512 = codes "512"

-- what may stand behind the files: the bytes of a packet behind their name, or nothing for 512
abbrev pub IsPacketEnding : List (List ℕ) → PacketSize → Type 0
IsPacketEnding ending size =
    (ending ≡ codes "--packet" ∷ packet_word size ∷ []) ⊎ ((ending ≡ []) × (size ≡ High512))

-- `run` or `sim`, a word for the image and one for the script, and the ending
pub record AreScriptWords (verb : List ℕ) (words : List (List ℕ)) (image script : List ℕ)
    (size : PacketSize) : Type 0 where
  pub ending : List (List ℕ)
  pub words_are : words ≡ verb ∷ image ∷ script ∷ ending
  pub image_word : IsFileWord image
  pub script_word : IsFileWord script
  pub size_is : IsPacketEnding ending size

-- the words of a command line, exactly as shown
abbrev pub SpellsTask : List (List ℕ) → Task → Type 0
SpellsTask words (Format image sizes) =
    AreFormatWords words image.now sizes.format sizes.blocks sizes.slots
SpellsTask words (Migrate image) = AreMigrateWords words image.now
SpellsTask words (Run image script size) =
    AreScriptWords (codes "run") words image.now script.now size
SpellsTask words (Sim image script size) =
    AreScriptWords (codes "sim") words image.now script.now size

-- the words ask for something
abbrev pub IsCommandLine : List (List ℕ) → Type 0
IsCommandLine words = (task : Task) × SpellsTask words task

-- words that a parser refuses, but for want of memory, are none of a command
abbrev pub refusal_of_kind : ErrorKind → Refusal
refusal_of_kind OutOfMemory = NoMemory
refusal_of_kind _ = Words
