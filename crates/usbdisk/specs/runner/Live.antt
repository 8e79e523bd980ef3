-- The words of the program that serves an image file line by line.
use Rattle.std.specs.Prelude.{◌≡◌, ℕ, List, ◌∷◌}
use Rattle.spec.specs.declared.packet_size.PacketSize.{PacketSize}
use Rattle.usbdisk.specs.console.Words.{IsFileWord}
use Rattle.usbdisk.specs.runner.Task.{IsPacketEnding}

-- a word for the image, and the bytes of a packet behind their name, or nothing for 512
pub record AreLiveWords (words : List (List ℕ)) (image : List ℕ) (size : PacketSize)
    : Type 0 where
  pub ending : List (List ℕ)
  pub words_are : words ≡ image ∷ ending
  pub image_word : IsFileWord image
  pub size_is : IsPacketEnding ending size

abbrev pub IsLiveLine : List (List ℕ) → Type 0
IsLiveLine words = (image : List ℕ) × (size : PacketSize) × AreLiveWords words image size
