-- A plain device that carried out what an export asks holds the array of the image.
use Rattle.std.proofs.Common.{◌≡◌, ℕ, ◌+◌, ◌*◌, ◌/◌, ◌<◌, zero, suc, List, [], ◌∷◌, ◌++◌, length, drop, refl, sym, ◌∙◌, ap}
use Rattle.std.proofs.Common.{subst, arith, length-drop, if◌then◌else◌, Option}
use Rattle.std.specs.Prelude.{replicate, get_or, All}
use Rattle.std.proofs.lemmas.List.{length-take-le}
use Rattle.std.proofs.lemmas.List.Elements.{All-from_get_or}
use Rattle.medium.specs.Medium.{Image}
use Rattle.medium.specs.Writes.{sector_of}
use Rattle.window.specs.Device.{Device, durable, carried_out, after}
use Rattle.window.specs.Story.{given, are_whole}
use Rattle.window.specs.declared.call.DeviceCall.{DeviceCall}
use Rattle.window.specs.declared.call.DeviceCall.TheVariants.{Flush}
use Rattle.window.proofs.OutboxCalls.{after-append}
use Rattle.journal.specs.declared.super_sector.Super.{Super}
use Rattle.window.specs.Window.{Window, state_of}
use Rattle.device_file.specs.Copied.{some_writes, moved_calls}
use Rattle.device_file.specs.Reads.{AreReadFrom}
use Rattle.device_file.specs.declared.opening.FirstSectors.{FirstSectors}
use Rattle.usbdisk.specs.images.CopyLaws.{HoldsBlocks}
use Rattle.usbdisk.specs.images.Exporting.{IsRecoveredIn, exporting}
use Rattle.usbdisk.specs.images.NewImage.{emptied}
use Rattle.usbdisk.proofs.Written.{writes_there, moved_there}

abbrev zeros : List ℕ
zeros = replicate 512 0

-- each block is what was there
read_at : (content : Image) (first : ℕ) (blocks : List (List ℕ)) → AreReadFrom (λ s block. block ≡ content s) first blocks
    → (b : ℕ) → b < length blocks → get_or blocks b zeros ≡ content (first + b)
read_at content first [] read b below = absurd (omega (arith, below))
read_at content first (x ∷ xs) read zero below = read.0 ∙ ap content (omega arith)
read_at content first (x ∷ xs) read (suc n) below =
    read_at content (first + 1) xs read.1 n (omega (arith, below)) ∙ ap content (omega arith)

-- a whole sector of bytes
whole_sector : (bytes : List ℕ) (s : ℕ) → s < length bytes / 512 → length (sector_of bytes s) ≡ 512
whole_sector bytes s below = length-take-le 512 (drop (512 * s) bytes) (omega (arith, length-drop (512 * s) bytes, below))

module _ (first : FirstSectors) (device : List ℕ) (sizes : Super) (w : Window)
    (image : IsRecoveredIn first device sizes w) where
  abbrev whole : Device
  whole = durable image.window.seen.told.opening

  not_asked : image.window.seen.told.asked ≡ []
  not_asked = ap (λ (v : Window). v.seen.told.asked) image.over

  none_out : image.window.outbox ≡ []
  none_out = ap (λ (v : Window). v.outbox) image.over

  content_was : (s : ℕ) → (state_of image.window).content s ≡ whole.content s
  content_was s = ap (λ (calls : List (Option DeviceCall)). (after whole (given calls)).content s) not_asked

  sent : w.outbox ≡ given w.seen.told.asked
  sent = image.follows.outbox ∙ ap (λ (l : List DeviceCall). l ++ given image.follows.since) none_out
      ∙ ap given (sym (image.follows.asked ∙ ap (λ (l : List (Option DeviceCall)). l ++ image.follows.since) not_asked))

  content_is : (s : ℕ) → (after whole w.outbox).content s ≡ (state_of w).content s
  content_is s = ap (λ (calls : List DeviceCall). (after whole calls).content s) sent
      ∙ ap (λ (bytes : List ℕ). (after (durable bytes) (given w.seen.told.asked)).content s) (sym image.follows.opening_stays)

  size_is : (state_of image.window).size ≡ length image.window.seen.told.opening / 512
  size_is = ap (λ (calls : List (Option DeviceCall)). if are_whole (given calls) then length image.window.seen.told.opening / 512 else 0)
      not_asked

  same_home : sizes.home ≡ image.answer.sizes.home
  same_home = ap (λ (z : Super). z.home) image.sizes_are

  same_blocks : sizes.blocks ≡ image.answer.sizes.blocks
  same_blocks = ap (λ (z : Super). z.blocks) image.sizes_are

  inside : (b : ℕ) → b < sizes.blocks → sizes.home + b < length image.window.seen.told.opening / 512
  inside b below = omega (arith, below, size_is, same_home, same_blocks, image.recovered.stood.fits)

  served : (b : ℕ) → b < sizes.blocks → (after whole w.outbox).content (sizes.home + b) ≡ image.recovered.array b
  served b below = content_is (sizes.home + b) ∙ ap (λ (h : ℕ). (state_of w).content (h + b)) same_home
      ∙ image.recovered.home b (omega (arith, below, same_blocks))

  module _ (blocks : List (List ℕ)) (count : length blocks ≡ sizes.blocks)
      (read : AreReadFrom (λ s block. block ≡ (state_of image.window).content s) sizes.home blocks) where
    at_home : (b : ℕ) → b < length blocks → get_or blocks b zeros ≡ whole.content (sizes.home + b)
    at_home b below = read_at (state_of image.window).content sizes.home blocks read b below ∙ content_was (sizes.home + b)

    sized : All (λ block. length block ≡ 512) blocks
    sized = All-from_get_or (λ (block : List ℕ). length block ≡ 512) blocks zeros
        (λ b below. ap (λ (l : List ℕ). length l) (at_home b below)
        ∙ whole_sector image.window.seen.told.opening (sizes.home + b) (inside b (omega (arith, below, count))))

    abbrev copied : Device
    copied = after emptied (some_writes 0 blocks)

    agrees : (b : ℕ) → b < sizes.blocks → copied.content b ≡ whole.content (sizes.home + b)
    agrees b below = ap (λ (n : ℕ). copied.content n) (omega arith)
        ∙ writes_there emptied 0 blocks sized (λ s above. refl) b (omega (arith, below, count))
        ∙ at_home b (omega (arith, below, count))

    abbrev moved : List DeviceCall
    moved = moved_calls sizes.home sizes.blocks w.outbox

    in_order : after emptied (exporting sizes blocks w.outbox) ≡ carried_out (after copied moved) Flush
    in_order = after-append emptied (some_writes 0 blocks ++ moved) (Flush ∷ [])
        ∙ ap (λ (device : Device). carried_out device Flush) (after-append emptied (some_writes 0 blocks) moved)

    pub export_holds : HoldsBlocks sizes.blocks image.recovered.array (after emptied (exporting sizes blocks w.outbox))
    export_holds = subst (λ (device : Device). HoldsBlocks sizes.blocks image.recovered.array device) (sym in_order) (record {
      durable = λ s c left. left;
      holds = λ b below. moved_there sizes.home sizes.blocks w.outbox copied whole agrees b below ∙ served b below;
    })
