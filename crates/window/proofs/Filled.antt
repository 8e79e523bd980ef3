-- A medium that was shown sectors, over which what waits was laid.
use Rattle.std.proofs.Common.{◌≡◌, ◌<◌, inl, inr, ℕ, ◌+◌, ◌/◌, ◌++◌, true, false, List, length, refl, ◌∙◌, arith, rules}
use Rattle.std.proofs.lemmas.Bool.Decides.{nat_tests}
use Rattle.medium.specs.Writes.{sector_of}
use Rattle.window.specs.OutboxMedium.{device_of}
use Rattle.window.specs.MirrorLaws.{is_sound, size_whole}
use Rattle.window.specs.Panes.{AreLaid}
use Rattle.window.specs.Seen.{shown}
use Rattle.window.specs.Window.{AreOnDevice, HasPlace, IsShown, moved, laid_over, lies_in, mirror_of}
use Rattle.window.specs.WindowView.{view_of, Invariant}
use Rattle.window.specs.declared.pane.Pane.{Pane}
use Rattle.window.specs.declared.story.Story.{Story}
use Rattle.window.specs.declared.window.WindowMedium.TheInside.{Inside}
use Rattle.window.proofs.Shown.{front, laid_so_far, laid_again, Thinks, thinks, AreWhole}

module _ (m : Inside) (kept : Invariant m) (first : ℕ) (bytes rest : List ℕ) (filled pane : Pane) (story : Story)
    (place : HasPlace first bytes (view_of m)) (is : filled.sectors.bytes.items ≡ bytes ++ rest) (from : filled.from ≡ first)
    (held : filled.held ≡ length bytes / 512) (long : length filled.sectors.bytes.items ≡ length m.pane.sectors.bytes.items)
    (laid : AreLaid m.outbox.items filled pane)
    (seen : story.seen ≡ shown m.story.seen pane.from pane.held pane.sectors.bytes.items) where
  abbrev n : Inside
  n = record m { pane = pane; story = story }

  over : (i : ℕ) → i < length bytes / 512 → sector_of pane.sectors.bytes.items i ≡ laid_over m.outbox.items (first + i) (sector_of bytes i)
  over i lt = let e = front bytes rest i (omega arith) in let l = laid.bytes i (omega arith) in rw (is, e, from) at l

  sized : AreWhole (length m.story.seen.told.opening / 512) (device_of m.story.seen.told).content
  sized s lt =
      let was = mirror_of (view_of m) in
      (is_sound was).sized s ((device_of was.story).content s)
      (omega (arith, lt, size_whole was.story kept.well_formed.mirror.whole_writes)) ((is_sound was).holds_content s)

  think : Thinks m.story.seen story.seen m.outbox.items first (length bytes / 512) pane.sectors.bytes.items
  think = rw (seen, laid.from, laid.held, from, held)
      (thinks m.story.seen m.outbox.items first (length bytes / 512) pane.sectors.bytes.items (sector_of bytes)
      kept.well_formed.mirror.all_sent kept.well_formed.mirror.whole_writes over kept.well_formed.mirror.whole sized
      (omega (arith, place.0, place.1, long, laid.room)))

  -- what is shown is what is read from then on
  there : (i : ℕ) → i < length bytes / 512 → (device_of story.seen.told).content (first + i) ≡ sector_of pane.sectors.bytes.items i
  there i lt = think.content (first + i) (omega (arith, lt, place.0, place.3)) ∙ grind (arith, nat_tests)

  -- and each other sector holds what it held
  beside : (s : ℕ) → s < length m.story.seen.told.opening / 512 → lies_in first (length bytes / 512) s ≡ false
      → (device_of story.seen.told).content s ≡ (device_of m.story.seen.told).content s
  beside s lt other = think.content s lt ∙ rw other refl

  below : (s : ℕ) → s < length m.near.bytes.items / 512 → (device_of story.seen.told).content s ≡ (device_of m.story.seen.told).content s
  below s lt = beside s (omega (arith, kept.well_formed.near)) (grind (arith, nat_tests, place.2))

  pub kept_filled : Invariant n
  kept_filled = search (rules, kept, kept.well_formed, kept.well_formed.mirror, think, there, below, place, laid)

  -- what the device holds, with what waits laid over, is what was thought
  laid_same : AreOnDevice first bytes (view_of m) → (i : ℕ) → i < length bytes / 512
      → sector_of pane.sectors.bytes.items i ≡ (device_of m.story.seen.told).content (first + i)
  laid_same (inl so_far) i lt = over i lt ∙ laid_so_far m.story.seen.told m.outbox.items kept.well_formed.mirror.all_sent (first + i)
      (sector_of bytes i) (so_far i lt)
  laid_same (inr all) i lt = over i lt ∙ laid_again m.story.seen.told m.outbox.items kept.well_formed.mirror.all_sent (first + i)
      (sector_of bytes i) (all i lt)

  pub is_shown : IsShown first bytes true (view_of m) (view_of n)
  is_shown =
      let sizes = size_whole m.story.seen.told kept.well_formed.mirror.whole_writes in
      let still = size_whole story.seen.told kept_filled.well_formed.mirror.whole_writes in
      let honest : AreOnDevice first bytes (view_of m) → view_of n ≡ moved (view_of m) first (length bytes / 512) = λ on.
      let same = think.same (laid_same on) in rw (same, laid.from, laid.held, laid.room, from, held, long) refl in
      search (rules, kept, think, there, beside, place, honest, over, sizes, still, laid)
