-- The parser takes the words of the command line.
use Rattle.std.proofs.Common.{inl, inr, ap, ◌≡◌, ◌<◌, ℕ, List, [], ◌∷◌, true, false, Some, ◌^◌, ◌∙◌, codes, slice_index, sym, refl, arith}
use Rattle.std.specs.Prelude.{◌⊎◌, ◌&&◌, Bool, fold, is_some, Result, Ok, Err, IsErrAnd, IfErr}
use Rattle.std.specs.Cmp.Derive.{both_true}
use Rattle.std.specs.List.{list_all}
use Rattle.std.proofs.lemmas.Bool.{cases_eq}
use Rattle.std.proofs.lemmas.Bool.Decides.{nat_tests}
use Rattle.clap.specs.Words.{takes}
use Rattle.clap.specs.Takes.{level_passes, turn_passes, walk_passes, settle_passes, default_passes, is_valid, entered_passes}
use Rattle.clap.specs.Simple.{App, Shape, built, built_leaf, names_of, entered}
use Rattle.clap.specs.Walk.{Held, Walk, walk, walked, nothing_held, finished}
use Rattle.clap.proofs.WalkLemmas.{walk_stopped}
use Rattle.clap.proofs.OnLiterals.{clap_on_literals}
use Rattle.clap.specs.declared.error.kind.ErrorKind.{ErrorKind}
use Rattle.clap.specs.declared.error.kind.ErrorKind.TheVariants as kinds
use Rattle.usbdisk.specs.console.Words.{IsFileWord}
use Rattle.usbdisk.proofs.Numerals.{decimal-no_hyphen}
use Rattle.usbdisk.specs.declared.console.refusal.Refusal.{Refusal}
use Rattle.usbdisk.specs.declared.console.refusal.Refusal.TheVariants as refused
use Rattle.journal.specs.declared.log_format.LogFormat.{LogFormat}
use Rattle.journal.specs.declared.log_format.LogFormat.TheVariants.{One, Two}
use Rattle.spec.specs.declared.packet_size.PacketSize.{PacketSize}
use Rattle.spec.specs.declared.packet_size.PacketSize.TheVariants.{Full64, High512}
use Rattle.usbdisk.specs.declared.runner.task.Task.{Task}
use Rattle.usbdisk.specs.declared.runner.task.Task.TheVariants.{Format, Migrate, Run, Sim}
use Rattle.usbdisk.specs.runner.Task.{IsSizeWord, IsFormatEnding, IsPacketEnding, IsCommandLine, SpellsTask, packet_word}
use Rattle.usbdisk.specs.console.Words.{format_word}
use Rattle.usbdisk.specs.runner.Task.{refusal_of_kind}
use Rattle.usbdisk.specs.runner.Parser.{usbdisk_app, format_app, script_app, migrate_app}
use Rattle.usbdisk.proofs.WordWalks.{IsPlain, Leads, start, stopped_at, passes_stopped, behind_word, behind_option, leads-none, level}

-- a word for a file begins with no hyphen
plain : (word : List ℕ) → IsFileWord word → IsPlain word
plain [] is_file = record { stripped = refl; other = refl }
plain (byte ∷ rest) is_file =
    elim (cases_eq byte 45) [
      | inl same ↦ absurd (is_file rest (ap (λ b. b ∷ rest) same))
      | inr other ↦ record { stripped = grind (arith, nat_tests, other); other = grind (arith, nat_tests, other) }
    ]

-- nor do the digits of a number
plain_digits : {word : List ℕ} {size : ℕ} → IsSizeWord word size → IsPlain word
plain_digits {word} {size} spelled =
    let fits : size < 2 ^ 64 = omega (arith, spelled.not_more) in
    plain word (λ rest same. decimal-no_hyphen size fits (ap (λ w. slice_index w 0) (sym spelled.digits ∙ same)))

-- the bytes of a packet, and the number of a format
plain_bytes : (size : PacketSize) → IsPlain (packet_word size)
plain_bytes Full64 = record { stripped = refl; other = refl }
plain_bytes High512 = record { stripped = refl; other = refl }

plain_number : (format : LogFormat) → IsPlain (format_word format)
plain_number One = record { stripped = refl; other = refl }
plain_number Two = record { stripped = refl; other = refl }

-- ---- the parser of `format`

abbrev sizes : Shape
sizes = built_leaf format_app.top

abbrev behind_blocks : List ℕ → List ℕ → Walk
behind_blocks image blocks = behind_option sizes (codes "blocks") (codes "--blocks") blocks (behind_word sizes image start)

abbrev behind_slots : List ℕ → List ℕ → List ℕ → Walk
behind_slots image blocks slots = behind_option sizes (codes "slots") (codes "--slots") slots (behind_blocks image blocks)

abbrev behind_format : List ℕ → List ℕ → List ℕ → List ℕ → Walk
behind_format image blocks slots number =
    behind_option sizes (codes "format") (codes "--format") number (behind_slots image blocks slots)

leads-blocks : {image blocks : List ℕ} {v : Walk} {words : List (List ℕ)} → IsPlain image → IsPlain blocks
    → Leads sizes (behind_blocks image blocks) v words → Leads sizes start v (image ∷ codes "--blocks" ∷ blocks ∷ words)
unfolding clap_on_literals
leads-blocks p q rest =
    let a = p.stripped in let b = p.other in let c = q.stripped in let d = q.other in
    let e = rest.pass in let f = rest.to in record { pass = simp (a, b, c, d, e); to = simp (a, b, c, d, f) }

leads-slots : {image blocks slots : List ℕ} {v : Walk} {words : List (List ℕ)} → IsPlain slots
    → Leads sizes (behind_slots image blocks slots) v words → Leads sizes (behind_blocks image blocks) v (codes "--slots" ∷ slots ∷ words)
unfolding clap_on_literals
leads-slots p rest =
    let a = p.stripped in let b = p.other in let e = rest.pass in let f = rest.to in record { pass = simp (a, b, e); to = simp (a, b, f) }

leads-format : {image blocks slots number : List ℕ} → IsPlain number
    → Leads sizes (behind_slots image blocks slots) (behind_format image blocks slots number) (codes "--format" ∷ number ∷ [])
unfolding clap_on_literals
leads-format p = let a = p.stripped in let b = p.other in record { pass = simp (a, b); to = simp (a, b) }

-- it passes its words, with a format and without one
format_passes : {image blocks slots : List ℕ} {ending : List (List ℕ)} {format : LogFormat} → IsPlain image → IsPlain blocks → IsPlain slots
    → IsFormatEnding ending format
    → level_passes sizes [] nothing_held (image ∷ codes "--blocks" ∷ blocks ∷ codes "--slots" ∷ slots ∷ ending) false ≡ true
unfolding clap_on_literals
format_passes {format = format} a b c (inl is) =
    rw is (level sizes (leads-blocks a b (leads-slots c (leads-format (plain_number format)))) refl)
format_passes a b c (inr is) = rw is.0 (level sizes (leads-blocks a b (leads-slots c (leads-none sizes _))) refl)

-- ---- that of `run` and `sim`

module _ (verb : List ℕ) where
  abbrev files : Shape
  files = built_leaf (script_app verb).top

  abbrev behind_files : List ℕ → List ℕ → Walk
  behind_files image script = behind_word files script (behind_word files image start)

  leads-files : {image script : List ℕ} {v : Walk} {words : List (List ℕ)} → IsPlain image → IsPlain script
      → Leads files (behind_files image script) v words → Leads files start v (image ∷ script ∷ words)
  unfolding clap_on_literals
  leads-files p q rest =
      let a = p.stripped in let b = p.other in let c = q.stripped in let d = q.other in
      let e = rest.pass in let f = rest.to in record { pass = simp (a, b, c, d, e); to = simp (a, b, c, d, f) }

  leads-packet : {image script bytes : List ℕ} → IsPlain bytes
      → Leads files (behind_files image script)
      (behind_option files (codes "packet") (codes "--packet") bytes (behind_files image script)) (codes "--packet" ∷ bytes ∷ [])
  unfolding clap_on_literals
  leads-packet p = let a = p.stripped in let b = p.other in record { pass = simp (a, b); to = simp (a, b) }

  -- it passes their words, with a packet's size and without one
  script_passes : {image script : List ℕ} {ending : List (List ℕ)} {size : PacketSize} → IsPlain image → IsPlain script
      → IsPacketEnding ending size → level_passes files [] nothing_held (image ∷ script ∷ ending) false ≡ true
  unfolding clap_on_literals
  script_passes {size = size} a b (inl is) = rw is (level files (leads-files a b (leads-packet (plain_bytes size))) refl)
  script_passes a b (inr is) = rw is.0 (level files (leads-files a b (leads-none files _)) refl)

-- ---- whole command lines

abbrev all : App
all = built usbdisk_app

-- what is checked behind a walk
abbrev ends : Held → Bool → Bool
ends held enters =
    settle_passes all.top.rules all.top.args_override_self held
    && (list_all default_passes all.top.rules && is_valid all.top (finished all.top.rules held) enters)

-- a command stops the walk, and the words behind it are for its own parser
module _ (verb : List ℕ) (words : List (List ℕ)) (at : walked all.top.rules (names_of all) start verb ≡ stopped_at verb [])
    (turn : turn_passes all.top (names_of all) start verb ≡ true) (enters : is_some (entered all (Some (verb, words))) ≡ true)
    (passes : entered_passes all (Some (verb, words)) ≡ true) where
  walk_is : walk all.top.rules (names_of all) nothing_held (verb ∷ words) ≡ stopped_at verb words
  walk_is = ap (λ w. fold (walked all.top.rules (names_of all)) w words) at
      ∙ sym (walk_stopped all.top.rules (names_of all) start verb [] words)

  at_end : ends nothing_held true ≡ true
  unfolding clap_on_literals
  at_end = refl

  takes_command : takes usbdisk_app (verb ∷ words) ≡ true
  unfolding walk_passes
  takes_command =
      both_true (ap (λ w. entered_passes all w.stopped) walk_is ∙ passes)
      (both_true (both_true turn (ap (λ w. walk_passes all.top (names_of all) w words) at
      ∙ passes_stopped all.top (names_of all) verb [] words))
      (ap (λ w. ends w.held (is_some (entered all w.stopped))) walk_is ∙ ap (ends nothing_held) enters ∙ at_end))

migrate_passes : {image : List ℕ} → IsPlain image → level_passes (built_leaf migrate_app.top) [] nothing_held (image ∷ []) false ≡ true
unfolding clap_on_literals
migrate_passes p = let a = p.stripped in let b = p.other in simp (a, b)

takes_line : (words : List (List ℕ)) (task : Task) → SpellsTask words task → takes usbdisk_app words ≡ true
unfolding clap_on_literals
takes_line words (Format image sizes) are =
    rw are.words_are (takes_command (codes "format")
    (image.now ∷ codes "--blocks" ∷ are.blocks_word ∷ codes "--slots" ∷ are.slots_word ∷ are.ending) refl refl refl
    (format_passes (plain image.now are.image_word) (plain_digits are.blocks_are) (plain_digits are.slots_are) are.format_is))
takes_line words (Migrate image) are =
    rw are.words_are (takes_command (codes "migrate") (image.now ∷ []) refl refl refl (migrate_passes (plain image.now are.image_word)))
takes_line words (Run image script size) are =
    rw are.words_are (takes_command (codes "run") (image.now ∷ script.now ∷ are.ending) refl refl refl
    (script_passes (codes "run") (plain image.now are.image_word) (plain script.now are.script_word) are.size_is))
takes_line words (Sim image script size) are =
    rw are.words_are (takes_command (codes "sim") (image.now ∷ script.now ∷ are.ending) refl refl refl
    (script_passes (codes "sim") (plain image.now are.image_word) (plain script.now are.script_word) are.size_is))

-- what a parser refuses is none of a command's words, or it had no memory
pub refused-by : (words : List (List ℕ)) (kind : ErrorKind) (refusal : Refusal) → refusal ≡ refusal_of_kind kind
    → (takes usbdisk_app words ≡ true → kind ≡ kinds.OutOfMemory)
    → (refusal ≡ refused.NoMemory) ⊎ ((refusal ≡ refused.Words) × (IsCommandLine words → ⊥))
refused-by words kinds.OutOfMemory refusal is passes = inl is
refused-by words kind refusal is passes =
    inr (is, λ line. let same : kind ≡ kinds.OutOfMemory = passes (takes_line words line.0 line.1) in cc)

-- what holds of each error holds of this one
pub if-err : {T E : Type 0} (r : Result T E) (Q P : E → Type 0) → IsErrAnd r Q → ((e : E) → Q e → P e) → IfErr r P
if-err (Ok x) Q P is holds = tt
if-err (Err e) Q P is holds = holds e is
