-- Sectors that are shown, and a device that begins anew with them.
use Rattle.std.proofs.Common.{◌≡◌, ◌⊎◌, inl, inr, ℕ, zero, suc, ◌+◌, ◌-◌, ◌*◌, ◌/◌, ◌%◌, ◌<◌, ◌≤◌, true, false, List, [], ◌∷◌, ◌++◌}
use Rattle.std.proofs.Common.{length, drop, refl, sym, ◌∙◌, ap, arith, length-append, Option, Some, None}
use Rattle.std.specs.Bool.{Decides}
use Rattle.std.specs.Str.{bytes_eq}
use Rattle.std.proofs.Math.Seq.{drop-append_seam}
use Rattle.std.proofs.lemmas.Bool.{cases_Bool, and_parts}
use Rattle.std.proofs.lemmas.Bool.Decides.{nat_tests, Decides-below_and}
use Rattle.std.proofs.lemmas.List.{take_all, drop_all, take-append-le, drop-append-le, length-take, length-drop}
use Rattle.std.proofs.lemmas.List.Folds.{list_all-append}
use Rattle.std.proofs.lemmas.Slice.Eq.{bytes_eq-Decides}
use Rattle.medium.specs.Medium.{Image}
use Rattle.medium.specs.Writes.{sector_of}
use Rattle.window.specs.Device.{Device, durable, carried_out, after}
use Rattle.window.specs.Story.{Told, given, are_whole}
use Rattle.window.specs.OutboxMedium.{device_of}
use Rattle.window.specs.declared.call.DeviceCall.{DeviceCall}
use Rattle.window.specs.Seen.{Seen, agrees, overlaid, lies_in, bytes_of, with_less, reborn, shown}
use Rattle.window.specs.Window.{holding, laid_over}
use Rattle.window.proofs.OutboxCalls.{after-append}

agrees_tells : (image : Image) (first count : ℕ) (bytes : List ℕ)
    → Decides (agrees image first count bytes) ((i : ℕ) → i < count → sector_of bytes i ≡ image (first + i))
agrees_tells image first count bytes =
    Decides-below_and (λ i. bytes_eq (sector_of bytes i) (image (first + i))) (λ i. sector_of bytes i ≡ image (first + i))
    (λ n. agrees image first n bytes) (λ i. bytes_eq-Decides (sector_of bytes i) (image (first + i))) refl (λ _. refl) count

-- a sector that lies in the front of two lists
pub front : (xs ys : List ℕ) (s : ℕ) → 512 * (s + 1) ≤ length xs → sector_of (xs ++ ys) s ≡ sector_of xs s
front xs ys s le =
    rw (drop-append-le (512 * s) xs ys (omega arith)) (take-append-le 512 (drop (512 * s) xs) ys (omega (arith, length-drop {A = ℕ})))

behind : (xs ys : List ℕ) (s : ℕ) → length xs ≡ 512 * s → length ys ≡ 512 → sector_of (xs ++ ys) s ≡ ys
behind xs ys s long one =
    rw (drop-append-le (512 * s) xs ys (omega arith), drop_all (512 * s) xs (omega arith)) (take_all 512 ys (omega arith))

abbrev pub AreWhole : ℕ → Image → Type 0
AreWhole count image = (s : ℕ) → s < count → length (image s) ≡ 512

length_of_bytes : (count : ℕ) (image : Image) → AreWhole count image → length (bytes_of count image) ≡ 512 * count
length_of_bytes zero image whole = refl
length_of_bytes (suc count) image whole =
    grind (arith, length-append, length_of_bytes count image (λ s lt. whole s (omega arith)), whole count)

sector_of_bytes : (count : ℕ) (image : Image) → AreWhole count image → (s : ℕ) → s < count
    → sector_of (bytes_of count image) s ≡ image s
sector_of_bytes zero image whole s lt = absurd (omega arith)
sector_of_bytes (suc count) image whole s lt =
    let long = length_of_bytes count image (λ s lt. whole s (omega arith)) in
    grind (arith, front, behind, sector_of_bytes count image (λ s lt. whole s (omega arith)), whole count)

length_of_less : (count : ℕ) (calls : List (Option DeviceCall)) → length (with_less count calls) ≡ length calls
length_of_less count [] = refl
length_of_less count (None ∷ calls) = ap suc (length_of_less count calls)
length_of_less zero (Some call ∷ calls) = ap suc (length_of_less zero calls)
length_of_less (suc count) (Some call ∷ calls) = ap suc (length_of_less count calls)

given_less : (count : ℕ) (calls : List (Option DeviceCall)) → given (with_less count calls) ≡ drop count (given calls)
given_less zero [] = refl
given_less (suc count) [] = refl
given_less zero (None ∷ calls) = given_less zero calls
given_less (suc count) (None ∷ calls) = given_less (suc count) calls
given_less zero (Some call ∷ calls) = ap (λ (l : List DeviceCall). call ∷ l) (given_less zero calls)
given_less (suc count) (Some call ∷ calls) = given_less count calls

-- whether a sector lies there
pub lies : (first count s : ℕ) → ((lies_in first count s ≡ true) × (first ≤ s) × (s < first + count))
    ⊎ ((lies_in first count s ≡ false) × ((s < first) ⊎ (first + count ≤ s)))
lies first count s = grind (arith, nat_tests)

overlaid_whole : (image : Image) (first count : ℕ) (bytes : List ℕ) (size : ℕ) → AreWhole size image → 512 * count ≤ length bytes
    → AreWhole size (overlaid image first count bytes)
overlaid_whole image first count bytes size whole fits s lt = elim (lies first count s) [
  | inl here ↦ rw here.0 (simp (length-take, length-drop) (omega (arith, fits, here.1)))
  | inr other ↦ rw other.0 (whole s lt)
]

-- a sector is as they leave it, whatever the others are
same_behind : (d e : Device) (calls : List DeviceCall) (s : ℕ) → e.content s ≡ d.content s
    → (after e calls).content s ≡ (after d calls).content s
same_behind d e [] s same = same
same_behind d e (call ∷ calls) s same = same_behind (carried_out d call) (carried_out e call) calls s (grind (arith, nat_tests))

-- a sector that is already as they leave it stays so
carried_out_again : (d e : Device) (calls : List DeviceCall) (s : ℕ) → e.content s ≡ (after d calls).content s
    → (after e calls).content s ≡ (after d calls).content s
carried_out_again d e [] s same = same
carried_out_again d e (call ∷ calls) s same = grind (
  arith,
  nat_tests,
  same_behind (carried_out d call) (carried_out e call) calls s,
  carried_out_again (carried_out d call) (carried_out e call) calls s,
)

-- one call more
pub laid_on : (calls : List DeviceCall) (call : DeviceCall) (s : ℕ) (bytes : List ℕ)
    → laid_over (calls ++ call ∷ []) s bytes ≡ laid_over (call ∷ []) s (laid_over calls s bytes)
laid_on calls call s bytes =
    ap (λ (d : Device). d.content s) (after-append (holding bytes) calls (call ∷ []))
    ∙ same_behind (holding (laid_over calls s bytes)) (after (holding bytes) calls) (call ∷ []) s refl

module _ (t : Told) (waits : List DeviceCall) (sent : given t.asked ≡ t.taken ++ waits) where
  thought : (s : ℕ) → (device_of t).content s ≡ (after (after (durable t.opening) t.taken) waits).content s
  thought s = rw (sent, after-append) refl

  -- what waits laid over what a device holds that has carried out what was taken
  pub laid_so_far : (s : ℕ) (bytes : List ℕ) → bytes ≡ (after (durable t.opening) t.taken).content s
      → laid_over waits s bytes ≡ (device_of t).content s
  laid_so_far s bytes same = same_behind (after (durable t.opening) t.taken) (holding bytes) waits s same ∙ sym (thought s)

  -- and over what one holds that has carried out all
  pub laid_again : (s : ℕ) (bytes : List ℕ) → bytes ≡ (device_of t).content s → laid_over waits s bytes ≡ (device_of t).content s
  laid_again s bytes same =
      carried_out_again (after (durable t.opening) t.taken) (holding bytes) waits s (same ∙ thought s) ∙ sym (thought s)

-- what is thought of a device that was shown these bytes, with what waits laid over
pub record Thinks (old new : Seen) (waits : List DeviceCall) (first count : ℕ) (bytes : List ℕ) : Type 0 where
  pub opening : length new.told.opening ≡ length old.told.opening
  pub sent : given new.told.asked ≡ new.told.taken ++ waits
  pub whole : are_whole (given new.told.asked) ≡ true
  pub calls : length new.told.asked ≡ length old.told.asked
  pub content : (s : ℕ) → s < length old.told.opening / 512
      → (device_of new.told).content s ≡ overlaid (device_of old.told).content first count bytes s
  -- where they are what was thought, nothing changes
  pub same : ((i : ℕ) → i < count → sector_of bytes i ≡ (device_of old.told).content (first + i)) → new ≡ old

module _ (old : Seen) (waits : List DeviceCall) (first count : ℕ) (bytes : List ℕ) (was : ℕ → List ℕ)
    (sent : given old.told.asked ≡ old.told.taken ++ waits) (all : are_whole (given old.told.asked) ≡ true)
    (laid : (i : ℕ) → i < count → sector_of bytes i ≡ laid_over waits (first + i) (was i)) (whole : length old.told.opening % 512 ≡ 0)
    (sized : AreWhole (length old.told.opening / 512) (device_of old.told).content) (fits : 512 * count ≤ length bytes) where
  abbrev t : Told
  t = old.told

  abbrev image : Image
  image = overlaid (device_of t).content first count bytes

  all_whole : AreWhole (length t.opening / 512) image
  all_whole = overlaid_whole (device_of t).content first count bytes (length t.opening / 512) sized fits

  -- the device that begins anew
  abbrev anew : Told
  anew = reborn t first count bytes

  gives : given anew.asked ≡ waits
  gives = given_less (length t.taken) t.asked ∙ rw (sent, drop-append_seam) refl

  holds : (s : ℕ) → s < length t.opening / 512 → (device_of anew).content s ≡ image s
  holds s lt =
      let opens = sector_of_bytes (length t.opening / 512) image all_whole s lt in
      rw gives (elim (lies first count s) [
        | inl here ↦
            let at : first + (s - first) ≡ s = omega (arith, here.1) in
            let before : image s ≡ laid_over waits s (was (s - first)) =
            rw here.0 (rw at at (laid (s - first) (omega (arith, here.1, here.2)))) in
            carried_out_again (holding (was (s - first))) (durable anew.opening) waits s (opens ∙ before) ∙ sym before
        | inr other ↦
            let before : image s ≡ (after (after (durable t.opening) t.taken) waits).content s = rw other.0 (thought t waits sent s) in
            carried_out_again (after (durable t.opening) t.taken) (durable anew.opening) waits s (opens ∙ before) ∙ sym before
      ])

  pub thinks : Thinks old (shown old first count bytes) waits first count bytes
  thinks =
      let tells = agrees_tells (device_of t).content first count bytes in
      elim (cases_Bool (agrees (device_of t).content first count bytes)) [
        | inl alike ↦ rw alike (record {
          opening = refl;
          sent = sent;
          whole = all;
          calls = refl;
          content = λ s lt. grind (arith, nat_tests, tells.0 alike (s - first));
          same = λ held. refl;
        })
        | inr unlike ↦ rw unlike (record {
          opening = length_of_bytes (length t.opening / 512) image all_whole ∙ omega (arith, whole);
          sent = gives;
          whole = rw gives (and_parts (are_whole t.taken) (are_whole waits) (rw (sent, list_all-append) at all)).1;
          calls = length_of_less (length t.taken) t.asked;
          content = holds;
          same = λ held. absurd (cc (unlike, tells.1 held));
        })
      ]
