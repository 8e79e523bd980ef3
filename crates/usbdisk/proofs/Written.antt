-- What a device holds that carried out the writes of a copy.
use Rattle.std.proofs.Common.{◌≡◌, ℕ, ◌+◌, ◌-◌, ◌<◌, ◌≤◌, Bool, true, false, zero, suc, List, [], ◌∷◌, ◌++◌, length}
use Rattle.std.proofs.Common.{⊎_elim, refl, sym, ◌∙◌, ap, arith, if◌then◌else◌}
use Rattle.std.specs.Prelude.{replicate, get_or, All}
use Rattle.std.proofs.lemmas.Bool.Decides.{eqb_tells}
use Rattle.std.proofs.lemmas.List.Elements.{All-head, All-tail}
use Rattle.medium.specs.Medium.{Image}
use Rattle.window.specs.Device.{Device, put, carried_out, after}
use Rattle.window.specs.declared.call.DeviceCall.{DeviceCall}
use Rattle.window.specs.declared.call.DeviceCall.TheVariants.{Write, Flush}
use Rattle.window.specs.Seen.{lies_in}
use Rattle.window.proofs.Shown.{lies}
use Rattle.device_file.specs.Copied.{is_zeros, some_writes, moved_calls}

-- another sector than that which is put
pub put_elsewhere : (t s : ℕ) (bytes : List ℕ) (image : Image) → (s ≡ t → ⊥) → put t bytes image s ≡ image s
put_elsewhere t s bytes image apart = ⊎_elim (λ here. absurd (apart here.1)) (λ other. rw other.0 refl) (eqb_tells s t)

pub put_here : (t s : ℕ) (bytes : List ℕ) (image : Image) → s ≡ t → put t bytes image s ≡ bytes
put_here t s bytes image same = ⊎_elim (λ here. rw here.0 refl) (λ other. absurd (other.1 same)) (eqb_tells s t)

abbrev zeros : List ℕ
zeros = replicate 512 0

-- bytes that are zeros alone
zeros_alone : (bytes : List ℕ) → is_zeros bytes ≡ true → bytes ≡ replicate (length bytes) 0
zeros_alone [] all = refl
zeros_alone (x ∷ xs) all = ⊎_elim
    (λ here. ap (λ (n : ℕ). n ∷ xs) here.1 ∙ ap (λ (l : List ℕ). 0 ∷ l) (zeros_alone xs (rw here.0 at all)))
    (λ other. absurd (cc (rw other.0 at all))) (eqb_tells x 0)

zeros_of : (bytes : List ℕ) → is_zeros bytes ≡ true → length bytes ≡ 512 → bytes ≡ zeros
zeros_of bytes all size = zeros_alone bytes all ∙ ap (λ (n : ℕ). replicate n 0) size

-- the write of a block, by whether it is left out
abbrev one_write : Bool → ℕ → List ℕ → List DeviceCall
one_write none sector block = if none then [] else Write (record { sector = sector; block = block }) ∷ []

abbrev wrote : Device → ℕ → List ℕ → Device
wrote device sector block = carried_out device (Write (record { sector = sector; block = block }))

before_step : (none : Bool) (device : Device) (first : ℕ) (x : List ℕ) (xs : List (List ℕ)) (s : ℕ) → s < first
    → ((d : Device) → (after d (some_writes (first + 1) xs)).content s ≡ d.content s)
    → (after device (one_write none first x ++ some_writes (first + 1) xs)).content s ≡ device.content s
before_step true device first x xs s below rest = rest device
before_step false device first x xs s below rest =
    rest (wrote device first x) ∙ put_elsewhere first s x device.content (λ e. omega (arith, below, e))

-- sectors before the first stay
pub writes_before : (device : Device) (first : ℕ) (blocks : List (List ℕ)) (s : ℕ) → s < first
    → (after device (some_writes first blocks)).content s ≡ device.content s
writes_before device first [] s below = refl
writes_before device first (x ∷ xs) s below =
    before_step (is_zeros x) device first x xs s below (λ d. writes_before d (first + 1) xs s (omega (arith, below)))

-- a device has zeros from a sector on
abbrev AreZerosFrom : ℕ → Device → Type 0
AreZerosFrom first device = (s : ℕ) → first ≤ s → device.content s ≡ zeros

-- it has the blocks once these are written
abbrev Has : ℕ → List (List ℕ) → ℕ → Device → Type 0
Has first blocks n device = (after device (some_writes first blocks)).content (first + n) ≡ get_or blocks n zeros

there_step : (none : Bool) (device : Device) (first : ℕ) (x : List ℕ) (xs : List (List ℕ)) → is_zeros x ≡ none → length x ≡ 512
    → AreZerosFrom first device
    → ((d : Device) → AreZerosFrom (first + 1) d → (n : ℕ) → n < length xs → Has (first + 1) xs n d)
    → (n : ℕ) → n < length (x ∷ xs)
    → (after device (one_write none first x ++ some_writes (first + 1) xs)).content (first + n) ≡ get_or (x ∷ xs) n zeros
there_step true device first x xs is whole none rest zero inside =
    ap (λ (s : ℕ). (after device (some_writes (first + 1) xs)).content s) (omega arith)
    ∙ writes_before device (first + 1) xs first (omega arith) ∙ none first (omega arith) ∙ sym (zeros_of x is whole)
there_step true device first x xs is whole none rest (suc n) inside =
    ap (λ (s : ℕ). (after device (some_writes (first + 1) xs)).content s) (omega arith)
    ∙ rest device (λ s above. none s (omega (arith, above))) n (omega (arith, inside))
there_step false device first x xs is whole none rest zero inside =
    ap (λ (s : ℕ). (after (wrote device first x) (some_writes (first + 1) xs)).content s) (omega arith)
    ∙ writes_before (wrote device first x) (first + 1) xs first (omega arith) ∙ put_here first first x device.content refl
there_step false device first x xs is whole none rest (suc n) inside =
    ap (λ (s : ℕ). (after (wrote device first x) (some_writes (first + 1) xs)).content s) (omega arith)
    ∙ rest (wrote device first x)
    (λ s above. put_elsewhere first s x device.content (λ e. omega (arith, above, e)) ∙ none s (omega (arith, above)))
    n (omega (arith, inside))

-- where there were zeros the blocks are
pub writes_there : (device : Device) (first : ℕ) (blocks : List (List ℕ)) → All (λ block. length block ≡ 512) blocks
    → AreZerosFrom first device → (b : ℕ) → b < length blocks → Has first blocks b device
writes_there device first [] sized none b below = absurd (omega (arith, below))
writes_there device first (x ∷ xs) sized none b below =
    there_step (is_zeros x) device first x xs refl (All-head (λ (block : List ℕ). length block ≡ 512) x xs sized) none
    (λ d zeros n inside. writes_there d (first + 1) xs (All-tail (λ (block : List ℕ). length block ≡ 512) x xs sized) zeros n inside)
    b below

-- a plain device has what a whole one has from a sector on
abbrev Agrees : ℕ → ℕ → Device → Device → Type 0
Agrees home count plain whole = (b : ℕ) → b < count → plain.content b ≡ whole.content (home + b)

moved_step : (moves : Bool) (home count sector : ℕ) (block : List ℕ) (calls : List DeviceCall) (plain whole : Device)
    → lies_in home count sector ≡ moves → Agrees home count plain whole
    → ((p w : Device) → Agrees home count p w → Agrees home count (after p (moved_calls home count calls)) (after w calls))
    → Agrees home count
    (after plain ((if moves then Write (record { sector = sector - home; block = block }) ∷ [] else []) ++ moved_calls home count calls))
    (after (wrote whole sector block) calls)
moved_step true home count sector block calls plain whole is same rest = ⊎_elim
    (λ here. rest (wrote plain (sector - home) block) (wrote whole sector block) (inside here.1))
    (λ other. absurd (cc (is, other.0))) (lies home count sector)
  where
    inside : home ≤ sector → Agrees home count (wrote plain (sector - home) block) (wrote whole sector block)
    inside from n few = ⊎_elim
        (λ here. put_here (sector - home) n block plain.content (omega (arith, here.1, from))
        ∙ sym (put_here sector (home + n) block whole.content here.1))
        (λ other. put_elsewhere (sector - home) n block plain.content (λ e. other.1 (omega (arith, e, from)))
        ∙ same n few ∙ sym (put_elsewhere sector (home + n) block whole.content other.1))
        (eqb_tells (home + n) sector)
moved_step false home count sector block calls plain whole is same rest = ⊎_elim
    (λ here. absurd (cc (is, here.0)))
    (λ other. rest plain (wrote whole sector block) (λ n few. same n few ∙ sym (put_elsewhere sector (home + n) block whole.content
    (λ e. ⊎_elim (λ before. omega (arith, e, before)) (λ behind. omega (arith, e, behind, few)) other.1))))
    (lies home count sector)

-- before these calls and behind them
pub moved_there : (home count : ℕ) (calls : List DeviceCall) (plain whole : Device) → Agrees home count plain whole
    → Agrees home count (after plain (moved_calls home count calls)) (after whole calls)
moved_there home count [] plain whole same = same
moved_there home count (Flush ∷ calls) plain whole same = moved_there home count calls plain (carried_out whole Flush) same
moved_there home count (Write w ∷ calls) plain whole same =
    moved_step (lies_in home count w.sector) home count w.sector w.block calls plain whole refl same
    (λ p q agree. moved_there home count calls p q agree)
