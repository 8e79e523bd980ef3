-- What a write makes of a medium over an image file.
use Rattle.std.proofs.Common.{◌≡◌, ◌≢◌, ◌⊎◌, ⊎_elim, refl, sym, inl, inr, ℕ, ◌+◌, ◌-◌, ◌*◌, ◌/◌, ◌%◌, ◌<◌, ◌≤◌, List, length, drop, get_or}
use Rattle.std.proofs.Common.{◌∙◌, ap, Ok, arith}
use Rattle.std.proofs.lemmas.Bool.{cases_eq, cases_lt}
use Rattle.std.proofs.lemmas.List.{get_or-drop, get_or-take}
use Rattle.medium.specs.FileStory.{holds}
use Rattle.medium.specs.Medium.{Passes}
use Rattle.medium.specs.ImageFile.{Copied, state_of, IsWritten, IsCopy, ComesAfter}
use Rattle.medium.specs.Tally.{Tally, of_all, of_kind, one_more}
use Rattle.medium.specs.Writes.{sector_of}
use Rattle.medium.specs.declared.fault.MediumFault.{MediumFault}
use Rattle.medium.specs.declared.fault.MediumFault.TheVariants.{Read, Write, Flush}

module _ (s : ℕ) (block : List ℕ) (old new : Copied) (written : IsWritten s block old new) where
  -- what a cut may leave is what it could leave before, or the block
  pub written_set : (t : ℕ) (c : List ℕ) → c ≡ sector_of new.bytes t → (c ≡ sector_of old.bytes t) ⊎ ((t ≡ s) × (c ≡ block))
  written_set t c left = elim (cases_eq t s) [
    | inl here ↦ inr (here, left ∙ ap (λ (n : ℕ). sector_of new.bytes n) here ∙ written.sectors.here)
    | inr other ↦ inl (left ∙ written.sectors.elsewhere t other)
  ]

  made_other : (kind : MediumFault) → kind ≢ Write → new.made ≡ one_more old.made Write → of_kind new.made kind ≡ of_kind old.made kind
  made_other Read other is = ap (λ r. of_kind r Read) is
  made_other Write other is = absurd (other refl)
  made_other Flush other is = ap (λ r. of_kind r Flush) is

  pub written_passes : Passes Write (Ok tt) (state_of old) (state_of new)
  written_passes = record {
    calls_are = written.calls_are;
    made_is = ap (λ r. of_kind r Write) written.made_is;
    others_made = λ kind other. made_other kind other written.made_is;
    failures_are = ap of_all written.refused_stay;
    refused_are = ap (λ r. of_kind r Write) written.refused_stay;
    others_stay = λ kind other. ap (λ r. of_kind r kind) written.refused_stay;
    size_stays = ap (λ n. n / 512) written.length_stays;
    named = tt;
    nothing_else = λ t image le since. inr since;
    looked_stays = λ other. refl;
  }

-- a byte, as one of its sector
byte_of : (bytes : List ℕ) (p : ℕ) → get_or bytes p 0 ≡ get_or (sector_of bytes (p / 512)) (p % 512) 0
byte_of bytes p =
    let place : p ≡ 512 * (p / 512) + p % 512 = omega arith in
    ap (λ (n : ℕ). get_or bytes n 0) place ∙ sym (get_or-drop (512 * (p / 512)) bytes (p % 512) 0)
    ∙ sym (get_or-take 512 (drop (512 * (p / 512)) bytes) (p % 512) 0 (omega arith))

module _ (s : ℕ) (block : List ℕ) (old new : Copied) (written : IsWritten s block old new) (long : length block ≡ 512)
    (fits : 512 * (s + 1) ≤ length old.bytes) where
  here : (p : ℕ) → 512 * s ≤ p → p < 512 * s + 512 → holds new.file p ≡ get_or new.bytes p 0
  here p low high =
      let i : ℕ = p - 512 * s in
      let place : p ≡ 512 * s + i = omega (arith, low) in
      let below : i < 512 = omega (arith, low, high) in
      ap (λ (n : ℕ). holds new.file n) place ∙ written.put.takes.has.here i (omega (arith, below, long))
      ∙ ap (λ (l : List ℕ). get_or l i 0) (sym written.sectors.here) ∙ get_or-take 512 (drop (512 * s) new.bytes) i 0 below
      ∙ get_or-drop (512 * s) new.bytes i 0 ∙ ap (λ (n : ℕ). get_or new.bytes n 0) (sym place)

  elsewhere : (p : ℕ) → (p < 512 * s) ⊎ (512 * s + length block ≤ p) → IsCopy old → p < length new.bytes
      → holds new.file p ≡ get_or new.bytes p 0
  elsewhere p out copy below =
      let stays = written.length_stays in
      let other : p / 512 ≢ s = λ is. ⊎_elim (λ low. omega (arith, low, is)) (λ high. omega (arith, high, is, long)) out in
      written.put.takes.has.elsewhere p out ∙ copy.bytes_are p (omega (arith, below, stays)) ∙ byte_of old.bytes p
      ∙ ap (λ (l : List ℕ). get_or l (p % 512) 0) (sym (written.sectors.elsewhere (p / 512) other)) ∙ sym (byte_of new.bytes p)

  -- a good write keeps the file a copy
  copied : IsCopy old → IsCopy new
  copied copy =
      let stays = written.length_stays in
      let size = copy.size in
      let grows = written.put.takes.grows in
      let most = written.put.takes.most in
      record {
        size = omega (arith, stays, size, grows, most, fits, long);
        bytes_are = λ p below. ⊎_elim
            (λ low. elsewhere p (inl low) copy below)
            (λ high. ⊎_elim
            (λ inside. here p high inside)
            (λ past. elsewhere p (inr (omega (arith, past, long))) copy below)
            (cases_lt p (512 * s + 512)))
            (cases_lt p (512 * s));
      }

  pub written_follows : ComesAfter old new
  written_follows = record {
    path_stays = written.put.calls.path_stays;
    length_stays = written.length_stays;
    later = omega (arith, written.calls_are);
    failures_stay = let same = ap of_all written.refused_stay in omega (arith, same);
    writes_stay = let same = ap (λ (r : Tally). r.writes) written.refused_stay in omega (arith, same);
    copy_stays = λ copy same. copied copy;
  }
