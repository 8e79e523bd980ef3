-- A run of bytes that is looked at in some calls.
use Rattle.std.proofs.Common.{◌≡◌, ◌⊎◌, ℕ, ◌+◌, ◌-◌, ◌<◌, ◌≤◌, List, length, take, inl, inr, ⊎_elim, ◌∙◌, subst, arith}
use Rattle.std.specs.Prelude.{slice_index}
use Rattle.std.proofs.lemmas.Bool.{cases_lt}
use Rattle.std.proofs.lemmas.List.{length-take-le, get_or-take}
use Rattle.medium.specs.FileStory.{Looks, AreGiven, IsGiven, IsMissed, IsUnanswered}
use Rattle.medium.proofs.LaidOver.{laid_over, stays_before, lies_behind}

-- of `many` bytes the first `done` were given, and stand in these; each turn gave one at least, or a look was in vain
pub record Looking (looks : Looks) (at many : ℕ) (bytes : List ℕ) (done turn : ℕ) : Type 0 where
  pub few : done ≤ many
  pub here : (i : ℕ) → i < done → IsGiven looks (at + i) (slice_index bytes i)
  pub went : (turn ≤ done) ⊎ IsMissed looks at many

module _ (looks : Looks) (at many : ℕ) where
  pub look_none : (bytes : List ℕ) → Looking looks at many bytes 0 0
  look_none bytes =
      record { few = omega arith; here = λ i below. absurd (omega (arith, below)); went = inl (omega arith) }

  -- a look for the rest was in vain
  pub look_missed : (done rest : ℕ) → done < many → rest ≡ many - done → IsUnanswered looks (at + done) rest
      → IsMissed looks at many
  look_missed done rest below is missed = record {
    place = at + done;
    from = omega arith;
    inside = omega (arith, below);
    missed = subst (λ (n : ℕ). IsUnanswered looks (at + done) n)
        (let same : rest ≡ at + many - (at + done) = omega (arith, is, below) in same) missed;
  }

  module _ (done turn : ℕ) (bytes part : List ℕ) (l : Looking looks at many bytes done turn) (long : length bytes ≡ many)
      (rest : length part ≡ length bytes - done) where
    inside : done ≤ length bytes
    inside = let few = l.few in omega (arith, few, long)

    again : (i : ℕ) → i < done → IsGiven looks (at + i) (slice_index (laid_over done bytes part) i)
    again i below = subst (λ (n : ℕ). IsGiven looks (at + i) n) (stays_before done bytes part inside rest i below) (l.here i below)

    -- a look that was refused
    pub look_refused : IsMissed looks at many → Looking looks at many (laid_over done bytes part) done (turn + 1)
    look_refused missed = record { few = l.few; here = again; went = inr missed }

    -- of the rest count bytes were given
    pub look_more : (count : ℕ) → 0 < count → count ≤ length part → AreGiven looks (at + done) (take count part)
        → Looking looks at many (laid_over done bytes part) (done + count) (turn + 1)
    look_more count some few given =
        let short : length (take count part) ≡ count = length-take-le count part few in
        let before = inside in
        record {
          few = omega (arith, before, few, rest, long);
          here = λ i below. ⊎_elim
              (λ less. again i less)
              (λ more.
              let j : ℕ = i - done in
              let place : done + j ≡ i = omega (arith, more) in
              let low : j < count = omega (arith, below, more) in
              subst (λ (n : ℕ). IsGiven looks (at + n) (slice_index (laid_over done bytes part) n)) place
              (subst (λ (n : ℕ). IsGiven looks (at + (done + j)) n)
              (get_or-take count part j 0 low ∙ lies_behind done bytes part inside rest j (omega (arith, low, few)))
              (subst (λ (n : ℕ). IsGiven looks n (slice_index (take count part) j))
              (let same : at + done + j ≡ at + (done + j) = omega arith in same) (given j (omega (arith, short, low))))))
              (cases_lt i done);
          went = ⊎_elim (λ went. inl (omega (arith, went, some))) (λ missed. inr missed) l.went;
        }
