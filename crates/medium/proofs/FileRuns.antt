-- A run of bytes that is put to a file, or read from it, in some calls.
use Rattle.std.proofs.Common.{◌≡◌, ◌⊎◌, inl, inr, ⊎_elim, ℕ, ◌+◌, ◌-◌, ◌<◌, ◌≤◌, List, [], ◌∷◌, ◌++◌, length, take, drop, get_or, refl, sym}
use Rattle.std.proofs.Common.{ap, ◌∙◌, arith}
use Rattle.std.specs.Prelude.{max, slice_index, Bool, true, false}
use Rattle.std.proofs.lemmas.Bool.{cases_lt}
use Rattle.std.proofs.lemmas.List.{append_assoc, append-nil, length-drop, length-take-le, get_or-drop, get_or-take, take_all}
use Rattle.std.proofs.lemmas.List.Elements.{All-nil, All-cons, All-append}
use Rattle.medium.proofs.LaidOver.{laid_over, stays_before, lies_behind}
use Rattle.medium.specs.declared.file_call.FileCall.{FileCall}
use Rattle.medium.specs.declared.file_call.FileCall.TheVariants.{Read, Write}
use Rattle.medium.specs.FileStory.{Told, Calls, AsksFor, KeepsBytes, Gives, Takes, TakesWithin, IsPut, IsWriteWithin, IsRead, holds}

-- no call
pub no_calls : (P : FileCall → Type 0) (t : Told) → Calls P t t
no_calls P t = record { path_stays = refl; calls = []; asked = sym (append-nil t.asked); each = All-nil P; looks_stay = refl }

-- one call more
pub one_call : (P : FileCall → Type 0) (call : FileCall) (good : Bool) (old mid new : Told) → Calls P old mid → AsksFor good call mid new
    → P call → Calls P old new
one_call P call good old mid new c a p = record {
  path_stays = a.path_stays ∙ c.path_stays;
  calls = c.calls ++ call ∷ [];
  asked = a.asked ∙ ap (λ (l : List FileCall). l ++ call ∷ []) c.asked ∙ append_assoc old.asked c.calls (call ∷ []);
  each = All-append P c.calls (call ∷ []) c.each (All-cons P call [] p (All-nil P));
  looks_stay = a.looks_stay ∙ c.looks_stay;
}

-- of these bytes the first `done` were put, from this place on
pub record Putting (at : ℕ) (bytes : List ℕ) (done : ℕ) (old new : Told) : Type 0 where
  pub few : done ≤ length bytes
  pub calls : Calls (IsWriteWithin at (length bytes)) old new
  pub here : (i : ℕ) → i < done → holds new (at + i) ≡ slice_index bytes i
  pub elsewhere : (p : ℕ) → (p < at) ⊎ (at + length bytes ≤ p) → holds new p ≡ holds old p
  pub grows : old.size ≤ new.size
  pub reaches : 0 < done → at + done ≤ new.size
  pub most : new.size ≤ max old.size (at + length bytes)

pub put_none : (at : ℕ) (bytes : List ℕ) (t : Told) → Putting at bytes 0 t t
put_none at bytes t = record {
  few = omega arith;
  calls = no_calls (IsWriteWithin at (length bytes)) t;
  here = λ i below. absurd (omega (arith, below));
  elsewhere = λ p out. refl;
  grows = omega arith;
  reaches = λ some. absurd (omega (arith, some));
  most = omega arith;
}

module _ (at : ℕ) (bytes : List ℕ) (done : ℕ) (part : List ℕ) (part_is : part ≡ drop done bytes) (old mid new : Told)
    (p : Putting at bytes done old mid) where
  part_long : length part ≡ length bytes - done
  part_long = ap (λ (l : List ℕ). length l) part_is ∙ length-drop done bytes

  -- of the part, count bytes were taken
  pub put_more : (count : ℕ) → 0 < count → count ≤ length part → AsksFor true (Write (at + done)) mid new
      → Takes (at + done) (take count part) mid new
      → Putting at bytes (done + count) old new
  put_more count some few asks t =
      let long = part_long in
      let short : length (take count part) ≡ count = length-take-le count part few in
      let before = p.few in
      let grown = t.grows in
      let most = t.most in
      let was_most = p.most in
      let was_grown = p.grows in
      record {
        few = omega (arith, before, few, long);
        calls = one_call (IsWriteWithin at (length bytes)) (Write (at + done)) true old mid new p.calls asks
            (omega arith, omega (arith, before, few, long, some));
        here = λ i below. ⊎_elim
            (λ less. t.has.elsewhere (at + i) (inl (omega (arith, less))) ∙ p.here i less)
            (λ more.
            let j : ℕ = i - done in
            let place : at + i ≡ at + done + j = omega (arith, more) in
            let inside : j < length (take count part) = omega (arith, short, below, more) in
            ap (λ (n : ℕ). holds new n) place ∙ t.has.here j inside
            ∙ get_or-take count part j 0 (omega (arith, below, more))
            ∙ ap (λ (l : List ℕ). get_or l j 0) part_is
            ∙ get_or-drop done bytes j 0
            ∙ ap (λ (n : ℕ). get_or bytes n 0) (let back : done + j ≡ i = omega (arith, more) in back))
            (cases_lt i done);
        elsewhere = λ q out. t.has.elsewhere q (⊎_elim (λ low. inl (omega (arith, low))) (λ high. inr (omega (
          arith,
          high,
          short,
          before,
          few,
          long,
        ))) out)
            ∙ p.elsewhere q out;
        grows = omega (arith, grown, was_grown);
        reaches = λ _. let r = t.reaches (omega (arith, short, some)) in omega (arith, r, short);
        most = omega (arith, most, was_most, short, before, few, long);
      }

  -- a call that was refused
  pub put_refused : done < length bytes → AsksFor false (Write (at + done)) mid new
      → TakesWithin (at + done) (length part) mid new → Putting at bytes done old new
  put_refused left asks t =
      let long = part_long in
      let before = p.few in
      let grown = t.grows in
      let most = t.most in
      let was_most = p.most in
      let was_grown = p.grows in
      record {
        few = before;
        calls = one_call (IsWriteWithin at (length bytes)) (Write (at + done)) false old mid new p.calls asks
            (omega arith, omega (arith, left));
        here = λ i below. t.elsewhere (at + i) (inl (omega (arith, below))) ∙ p.here i below;
        elsewhere = λ q out. t.elsewhere q (⊎_elim (λ low. inl (omega (arith, low))) (λ high. inr (omega (arith, high, long, before))) out)
            ∙ p.elsewhere q out;
        grows = omega (arith, grown, was_grown);
        reaches = λ some. let r = p.reaches some in omega (arith, r, grown);
        most = omega (arith, most, was_most, long, before);
      }

-- all of them
pub put_all : (at : ℕ) (bytes : List ℕ) (done : ℕ) (old new : Told) → 0 < length bytes → done ≡ length bytes → Putting at bytes done old new
    → IsPut at bytes old new
put_all at bytes done old new some all p = let most = p.most in let grown = p.grows in record {
  calls = p.calls;
  takes = record {
    has = record { here = λ i below. p.here i (omega (arith, below, all)); elsewhere = p.elsewhere };
    grows = grown;
    reaches = λ _. let r = p.reaches (omega (arith, some, all)) in omega (arith, r, all);
    most = most;
  };
}

-- of `many` bytes the first `done` were read, and stand in these
pub record Reading (many : ℕ) (bytes : List ℕ) (done : ℕ) (old new : Told) : Type 0 where
  pub few : done ≤ many
  pub reads : Calls IsRead old new
  pub here : (i : ℕ) → i < done → holds new i ≡ slice_index bytes i
  pub size : new.size ≡ old.size

pub read_none : (many : ℕ) (bytes : List ℕ) (t : Told) → Reading many bytes 0 t t
read_none many bytes t =
    record { few = omega arith; reads = no_calls IsRead t; here = λ i below. absurd (omega (arith, below)); size = refl }

module _ (many done : ℕ) (bytes part : List ℕ) (old mid new : Told) (r : Reading many bytes done old mid) (long : length bytes ≡ many)
    (rest : length part ≡ length bytes - done) where
  inside : done ≤ length bytes
  inside = let few = r.few in omega (arith, few, long)

  abbrev after : List ℕ
  after = laid_over done bytes part

  kept : (i : ℕ) → i < done → slice_index bytes i ≡ slice_index after i
  kept = stays_before done bytes part inside rest

  laid : (j : ℕ) → j < length part → slice_index part j ≡ slice_index after (done + j)
  laid = lies_behind done bytes part inside rest

  pub read_more : (count : ℕ) → count ≤ length part → AsksFor true (Read done) mid new → Gives done (take count part) mid new
      → Reading many after (done + count) old new
  read_more count few asks g =
      let short : length (take count part) ≡ count = length-take-le count part few in
      let before = inside in
      record {
        few = omega (arith, before, few, rest, long);
        reads = one_call IsRead (Read done) true old mid new r.reads asks tt;
        here = λ i below. ⊎_elim
            (λ less. g.has.elsewhere i (inl less) ∙ r.here i less ∙ kept i less)
            (λ more.
            let j : ℕ = i - done in
            let place : i ≡ done + j = omega (arith, more) in
            let low : j < count = omega (arith, below, more) in
            let there : j < length (take count part) = omega (arith, short, low) in
            ap (λ (n : ℕ). holds new n) place ∙ g.has.here j there ∙ get_or-take count part j 0 low
            ∙ laid j (omega (arith, low, few)) ∙ ap (λ (n : ℕ). get_or after n 0) (sym place))
            (cases_lt i done);
        size = g.size_stays ∙ r.size;
      }

  pub read_refused : AsksFor false (Read done) mid new → KeepsBytes mid new → Reading many after done old new
  read_refused asks k = record {
    few = r.few;
    reads = one_call IsRead (Read done) false old mid new r.reads asks tt;
    here = λ i below. k.bytes i ∙ r.here i below ∙ kept i below;
    size = k.size ∙ r.size;
  }

-- what is left of bytes behind `done` of them, as a slice of them
pub left_of : (done : ℕ) (bytes : List ℕ) → take (length bytes - done) (drop done bytes) ≡ drop done bytes
left_of done bytes = take_all (length bytes - done) (drop done bytes) (omega (arith, length-drop done bytes))

pub left_long : (done : ℕ) (bytes : List ℕ) → length (take (length bytes - done) (drop done bytes)) ≡ length bytes - done
left_long done bytes = ap (λ (l : List ℕ). length l) (left_of done bytes) ∙ length-drop done bytes
