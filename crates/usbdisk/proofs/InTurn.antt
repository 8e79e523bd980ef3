-- What lines give, one after another.
use Rattle.std.proofs.Common.{◌≡◌, ℕ, List, [], ◌∷◌, ◌++◌, ◌∙◌, refl, sym, ap, subst, append_assoc, append-nil}
use Rattle.std.{proofs.lemmas.List.Elements.{All-head, All-tail}, specs.Prelude.All}
use Rattle.usbdisk.specs.runner.Script.{InTurn, StopsAt}

-- the lines before those left gave these
pub record IsGivenTo {A : Type 0} (LineGives : List ℕ → List A → Type 0) (all left : List (List ℕ)) (first : List A) : Type 0 where
  pub before : List (List ℕ)
  pub parts : all ≡ before ++ left
  pub gave : InTurn LineGives before first

-- what holds of all holds of the one here
pub of_all : {A : Type 0} (P : A → Type 0) (before after : List A) (here : A) → All P (before ++ here ∷ after) → P here
of_all P [] after here are = All-head P here after are
of_all P (first ∷ before) after here are = of_all P before after here (All-tail P first (before ++ here ∷ after) are)

module _ {A : Type 0} (LineGives : List ℕ → List A → Type 0) where
  -- lines give what they give, and others what they do
  pub InTurn-append : (lines more : List (List ℕ)) (first rest : List A) → InTurn LineGives lines first → InTurn LineGives more rest
      → InTurn LineGives (lines ++ more) (first ++ rest)
  InTurn-append [] more first rest gives others =
      subst (λ (l : List A). InTurn LineGives more (l ++ rest)) (sym gives) others
  InTurn-append (line ∷ lines) more first rest gives others = (
    gives.0,
    gives.1 ++ rest,
    gives.2,
    InTurn-append lines more gives.1 rest gives.3 others,
    ap (λ (l : List A). l ++ rest) gives.4 ∙ append_assoc gives.0 gives.1 rest,
  )

  pub given-start : {all left : List (List ℕ)} → left ≡ all → IsGivenTo LineGives all left []
  given-start same = record { before = []; parts = sym same; gave = refl }

  module _ {all old left : List (List ℕ)} {line : List ℕ} {first : List A} (so : IsGivenTo LineGives all old first)
      (next : old ≡ line ∷ left) where
    behind : all ≡ so.before ++ line ∷ left
    behind = so.parts ∙ ap (λ (l : List (List ℕ)). so.before ++ l) next

    pub given-more : (more : List A) → LineGives line more → IsGivenTo LineGives all left (first ++ more)
    given-more more gives = record {
      before = so.before ++ line ∷ [];
      parts = behind ∙ sym (append_assoc so.before (line ∷ []) left);
      gave = InTurn-append so.before (line ∷ []) first more so.gave (more, [], gives, refl, sym (append-nil more));
    }

    -- a line gave a part of what it gives, and one thing more
    pub given-part : (part : List A) (last : A) (rest : List A) → LineGives line (part ++ last ∷ rest)
        → StopsAt LineGives all first part last
    given-part part last rest gives = record {
      before = so.before;
      line = line;
      after = left;
      parts = behind;
      whole = so.gave;
      rest = rest;
      here = gives;
    }

  pub given-all : {all left : List (List ℕ)} {first : List A} → left ≡ [] → IsGivenTo LineGives all left first
      → InTurn LineGives all first
  given-all none so = rw (so.parts ∙ ap (λ (l : List (List ℕ)). so.before ++ l) none ∙ append-nil so.before) so.gave
