-- What holds at each moment that a medium remembers.
use Rattle.std.specs.Prelude.{OnOk}
use Rattle.std.proofs.Common.{◌≡◌, inl, inr, ℕ, List, [], ◌∷◌, length, Result, Ok, Err, subst, sym, ◌∙◌}
use Rattle.medium.specs.Medium.{Image, CutLeaves, Holds}
use Rattle.medium.specs.Moments.{EachCut, LeavesOnly}
use Rattle.medium.specs.Sim as sim
use Rattle.medium.specs.Sim.{Sim, content_of, sets_of}
use Rattle.medium.specs.SimLaws as sim_laws
use Rattle.medium.specs.History.{Remembered, LeftEarlier, EachMoment, state_of, ComesAfter}
use Rattle.medium.specs.declared.fault.MediumFault.{MediumFault}
use Rattle.medium.proofs.Moments.{holds_updated}

-- what holds in any case holds after a good call
pub after_good : (result : Result (Unit {0}) MediumFault) {P : Type 0} → P → OnOk result P
after_good (Ok _) p = p
after_good (Err _) p = tt

each_left : (P : Image → Type 0) (t : ℕ) (past : List Sim) → ((image : Image) → LeftEarlier t past image → P image)
    → EachMoment (λ m. EachCut P (sim.state_of m)) t past
each_left P t [] has = tt
each_left P t (m ∷ before) has = ((λ le image cut. has image (inl (le, cut))), each_left P t before (λ image left. has image (inr left)))

-- What a cut at any moment since old leaves has P: so it is at each moment that is remembered, whatever the medium holds now.
pub at_each_moment : (P : Image → Type 0) (old new : Remembered) → LeavesOnly P (state_of old) (state_of new)
    → EachMoment (λ m. EachCut P (sim.state_of m)) (length old.earlier) new.earlier
at_each_moment P old new only = each_left P (length old.earlier) new.earlier (λ image left. only.each image (inr left))

-- what a read gave between is left since the beginning
pub left_between : (old mid new : Remembered) (s : ℕ) (bytes : List ℕ) → Holds s bytes (content_of old.now) (content_of mid.now)
    → ComesAfter old mid → ComesAfter mid new → (image : Image) → Holds s bytes (content_of old.now) image
    → (state_of new).left_since (length old.earlier) image
left_between old mid new s bytes put f g image held = g.remembers (length old.earlier) image f.later (inl cut)
  where
    same : (t : ℕ) → content_of mid.now t ≡ image t
    same t =
        holds_updated (content_of old.now) (content_of mid.now) s bytes put t
        ∙ sym (holds_updated (content_of old.now) image s bytes held t)

    cut : CutLeaves (sets_of mid.now) image
    cut t = subst (sets_of mid.now t) (same t) ((sim_laws.is_sound mid.now).holds_content t)
