-- What one tally of the calls that were made says: how many there were, how many of a kind, and what was refused.
use Rattle.std.proofs.Common.{◌≡◌, ℕ, ◌+◌, ◌<◌, ◌≤◌, List, [], ◌∷◌, ◌++◌, Result, Ok, Err, IfErr, ◌∙◌, arith}
use Rattle.std.specs.Prelude.{All}
use Rattle.std.proofs.lemmas.List.{append-nil}
use Rattle.std.proofs.lemmas.List.Elements.{All-head}
use Rattle.medium.specs.Medium.{State, LooksOnly}
use Rattle.medium.specs.Sent.{SendsUpTo}
use Rattle.medium.specs.Tally.{Tally, of_kind, of_all, none, one_more}
use Rattle.medium.specs.declared.fault.MediumFault.{MediumFault}
use Rattle.medium.specs.declared.fault.MediumFault.TheVariants.{Read, Write, Flush}
use Rattle.medium.specs.Machine.{Tallied}

module _ {Exact : Type 0} {left rest : Tally} {result : Result (Unit {0}) MediumFault} {old new : State}
    (t : Tallied Exact left rest result old new) where
  -- no more calls than were left
  pub calls_most : new.calls ≤ old.calls + of_all left
  calls_most = omega (arith, t.calls, t.sums Read, t.sums Write, t.sums Flush)

  -- all that were left, where none is left behind
  pub calls_all : Exact → rest ≡ none → new.calls ≡ old.calls + of_all left
  calls_all exact all =
      let sums = rw all at (t.exact exact) in
      omega (arith, t.calls, sums Read, sums Write, sums Flush)

  -- so many of them send something to the device
  pub sends_most : SendsUpTo (left.writes + left.flushes) old new
  sends_most = omega (arith, t.made Write, t.made Flush, t.sums Write, t.sums Flush)

  -- of a kind of which none was left none was made, and so none refused
  pub none_made : (kind : MediumFault) → of_kind left kind ≡ 0 → new.made kind ≡ old.made kind
  none_made kind none_left = omega (arith, t.made kind, t.sums kind, none_left)

  pub none_refused : (kind : MediumFault) → of_kind left kind ≡ 0 → new.refused kind ≡ old.refused kind
  none_refused kind none_left = omega (arith, t.refused kind, t.some kind, t.sums kind, none_left)

one_is : (kind : MediumFault) → (of_kind (one_more none kind) kind ≡ 1) × (of_all (one_more none kind) ≡ 1)
one_is Read = (omega arith, omega arith)
one_is Write = (omega arith, omega arith)
one_is Flush = (omega arith, omega arith)

-- the call that ended it was refused
pub refusal_counts : {Exact : Type 0} {left rest : Tally} {old new : State} (result : Result (Unit {0}) MediumFault)
    → Tallied Exact left rest result old new → IfErr result (λ e. (old.failures < new.failures) × (old.refused e < new.refused e))
refusal_counts (Ok done) t = tt
refusal_counts (Err e) t = (omega (arith, t.failures, (one_is e).1), omega (arith, t.refused e, (one_is e).0))

-- where no read may name a sector none did
pub nothing_looked : (old new : State) → LooksOnly (λ s. s < 0) old new → new.looked ≡ old.looked
nothing_looked old new looks = go looks.looks looks.only looks.looked
  where
    go : (l : List ℕ) → All (λ s. s < 0) l → new.looked ≡ old.looked ++ l → new.looked ≡ old.looked
    go [] only is = is ∙ append-nil old.looked
    go (x ∷ l) only is = absurd (omega (arith, All-head (λ s. s < 0) x l only))
