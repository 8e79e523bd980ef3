-- Sectors that calls spare, from call to call.
use Rattle.std.proofs.Common.{◌≡◌, ◌⊎◌, ◌≢◌, ◌≤◌, ◌<◌, ℕ, List, Result, ⊎_elim, arith, ◌∙◌, refl}
use Rattle.medium.specs.Medium.{State, Image, Stays, Holds, Within, Gains, Passes, IsSound}
use Rattle.medium.specs.Moments.{SparesFrom, IsQuiet, IsUnchanged}
use Rattle.medium.specs.declared.fault.MediumFault.{MediumFault}
use Rattle.medium.proofs.Moments.{started, goes_on, joined, weaker, quiet_leaves, unchanged_quiet}

-- in the sectors from this one on the image has what a cut could leave of the medium
abbrev pub HasSpared : ℕ → State → Image → Type 0
HasSpared first m image = (s : ℕ) → first ≤ s → m.may_leave s (image s)

-- before the first call
pub spared_start : (first : ℕ) (m : State) → IsSound m → SparesFrom first m m
spared_start first m sound = record {
  content = λ s le. refl;
  sets = λ s c le left. left;
  moments = started (HasSpared first m) m sound (λ image cut s le. cut s);
}

-- calls that wrote nothing
pub spared_quiet : (first : ℕ) (old new : State) → IsSound old → IsQuiet old new → SparesFrom first old new
spared_quiet first old new sound quiet = record {
  content = λ s le. quiet.content_stays s;
  sets = λ s c le left. quiet.sets_shrink s c left;
  moments = quiet_leaves (HasSpared first old) old new sound (λ image cut s le. cut s) quiet;
}

-- nothing has changed
pub spared_unchanged : (first : ℕ) (old new : State) → IsSound old → IsUnchanged old new → SparesFrom first old new
spared_unchanged first old new sound same = spared_quiet first old new sound (unchanged_quiet old new same)

-- one call, which writes to the sectors below alone
pub spared_call : (first : ℕ) (old new : State) {fault : MediumFault} {result : Result (Unit {0}) MediumFault} → IsSound old
    → Passes fault result old new → ((s : ℕ) → first ≤ s → new.content s ≡ old.content s)
    → ((s : ℕ) (c : List ℕ) → first ≤ s → new.may_leave s c → old.may_leave s c) → SparesFrom first old new
spared_call first old new sound call content sets = record {
  content = content;
  sets = sets;
  moments = goes_on (HasSpared first old) old old new (started (HasSpared first old) old sound (λ image cut s le. cut s)) call
      (λ image cut s le. sets s (image s) le (cut s));
}

-- a write to a sector below, good or refused
pub spared_write : (first : ℕ) (old new : State) {fault : MediumFault} {result : Result (Unit {0}) MediumFault} (t : ℕ) (bytes : List ℕ)
    → IsSound old → t < first → Passes fault result old new → Gains t bytes old.may_leave new.may_leave
    → Stays old.content new.content ⊎ Holds t bytes old.content new.content → SparesFrom first old new
spared_write first old new t bytes sound below call gains content = spared_call first old new sound call
    (λ s le. ⊎_elim (λ stays. stays s) (λ holds. holds.elsewhere s (apart s le)) content)
    (λ s c le left. ⊎_elim (λ was. was) (λ here. absurd (apart s le here.0)) (gains s c left))
  where
    apart : (s : ℕ) → first ≤ s → s ≢ t
    apart s le same = omega (arith, le, same, below)

-- a call that writes nothing: a read or a flush
pub spared_silent : (first : ℕ) (old new : State) {fault : MediumFault} {result : Result (Unit {0}) MediumFault} → IsSound old
    → Passes fault result old new → Stays old.content new.content → Within new.may_leave old.may_leave → SparesFrom first old new
spared_silent first old new sound call content sets =
    spared_call first old new sound call (λ s le. content s) (λ s c le left. sets s c left)

-- some calls, and then others
pub spared_joined : (first : ℕ) (old mid new : State) → SparesFrom first old mid → SparesFrom first mid new → SparesFrom first old new
spared_joined first old mid new a b = record {
  content = λ s le. b.content s le ∙ a.content s le;
  sets = λ s c le left. a.sets s c le (b.sets s c le left);
  moments = weaker (λ image. HasSpared first old image ⊎ HasSpared first mid image) (HasSpared first old) old new
      (λ image either. ⊎_elim (λ was. was) (λ now s le. a.sets s (image s) le (now s le)) either)
      (joined (HasSpared first old) (HasSpared first mid) old mid new a.moments b.moments);
}

-- calls that spare sectors spare those behind them
pub spared_behind : (first later : ℕ) (old new : State) → first ≤ later → SparesFrom first old new → SparesFrom later old new
spared_behind first later old new le a = record {
  content = λ s behind. a.content s (omega (arith, le, behind));
  sets = λ s c behind left. a.sets s c (omega (arith, le, behind)) left;
  moments = weaker (HasSpared first old) (HasSpared later old) old new (λ image has s behind. has s (omega (arith, le, behind))) a.moments;
}
