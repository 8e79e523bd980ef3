-- Which sectors the reads of some calls name.
use Rattle.std.proofs.Common.{◌≡◌, ◌<◌, ◌≤◌, ℕ, List, [], ◌++◌, Result, sym, subst, ◌∙◌, ap, append_assoc, arith}
use Rattle.std.proofs.lemmas.List.{append-nil}
use Rattle.std.proofs.lemmas.List.Elements.{All-nil, All-append, All-weaker}
use Rattle.medium.specs.Medium.{State, Passes, LooksOnly}
use Rattle.medium.specs.declared.fault.MediumFault.{MediumFault}
use Rattle.medium.specs.declared.fault.MediumFault.TheVariants.{Write, Flush}

-- no read was made
pub no_looks : (P : ℕ → Type 0) (old new : State) → new.looked ≡ old.looked → LooksOnly P old new
no_looks P old new same = record { looks = []; looked = same ∙ sym (append-nil old.looked); only = All-nil P }

-- a write
pub write_looks : (P : ℕ → Type 0) (old new : State) {result : Result (Unit {0}) MediumFault} → Passes Write result old new
    → LooksOnly P old new
write_looks P old new call = no_looks P old new (call.looked_stays (λ e. cc e))

-- a flush
pub flush_looks : (P : ℕ → Type 0) (old new : State) {result : Result (Unit {0}) MediumFault} → Passes Flush result old new
    → LooksOnly P old new
flush_looks P old new call = no_looks P old new (call.looked_stays (λ e. cc e))

-- calls, and then others
pub looks_joined : (P : ℕ → Type 0) (old mid new : State) → LooksOnly P old mid → LooksOnly P mid new → LooksOnly P old new
looks_joined P old mid new first second = record {
  looks = first.looks ++ second.looks;
  looked = second.looked ∙ ap (λ (l : List ℕ). l ++ second.looks) first.looked
      ∙ append_assoc old.looked first.looks second.looks;
  only = All-append P first.looks second.looks first.only second.only;
}

-- what holds of each sector with P
pub looks_wider : (P Q : ℕ → Type 0) (old new : State) → ((s : ℕ) → P s → Q s) → LooksOnly P old new → LooksOnly Q old new
looks_wider P Q old new wider some =
    record { looks = some.looks; looked = some.looked; only = All-weaker P Q wider some.looks some.only }

-- a read of one sector, which has P
pub one_look : (P : ℕ → Type 0) (old new : State) (sector : ℕ) → P sector → LooksOnly (λ s. s ≡ sector) old new → LooksOnly P old new
one_look P old new sector has look = looks_wider (λ s. s ≡ sector) P old new (λ s here. subst P (sym here) has) look

-- a read of a sector before this one
pub look_below : (end : ℕ) (old new : State) (sector : ℕ) → sector < end → LooksOnly (λ s. s ≡ sector) old new
    → LooksOnly (λ s. s < end) old new
look_below end old new sector below look = one_look (λ s. s < end) old new sector below look

-- reads of sectors before a sector, which stands before this one
pub looks_below : (few end : ℕ) (old new : State) → few ≤ end → LooksOnly (λ s. s < few) old new → LooksOnly (λ s. s < end) old new
looks_below few end old new le looks = looks_wider (λ s. s < few) (λ s. s < end) old new (λ s low. omega (arith, low, le)) looks
