-- Calls that leave an outbox, one by one.
use Rattle.std.proofs.Common.{◌≡◌, ℕ, zero, suc, ◌+◌, ◌<◌, List, [], ◌∷◌, ◌++◌, length, drop, refl, sym, ◌∙◌, ap, arith}
use Rattle.std.proofs.{Common.{add-one, add-zero, inl, inr}, lemmas.List.{drop_all, take-append-drop}, lemmas.Bool.cases_lt}
use Rattle.medium.specs.{Writes.sector_of}
use Rattle.window.specs.{declared.call.DeviceCall.DeviceCall, declared.call.DeviceCall.TheVariants.Write}
use Rattle.window.specs.Window.{Window, take_first, without_first}
use Rattle.window.specs.Runs.{CopiesRun, writes_of}
use Rattle.store_calls.specs.Outbox.{without, IsEmptied, IsLongestRun, IsNoRoom}

-- ---- a run

-- sectors that hold the same give the same writes
pub same_writes : (count sector : ℕ) (was filled : List ℕ) → ((i : ℕ) → i < count → sector_of filled i ≡ sector_of was i)
    → writes_of count sector was ≡ writes_of count sector filled
same_writes zero sector was filled same = refl
same_writes (suc count) sector was filled same =
    (λ i. same_writes count sector was filled (λ k lt. same k (omega (arith, lt))) i
    ++ Write (record { sector = sector + count; block = sym (same count (omega arith)) i }) ∷ [])

-- ---- all of them

-- one call more
pub one_more : (count : ℕ) (old mid new : Window) → mid ≡ without count old → new ≡ without_first mid → new ≡ without (count + 1) old
one_more count old mid new gone goes = rw (add-one count, goes, gone)

-- one call fewer waits
first_gone : (calls : List DeviceCall) (w : Window) → w.outbox ≡ calls → (take_first calls w).outbox ≡ drop 1 calls
first_gone [] w is = is
first_gone (call ∷ calls) w is = refl

drop_next : (n : ℕ) (calls : List DeviceCall) → drop 1 (drop n calls) ≡ drop (suc n) calls
drop_next zero calls = refl
drop_next (suc n) [] = refl
drop_next (suc n) (call ∷ calls) = drop_next n calls

waits_behind : (count : ℕ) (w : Window) → (without count w).outbox ≡ drop count w.outbox
waits_behind zero w = refl
waits_behind (suc count) w =
    let rest = waits_behind count w in
    first_gone (without count w).outbox (without count w) refl
    ∙ ap (λ (calls : List DeviceCall). drop 1 calls) rest ∙ drop_next count w.outbox

-- as many as waited
pub emptied : (count : ℕ) (old new : Window) → count ≡ length old.outbox → new ≡ without count old → IsEmptied old new
emptied count old new all gone =
    let medium = gone ∙ ap (λ (n : ℕ). without n old) all in record {
      medium = medium;
      empty = ap (λ (w : Window). w.outbox) medium ∙ waits_behind (length old.outbox) old
          ∙ drop_all (length old.outbox) old.outbox (omega arith);
    }

-- ---- the longest run

pub longest : (old new : Window) (first count : ℕ) (room filled : List ℕ) → CopiesRun old.outbox first count room filled
    → new ≡ without count old → IsLongestRun old new first count room filled
longest old new first count room filled copies gone =
    let waits : new.outbox ≡ drop count old.outbox = ap (λ (w : Window). w.outbox) gone ∙ waits_behind count old in record {
      run = record {
        writes = rw (waits, ← copies.writes) (sym (take-append-drop count old.outbox));
        medium = gone;
        behind = copies.behind;
      };
      most = copies.most;
      ends = rw waits copies.ends;
    }

-- it has a write at least, where there is room
pub some_run : (waits : List DeviceCall) (first count : ℕ) (room filled : List ℕ) → CopiesRun waits first count room filled
    → ¬ IsNoRoom (length room) → 0 < count
some_run waits first zero room filled copies fits = elim copies.ends [
  | inl full ↦ elim (cases_lt 0 (length room)) [
    | inl some ↦ absurd (fits (inr (λ whole. omega (arith, full, some, whole))))
    | inr none ↦ absurd (fits (inl (omega arith)))
  ]
  | inr ends ↦ absurd (ends (rw add-zero copies.begins))
]
some_run waits first (suc count) room filled copies fits = omega arith
