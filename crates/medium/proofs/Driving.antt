-- A machine is driven, call by call.
use Rattle.std.proofs.Common.{◌≡◌, ◌≢◌, ◌⊎◌, ℕ, ◌+◌, ◌<◌, ◌≤◌, List, Result, Ok, Err, refl, ◌∙◌, ap, subst, sym, arith, inl, inr}
use Rattle.medium.specs.Medium.{State, Image, LooksOnly, IsSound, Passes}
use Rattle.medium.specs.Moments.{EachCut, LeavesOnly, SparesFrom}
use Rattle.medium.specs.Performed.{Performed, fault_of}
use Rattle.medium.specs.Tally.{Tally, of_kind, of_all, one_more, none}
use Rattle.medium.specs.declared.fault.MediumFault.{MediumFault}
use Rattle.medium.specs.declared.fault.MediumFault.TheVariants as fault
use Rattle.medium.specs.declared.medium_call.Call.{Call}
use Rattle.medium.proofs.Moments.{goes_on, started}
use Rattle.medium.proofs.SectorsRead.{looks_joined, no_looks}
use Rattle.medium.proofs.SparedSectors.{spared_joined, spared_start}
use Rattle.medium.specs.Machine.{GoesOn, TellsCall, Tallied, Driven, IsLeft, refused_by}

-- a tally with one call more has one more of its kind, and as many of each other
more_of : (t : Tally) (kind : MediumFault) → of_kind (one_more t kind) kind ≡ of_kind t kind + 1
more_of t fault.Read = refl
more_of t fault.Write = refl
more_of t fault.Flush = refl

abbrev IsOrOther : MediumFault → MediumFault → Type 0
IsOrOther kind other = (other ≡ kind) ⊎ ((other ≢ kind) × ((t : Tally) → of_kind (one_more t kind) other ≡ of_kind t other))

is_or_other : (kind other : MediumFault) → IsOrOther kind other
is_or_other fault.Read fault.Read = inl refl
is_or_other fault.Read fault.Write = inr (λ e. cc e, λ t. refl)
is_or_other fault.Read fault.Flush = inr (λ e. cc e, λ t. refl)
is_or_other fault.Write fault.Read = inr (λ e. cc e, λ t. refl)
is_or_other fault.Write fault.Write = inl refl
is_or_other fault.Write fault.Flush = inr (λ e. cc e, λ t. refl)
is_or_other fault.Flush fault.Read = inr (λ e. cc e, λ t. refl)
is_or_other fault.Flush fault.Write = inr (λ e. cc e, λ t. refl)
is_or_other fault.Flush fault.Flush = inl refl

more_all : (t : Tally) (kind : MediumFault) → of_all (one_more t kind) ≡ of_all t + 1
more_all t fault.Read = omega arith
more_all t fault.Write = omega arith
more_all t fault.Flush = omega arith

none_of : (kind : MediumFault) → of_kind none kind ≡ 0
none_of fault.Read = refl
none_of fault.Write = refl
none_of fault.Flush = refl

module _ (kind : MediumFault) (t : Tally) (old mid new : MediumFault → ℕ) (before : (k : MediumFault) → mid k ≡ old k + of_kind t k)
    (others : (k : MediumFault) → k ≢ kind → new k ≡ mid k) where
  -- a count that this call raises
  raised : new kind ≡ mid kind + 1 → (k : MediumFault) → new k ≡ old k + of_kind (one_more t kind) k
  raised one k = elim (is_or_other kind k) [
    | inl same ↦ rw same (omega (arith, one, before kind, more_of t kind))
    | inr other ↦ omega (arith, others k other.0, before k, other.1 t)
  ]

  -- and one that it does not
  kept : new kind ≡ mid kind → (k : MediumFault) → new k ≡ old k + of_kind t k
  kept same k = elim (is_or_other kind k) [
    | inl is ↦ rw is (omega (arith, same, before kind))
    | inr other ↦ omega (arith, others k other.0, before k)
  ]

-- an exact number is left
pub left_all : {Exact : Type 0} {left rest : Tally} → left ≡ rest → IsLeft Exact left rest
left_all {left = left} same = record { most = λ kind. rw (← same) (omega arith); exact = λ e. same }

-- with each call that is made fewer are left
pub fewer_left : {Exact : Type 0} {left next rest : Tally} (kind : MediumFault) → left ≡ one_more rest kind
    → IsLeft Exact next rest → of_all next < of_all left
fewer_left {rest = rest} kind pays is =
    rw pays (omega (arith, more_all rest kind, is.most fault.Read, is.most fault.Write, is.most fault.Flush))

-- no call is left
pub tallied_all : {Exact : Type 0} {first left rest : Tally} {old new : State} → Tallied Exact first rest (Ok tt) old new
    → IsLeft Exact left rest → left ≡ none → Tallied Exact first none (Ok tt) old new
tallied_all t is end = record {
  tally = t.tally;
  sums = λ kind. omega (arith, t.sums kind, none_of kind);
  exact = λ exact. rw (sym (is.exact exact) ∙ end) at (t.exact exact);
  calls = t.calls;
  made = t.made;
  failures = t.failures;
  refused = t.refused;
  some = t.some;
}

-- a call is refused, or not
refusals_of : (old mid new : State) (kind : MediumFault) (t : Tally) (result : Result (Unit {0}) MediumFault) → Passes kind result mid new
    → mid.failures ≡ old.failures + 0 → ((k : MediumFault) → mid.refused k ≡ old.refused k + of_kind none k)
    → (new.failures ≡ old.failures + of_all (refused_by result))
    × ((k : MediumFault) → new.refused k ≡ old.refused k + of_kind (refused_by result) k)
    × ((k : MediumFault) → of_kind (refused_by result) k ≤ of_kind (one_more t kind) k)
refusals_of old mid new kind t (Ok done) call none_failed none_refused = (
  omega (arith, call.failures_are, none_failed),
  kept kind none old.refused mid.refused new.refused none_refused call.others_stay call.refused_are,
  λ k. omega (arith, none_of k),
)
refusals_of old mid new kind t (Err e) call none_failed none_refused = rw call.named (
  omega (arith, call.failures_are, none_failed, more_all none kind),
  raised kind none old.refused mid.refused new.refused none_refused call.others_stay call.refused_are,
  λ k. elim (is_or_other kind k) [
    | inl same ↦ rw same (omega (arith, more_of none kind, more_of t kind, none_of kind))
    | inr other ↦ omega (arith, other.1 none, none_of k)
  ],
)

-- before the first call
pub not_driven : {M S V : Type 0} {state : M → State} {fits : S → ℕ → Type 0} {holds : S → List ℕ → M → V → Type 0}
    {may : V → Image → Type 0} {reads ends : S → ℕ} {cost : S → Tally} {Exact : Type 0}
    → ((s : S) (had : List ℕ) (m : M) (view : V) → holds s had m view → EachCut (may view) (state m))
    → (first : S) (had : List ℕ) (m : M) → IsSound (state m)
    → Driven state fits holds may reads ends cost Exact first had m (Ok tt) first had m
not_driven {state = state} {may = may} {reads = reads} {ends = ends} {cost = cost} leaves first had m sound = record {
  runs = λ view held. (started (may view) (state m) sound (leaves first had m view held), held);
  looks = no_looks (λ s. s < reads first) (state m) (state m) refl;
  spares = spared_start (ends first) (state m) sound;
  rest = cost first;
  tallied = record {
    tally = none;
    sums = λ kind. omega (arith, none_of kind);
    exact = λ e kind. omega (arith, none_of kind);
    calls = omega arith;
    made = λ kind. omega (arith, none_of kind);
    failures = omega arith;
    refused = λ kind. omega (arith, none_of kind);
    some = λ kind. omega arith;
  };
  on = (record { reads_stay = refl; ends_stay = refl; fits_still = λ size fit. fit }, left_all refl);
}

module _ {M S V : Type 0} {state : M → State} {fits : S → ℕ → Type 0} {holds : S → List ℕ → M → V → Type 0}
    {may : V → Image → Type 0} {reads ends : S → ℕ} {cost : S → Tally} {Exact : Type 0} {Due : S → Type 0}
    {After : S → List ℕ → S → Type 0} {Gone : S → S → Type 0}
    (leaves : (s : S) (had : List ℕ) (m : M) (view : V) → holds s had m view → EachCut (may view) (state m))
    {first now : S} {m n o : M} {began had bytes got : List ℕ} {call : Call} (fit : fits first (state m).size)
    (so_far : Driven state fits holds may reads ends cost Exact first began m (Ok tt) now had n)
    (tells : TellsCall state fits holds reads ends cost Exact Due After Gone now had call bytes) {result : Result (Unit {0}) MediumFault}
    (performed : Performed call bytes got result (state n) (state o)) where
  fits_now : fits now (state n).size
  fits_now = rw so_far.spares.moments.size_stays (so_far.on.0.fits_still (state m).size fit)

  next_looks : LooksOnly (λ s. s < reads first) (state m) (state o)
  next_looks =
      let P : ℕ → Type 0 = λ end. LooksOnly (λ s. s < end) (state n) (state o) in
      looks_joined (λ s. s < reads first) (state m) (state n) (state o) so_far.looks
      (subst P so_far.on.0.reads_stay (performed.looks (reads now) tells.looks))

  next_spares : SparesFrom (ends first) (state m) (state o)
  next_spares =
      let P : ℕ → Type 0 = λ end. SparesFrom end (state n) (state o) in
      spared_joined (ends first) (state m) (state n) (state o) so_far.spares
      (subst P so_far.on.0.ends_stay (performed.spares (ends now) tells.within))

  -- one more of the calls that are left
  abbrev tally : Tally
  tally = one_more so_far.tallied.tally (fault_of call)

  next_exact : Exact → (kind : MediumFault) → of_kind tally kind + of_kind tells.rest kind ≡ of_kind (cost first) kind
  next_exact exact kind =
      let left = ap (λ (t : Tally). of_kind t kind) (sym (so_far.on.1.exact exact) ∙ tells.pays) in
      elim (is_or_other (fault_of call) kind) [
        | inl same ↦
            let more = more_of so_far.tallied.tally (fault_of call) in
            let less = more_of tells.rest (fault_of call) in
            let sum = so_far.tallied.exact exact (fault_of call) in
            rw same (omega (arith, more, less, sum, rw same at left))
        | inr other ↦ omega (arith, so_far.tallied.exact exact kind, left, other.1 so_far.tallied.tally, other.1 tells.rest)
      ]

  next_sums : (kind : MediumFault) → of_kind tally kind + of_kind tells.rest kind ≤ of_kind (cost first) kind
  next_sums kind =
      let left = rw tells.pays at (so_far.on.1.most kind) in
      elim (is_or_other (fault_of call) kind) [
        | inl same ↦
            let more = more_of so_far.tallied.tally (fault_of call) in
            let less = more_of tells.rest (fault_of call) in
            let sum = so_far.tallied.sums (fault_of call) in
            rw same (omega (arith, more, less, sum, rw same at left))
        | inr other ↦ omega (arith, so_far.tallied.sums kind, left, other.1 so_far.tallied.tally, other.1 tells.rest)
      ]

  -- they hold what they held, and a cut leaves what it may
  next_runs : {next : S} → ((view : V) → holds first began m view → holds next got o view) → (view : V) → holds first began m view
      → LeavesOnly (may view) (state m) (state o) × holds next got o view
  next_runs {next} held view first = (
    goes_on (may view) (state m) (state n) (state o) (so_far.runs view first).0 performed.passes
        (leaves next got o view (held view first)),
    held view first,
  )

  -- the call was refused, or not
  refusals : ((state o).failures ≡ (state m).failures + of_all (refused_by result))
      × ((kind : MediumFault) → (state o).refused kind ≡ (state m).refused kind + of_kind (refused_by result) kind)
      × ((kind : MediumFault) → of_kind (refused_by result) kind ≤ of_kind tally kind)
  refusals = refusals_of (state m) (state n) (state o) (fault_of call) so_far.tallied.tally result performed.passes
      so_far.tallied.failures so_far.tallied.refused

  next_tally : Tallied Exact (cost first) tells.rest result (state m) (state o)
  next_tally = record {
    tally = tally;
    sums = next_sums;
    exact = next_exact;
    calls = omega (arith, performed.passes.calls_are, so_far.tallied.calls, more_all so_far.tallied.tally (fault_of call));
    made = raised (fault_of call) so_far.tallied.tally (state m).made (state n).made (state o).made so_far.tallied.made
        performed.passes.others_made performed.passes.made_is;
    failures = refusals.0;
    refused = refusals.1;
    some = refusals.2;
  }

  pub driven_call : result ≡ Ok tt → (next : S) → After now got next
      → ((a b : S) (bytes : List ℕ) → Due a → After a bytes b → GoesOn fits reads ends a b)
      → Driven state fits holds may reads ends cost Exact first began m (Ok tt) next got o
  driven_call ok next moved goes =
      let good = rw ok at performed in
      let on = goes now next got tells.due moved in
      record {
        runs = next_runs (λ view held. tells.made n o got view next fits_now (so_far.runs view held).1 good moved);
        looks = next_looks;
        spares = next_spares;
        rest = tells.rest;
        tallied = rw ok at next_tally;
        on = (
          record {
            reads_stay = on.reads_stay ∙ so_far.on.0.reads_stay;
            ends_stay = on.ends_stay ∙ so_far.on.0.ends_stay;
            fits_still = λ size fit. on.fits_still size (so_far.on.0.fits_still size fit);
          },
          tells.rests got next moved,
        );
      }

  pub driven_refused : (e : MediumFault) → result ≡ Err e → (next : S) → Gone now next
      → Driven state fits holds may reads ends cost Exact first began m (Err e) next got o
  driven_refused e err next gone =
      let bad = rw err at performed in
      record {
        runs = next_runs (λ view held. tells.refused n o got view next e fits_now (so_far.runs view held).1 bad gone);
        looks = next_looks;
        spares = next_spares;
        rest = tells.rest;
        tallied = rw err at next_tally;
        on = tt;
      }
