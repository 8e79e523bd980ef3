-- Calls that lie in a ring, and what a device is to do for the first of them.
use Rattle.std.proofs.Common.{◌≡◌, ◌≢◌, ◌<◌, ◌≤◌, ◌+◌, ◌-◌, ◌*◌, ◌/◌, ℕ, zero, suc, List, [], ◌∷◌, ◌++◌, length, take, drop}
use Rattle.std.proofs.Common.{refl, sym, ◌∙◌, ap, inl, inr, min, Some, arith, append_assoc, add-one, add-zero, add-suc, length-append}
use Rattle.std.proofs.Common.{slice_index_or, slice_set, get_or-set_other, get_or-set_same}
use Rattle.std.proofs.Math.Seq.{drop-append_seam}
use Rattle.std.proofs.lemmas.Bool.{cases_lt}
use Rattle.std.proofs.lemmas.Bool.Decides.{nat_tests}
use Rattle.std.proofs.lemmas.List.{append-nil, take-append-le, take_all, drop_all, get_or_default}
use Rattle.std.specs.Prelude.{vec_len}
use Rattle.medium.specs.{Medium.Holds, Writes.sector_of}
use Rattle.window.specs.{OutboxMedium.first_of, Queue.Queue, Ring.{call_by, place_of, kind_at, call_in, calls_by, calls_in}}
use Rattle.window.specs.Runs.{IsTo, writes_of, CopiesRun}
use Rattle.window.specs.declared.call.DeviceCall.{DeviceCall}
use Rattle.window.specs.declared.call.DeviceCall.TheVariants.{Write}
use Rattle.window.specs.declared.outbox.Kind.{Kind}
use Rattle.window.specs.declared.outbox.Kind.TheVariants as kind
use Rattle.window.specs.declared.outbox.Outbox.TheInside.{Inside}

pub length_calls : (count : ℕ) (call : ℕ → DeviceCall) → length (calls_by count call) ≡ count
length_calls zero call = refl
length_calls (suc count) call = omega (arith, length_calls count call, length-append (calls_by count call) (call count ∷ []))

same_calls : (count : ℕ) (f g : ℕ → DeviceCall) → ((i : ℕ) → i < count → f i ≡ g i) → calls_by count f ≡ calls_by count g
same_calls zero f g same = refl
same_calls (suc count) f g same =
    rw (same_calls count f g (λ i lt. same i (omega (arith, lt))), same count (omega arith)) refl

-- the first of them, and those behind
parted : (k count : ℕ) (call : ℕ → DeviceCall) → calls_by (k + count) call ≡ calls_by k call ++ calls_by count (λ i. call (k + i))
parted k zero call = rw (add-zero k) (sym (append-nil (calls_by k call)))
parted k (suc count) call = rw (add-suc k count, parted k count call)
    (append_assoc (calls_by k call) (calls_by count (λ i. call (k + i))) (call (k + count) ∷ []))

first_calls : (k count : ℕ) (call : ℕ → DeviceCall) → k ≤ count → take k (calls_by count call) ≡ calls_by k call
first_calls k count call le =
    let sum : count ≡ k + (count - k) = omega arith in
    let long = length_calls k call in
    rw (sum, parted, take-append-le k (calls_by k call) (calls_by (count - k) (λ i. call (k + i))) (omega arith))
    (take_all k (calls_by k call) (omega arith))

other_calls : (k count : ℕ) (call : ℕ → DeviceCall) → drop k (calls_by (k + count) call) ≡ calls_by count (λ i. call (k + i))
other_calls k count call =
    rw (parted k count call) (rw (length_calls k call) at (drop-append_seam (calls_by k call) (calls_by count (λ i. call (k + i)))))

first_stays : (calls more : List DeviceCall) (call : DeviceCall) → first_of calls ≡ Some call → first_of (calls ++ more) ≡ Some call
first_stays [] more call is = cc
first_stays (first ∷ calls) more call is = is

begins_with : (count : ℕ) (call : ℕ → DeviceCall) → first_of (calls_by (suc count) call) ≡ Some (call 0)
begins_with zero call = refl
begins_with (suc count) call = first_stays (calls_by (suc count) call) (call (suc count) ∷ []) (call 0) (begins_with count call)

-- the call that waits behind k others
next_is : (k count : ℕ) (call : ℕ → DeviceCall) → k < count → first_of (drop k (calls_by count call)) ≡ Some (call k)
next_is k count call lt =
    let sum : count ≡ k + suc (count - k - 1) = omega arith in
    rw (sum, other_calls) (begins_with (count - k - 1) (λ i. call (k + i)) ∙ ap (λ (n : ℕ). Some (call n)) (add-zero k))

are_writes : (count first : ℕ) (call : ℕ → DeviceCall) (filled : List ℕ)
    → ((i : ℕ) → i < count → call i ≡ Write (record { sector = first + i; block = sector_of filled i }))
    → calls_by count call ≡ writes_of count first filled
are_writes zero first call filled are = refl
are_writes (suc count) first call filled are =
    rw (are_writes count first call filled (λ i lt. are i (omega (arith, lt))), are count (omega arith)) refl

other : (what : Kind) (block : List ℕ) (sector : ℕ) → ¬ (what ≡ kind.Write sector) → ¬ IsTo sector (Some (call_by what block))
other (kind.Write s) block sector not = λ to. not (ap (λ (n : ℕ). kind.Write n) to)
other kind.Flush block sector not = λ to. to

abbrev pub queue : ℕ → List DeviceCall → Queue
queue room calls = record { items = calls; room = room }

module _ (m : Inside) where
  abbrev place : ℕ → ℕ
  place at = place_of (vec_len m.kinds) m.head at

  abbrev call : ℕ → DeviceCall
  call at = call_in m.kinds.items m.blocks.bytes.items (place at)

  abbrev waits : List DeviceCall
  waits = calls_in (vec_len m.kinds) m.kinds.items m.blocks.bytes.items m.head m.count

  there : (at : ℕ) → at < vec_len m.kinds → place at < length m.kinds.items
  there at lt = grind (arith, nat_tests, m.starts, m.kinds.ok)

  -- the first one leaves
  pub left : (next : ℕ) → 0 < m.count → next ≡ place 1
      → calls_in (vec_len m.kinds) m.kinds.items m.blocks.bytes.items next (m.count - 1) ≡ drop 1 waits
  left next some is =
      let sum : 1 + (m.count - 1) ≡ m.count = omega arith in
      same_calls (m.count - 1) (λ at. call_in m.kinds.items m.blocks.bytes.items (place_of (vec_len m.kinds) next at)) (λ at. call (1 + at))
      (λ at lt. let moved : place_of (vec_len m.kinds) next at ≡ place (1 + at) = grind (arith, nat_tests, m.starts, m.fits) in
      rw moved refl) ∙ sym (rw sum at (other_calls 1 (m.count - 1) call))

  -- one of them, as it is read
  pub one_call : (at p first size : ℕ) (what : Kind) (block : List ℕ) → at < m.count → p ≡ place at
      → what ≡ slice_index_or m.kinds.items p what
      → first ≡ 512 * p → size ≡ 512 → block ≡ take size (drop first m.blocks.bytes.items)
      → take (at + 1) waits ≡ take at waits ++ call_by what block ∷ []
  one_call at p first size what block lt is read start long same =
      let last : call at ≡ call_by what block = rw (
        ← is,
        same,
        start,
        long,
        get_or_default m.kinds.items p kind.Flush what (rw is (there at (omega (arith, m.fits)))),
      )
      (ap (λ (k : Kind). call_by k (sector_of m.blocks.bytes.items p)) (sym read)) in
      rw (add-one, first_calls (suc at) m.count call (omega arith), first_calls at m.count call (omega arith), last) refl

  -- one more waits, at the first free place
  pub pushed : (p : ℕ) (what : Kind) (block filled : List ℕ) → p ≡ place m.count → m.count < vec_len m.kinds
      → Holds p block (sector_of m.blocks.bytes.items) (sector_of filled)
      → calls_in (vec_len m.kinds) (slice_set m.kinds.items p what) filled m.head (m.count + 1) ≡ waits ++ call_by what block ∷ []
  pushed p what block filled is fits stored =
      let before = same_calls m.count (λ at. call_in (slice_set m.kinds.items p what) filled (place at)) call
      (λ at lt. let free : place at ≢ p = grind (arith, nat_tests, m.starts) in
      rw (get_or-set_other m.kinds.items p (place at) what kind.Flush free, stored.elsewhere (place at) free) refl) in
      let last = get_or-set_same m.kinds.items p what kind.Flush (rw is (there m.count fits)) in
      rw (add-one, before, ← is, last, stored.here) refl

  -- what is to be done first, as it is read
  pub read_first : (p : ℕ) (read what : Kind) → 0 < m.count → p ≡ place 0 → read ≡ slice_index_or m.kinds.items p read
      → read ≡ what → kind_at m.kinds.items m.head 0 ≡ what
  read_first p read what some is here same =
      rw (← m.kinds.ok.0, ← is, get_or_default m.kinds.items p kind.Flush read (rw is (there 0 (omega (arith, m.fits))))) (sym here ∙ same)

  kind_is : (i : ℕ) (what : Kind) → kind_at m.kinds.items m.head i ≡ what → call i ≡ call_by what (sector_of m.blocks.bytes.items (place i))
  kind_is i what is = let here : slice_index_or m.kinds.items (place i) kind.Flush ≡ what = rw (← m.kinds.ok.0) at is in rw here refl

  pub first_is : (what : Kind) → 0 < m.count → kind_at m.kinds.items m.head 0 ≡ what
      → first_of waits ≡ Some (call_by what (sector_of m.blocks.bytes.items (place 0)))
  first_is what some is = next_is 0 m.count call some ∙ ap (λ (c : DeviceCall). Some c) (kind_is 0 what is)

  pub copies_run : (first told : ℕ) (to filled : List ℕ) → 0 < m.count → kind_at m.kinds.items m.head 0 ≡ kind.Write first
      → told ≤ min m.count (length to / 512) → ((i : ℕ) → i < told → kind_at m.kinds.items m.head i ≡ kind.Write (first + i))
      → (told < min m.count (length to / 512) → ¬ (kind_at m.kinds.items m.head told ≡ kind.Write (first + told)))
      → ((i : ℕ) → i < told
      → sector_of filled i ≡ sector_of m.blocks.bytes.items (place_of (length m.blocks.bytes.items / 512) m.head i))
      → ((i : ℕ) → told ≤ i → sector_of filled i ≡ sector_of to i) → CopiesRun waits first told to filled
  copies_run first told to filled some begins most run ends copied behind =
      let whole : length m.blocks.bytes.items / 512 ≡ vec_len m.kinds = omega (arith, m.whole) in record {
        begins = rw (first_is (kind.Write first) some begins) refl;
        writes = first_calls told m.count call (omega arith) ∙ are_writes told first call filled
            (λ i lt. let same = rw whole at (copied i lt) in rw (kind_is i (kind.Write (first + i)) (run i lt), same) refl);
        behind = behind;
        most = omega arith;
        ends = elim (cases_lt told (min m.count (length to / 512))) [
          | inl less ↦ inr (rw (next_is told m.count call (omega arith))
              (other _ (sector_of m.blocks.bytes.items (place told)) (first + told)
              (rw (← m.kinds.ok.0) at (ends less))))
          | inr all ↦ elim (cases_lt m.count (length to / 512)) [
            | inl fewer ↦ inr (rw (drop_all told waits (omega (arith, length_calls m.count call))) (λ to. to))
            | inr full ↦ inl (omega arith)
          ]
        ];
      }
