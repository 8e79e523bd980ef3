-- Turns of a store follow one another, what its calls pass on of them, and its own turns, from what the log's calls do.
use Rattle.std.proofs.Common.{rules, ◌≡◌, ℕ, inl, arith, ◌∙◌, refl, subst, Bool, true, false, ◌<◌, ◌+◌, ◌≤◌, ◌*◌, ap, ◌-◌, ◌^◌, inr, List}
use Rattle.std.proofs.{Common.{[], ◌∷◌, length, length-append}, lemmas.Bool.{Decides.nat_tests, cases_Bool}}
use Rattle.std.{proofs.lemmas.List.nil_from_length, specs.Prelude.{Result, Ok, Err}}
use Rattle.medium.proofs.{Moments.{joined_same, weaker, quiet_leaves, quiet_start, unchanged_quiet, started}, SparedSectors.spared_joined}
use Rattle.medium.{proofs.SparedSectors.{spared_quiet, spared_start}, specs.{Medium.{State, IsSound}, Sent.{sent, SendsUpTo}}}
use Rattle.medium.specs.Moments.{EachCut, LeavesOnly, IsQuiet, IsUnchanged}
use Rattle.logical_blocks.specs.{Blocks.{Write, chunks}, Book.Book}
use Rattle.journal.specs.{declared.super_sector.Super.Super, Places.sectors_of}
use Rattle.redo_log.specs.Value.{LogValue, CanPass, IsAway, IsSentHome, HasRoom, begun, died, IsRetireStepped, IsBatch, entries_of}
use Rattle.redo_log.specs.{Value.pass_calls, Steps.{MakesStep, LeavesLog, MakesHeadAhead, MakesHomeAhead}}
use Rattle.redo_log.specs.{Steps.MakesRetireStep, declared.progress.Progress.{TheVariants.{More, Durable}, Progress}}
use Rattle.redo_log.{specs.{declared.fault.LogFault.LogFault, Held.{View, HoldsView, stamps_of}}, proofs.StoreFacts.quiet_held}
use Rattle.redo_log.proofs.{StoreFacts.{died_holds, settled_holds, begun_holds}, HeldLog.many}
use Rattle.theorems.specs.{Retiring.firsts_in, Ahead.{counted, is_covered}, Making.Turns}
use Rattle.theorems.proofs.LogRuns.{run_none, run_then}
use Rattle.cache.specs.{Entries.{Entries, map_of}, Blocks.with_range}
use Rattle.blocks.specs.{StoreValue.{Cached, layout_of, is_dead, FitsBook, steps_left, StoreValue}, Turns.{GoesOn, IsTurn, IsWriteTurn}}
use Rattle.blocks.specs.{Passing.{IsUntouched, PassesOn, PassesPaid, KeepsMedium}, Background.{PassesHead, BringsHome, IsRetiring}}
use Rattle.blocks.{specs.{Finding.{MayFind, Found}, Kept.Invariant}, proofs.BookTurns.{moves, finds, becomes_durable, freezes, appends}}
use Rattle.blocks.proofs.{SectorsRead.{none, looks_on}, LogSteps.{Stays, Made, turn_runs, IsKept, step_runs}}

-- what a cut leaves between two calls may be found
pub exits : (m : State) (s : Cached) (book : Book) → FitsBook m s book → book.ours ≡ true → EachCut (MayFind m.size book) m
exits m s book f ours image cut = finds m s book f image (f.holds.leaves (f.ours ∙ ours) image cut)

-- a turn accepts none of a write
refuses : (w : Write) {before after : State} {old new : Cached} → IsTurn before after old new → IsWriteTurn w false before after old new
refuses w turn = record {
  fits = turn.fits;
  cuts = λ book f ours. weaker _ (Found _ book w) _ _ (λ image found. inl found) (turn.cuts book f ours);
  goes_on = turn.goes_on;
}

module _ (before mid after : State) (old then new : Cached) (first : IsTurn before mid old then) where
  -- one turn after another, and one that accepts a write
  pub turns : IsTurn mid after then new → IsTurn before after old new
  turns second = record {
    fits = λ book f. second.fits book (first.fits book f);
    cuts = λ book f ours. joined_same (MayFind before.size book) before mid after (first.cuts book f ours)
        (subst (λ (n : ℕ). LeavesOnly (MayFind n book) mid after) first.goes_on.size_stays (second.cuts book (first.fits book f) ours));
    goes_on = grind (arith, spared_joined, cases_Bool, first, second.goes_on);
  }

  pub then_written : (w : Write) → IsWriteTurn w true mid after then new → IsWriteTurn w true before after old new
  then_written w second = record {
    fits = λ book f. second.fits book (first.fits book f);
    cuts = λ book f ours. joined_same (Found before.size book w) before mid after ((refuses w first).cuts book f ours)
        (subst (λ (n : ℕ). LeavesOnly (Found n book w) mid after) first.goes_on.size_stays (second.cuts book (first.fits book f) ours));
    goes_on = grind (arith, spared_joined, cases_Bool, first, second.goes_on);
  }

-- calls that wrote nothing, and changed nothing that the store keeps
pub quiet_turn : (before after : State) (s : Cached) → IsSound before → IsQuiet before after → IsTurn before after s s
quiet_turn before after s sound quiet = record {
  fits = λ book f. moves f (quiet_held s.log f.view before after quiet f.holds) refl f.under_way f.some refl refl refl;
  cuts = λ book f ours. quiet_leaves (MayFind before.size book) before after sound (exits before s book f ours) quiet;
  goes_on = let spares = spared_quiet (sectors_of (layout_of s)) before after sound quiet in grind (arith, quiet, spares);
}

-- nothing has happened
pub stays : (m : State) (s : Cached) → IsSound m → IsTurn m m s s
stays m s sound = quiet_turn m m s sound (quiet_start m)

-- a call that is none of the medium
pub untouched : {M : Type 0} {state : M → State} {m n : M} {s : Cached} {ahead : Bool} → IsSound (state m)
    → IsUnchanged (state m) (state n) → IsUntouched state (record { medium = m; cached = s; goes_ahead = ahead })
    (record { medium = n; cached = s; goes_ahead = ahead })
untouched sound same = search (rules, arith, quiet_turn, unchanged_quiet)

-- ---- what the calls of a store pass on, one after another

-- one turn without a call, and then one that accepts a write
pub written_on : {M : Type 0} {state : M → State} {Follows : M → M → Type 0} {w : Write} {old mid new : StoreValue M}
    → KeepsMedium state Follows IsTurn old mid → KeepsMedium state Follows (IsWriteTurn w true) mid new
    → KeepsMedium state Follows (IsWriteTurn w true) old new
written_on first last = let runs = run_then first.runs last.runs in grind (arith, then_written, first, last, runs)

module _ {M : Type 0} {state : M → State} {Follows : M → M → Type 0} where
  -- no call was made
  pub kept_on : {Turn : State → State → Cached → Cached → Type 0} {most sends : ℕ} {old new : StoreValue M} → ((m : M) → Follows m m)
      → KeepsMedium state Follows Turn old new → PassesOn state Follows Turn most sends old new
  kept_on {old = old} {new = new} itself keeps = grind (arith, none)

  -- and no step more is left
  pub kept_paid : {sends : ℕ} {old new : StoreValue M} → ((m : M) → Follows m m) → KeepsMedium state Follows IsTurn old new
      → (is_dead new.cached ≡ false → steps_left new.cached ≤ steps_left old.cached) → PassesPaid state Follows sends old new
  kept_paid {sends = sends} {old = old} {new = new} itself keeps fewer = search (rules, arith, kept_on)

  -- and then others were
  pub kept_then : {most sends : ℕ} {old mid new : StoreValue M} → KeepsMedium state Follows IsTurn old mid
      → PassesOn state Follows IsTurn most sends mid new → PassesOn state Follows IsTurn most sends old new
  kept_then {old = old} {mid = mid} {new = new} keeps made =
      let looks = looks_on _ _ _ _ _ keeps.turn.goes_on (none _ _ old.cached (ap (λ m. (state m).looked) keeps.medium)) made.looks in
      let runs = run_then keeps.runs made.runs in
      grind (arith, keeps.policy, turns _ _ _ _ _ _ keeps.turn made.turn, looks, (rw keeps.medium at made), runs)

  -- nothing was done, as a record of each kind tells it
  pub rested_on : {most sends : ℕ} (old : StoreValue M) → ((m : M) → Follows m m) → ((m : M) → IsSound (state m))
      → PassesOn state Follows IsTurn most sends old old
  rested_on old itself sound =
      kept_on itself (record { turn = stays _ _ (sound old.medium); medium = refl; runs = run_none; policy = refl })

  pub rested_paid : {sends : ℕ} {old : StoreValue M} → ((m : M) → Follows m m) → ((m : M) → IsSound (state m))
      → PassesPaid state Follows sends old old
  rested_paid {old = old} itself sound =
      kept_paid itself (record { turn = stays _ _ (sound old.medium); medium = refl; runs = run_none; policy = refl }) (omega arith)

  -- one call after another, with so many writes and flushes in all
  pub paid_then : {first last all : ℕ} {old mid new : StoreValue M} → ((m n k : M) → Follows m n → Follows n k → Follows m k)
      → PassesPaid state Follows first old mid → is_dead mid.cached ≡ false → PassesPaid state Follows last mid new
      → SendsUpTo all (state old.medium) (state new.medium) → PassesPaid state Follows all old new
  paid_then {old = old} {mid = mid} {new = new} through one live two sent =
      let runs = run_then one.runs two.runs in search (rules, arith, turns, looks_on)

  -- as a write that is refused tells it, and one that takes place without a call
  pub paid_refused : {w : Write} {sends : ℕ} {old new : StoreValue M} → PassesPaid state Follows sends old new
      → PassesOn state Follows (IsWriteTurn w false) (2 * steps_left old.cached) sends old new
  paid_refused {w = w} paid = grind (arith, paid, refuses w paid.turn)

  pub paid_written : {w : Write} {sends : ℕ} {old mid new : StoreValue M} → PassesPaid state Follows sends old mid
      → is_dead mid.cached ≡ false → KeepsMedium state Follows (IsWriteTurn w true) mid new
      → PassesOn state Follows (IsWriteTurn w true) (2 * steps_left old.cached) sends old new
  paid_written {w = w} paid live keeps =
      let runs = run_then paid.runs keeps.runs in
      grind (arith, paid, live, keeps.medium, keeps.policy, then_written _ _ _ _ _ _ paid.turn w keeps.turn, runs)

  -- a step of at most two calls, where one was left
  pub on_paid : {most sends : ℕ} {old new : StoreValue M} → 0 < steps_left old.cached
      → (is_dead new.cached ≡ false → steps_left new.cached < steps_left old.cached)
      → (state new.medium).calls ≤ (state old.medium).calls + 2 → PassesOn state Follows IsTurn most sends old new
      → PassesPaid state Follows sends old new
  on_paid {old = old} {new = new} some falls calls on = grind (arith, on, some, falls, calls)

  -- more writes and flushes are allowed
  pub paid_more : {few many : ℕ} {old new : StoreValue M} → PassesPaid state Follows few old new
      → SendsUpTo many (state old.medium) (state new.medium) → PassesPaid state Follows many old new
  paid_more paid sent = grind (arith, paid, sent)

-- what a cut may leave at any moment of it may be found, and it is a turn
turned : {before after : State} {s new : Cached} → ((book : Book) → FitsBook before s book → FitsBook after new book)
    → LeavesLog s.log before after → GoesOn before after s new → IsTurn before after s new
turned {before} {after} {s} fits leaves goes_on = record {
  fits = fits;
  cuts = λ book f ours. weaker _ (MayFind before.size book) before after (λ image left. finds before s book f image left)
      (leaves.cuts f.view f.holds (f.ours ∙ ours));
  goes_on = goes_on;
}

-- the medium is refused it, and the log is dead
dies : (before after : State) (s : Cached) (log' : LogValue) → log' ≡ died s.log → after.failures ≡ before.failures + 1
    → after.size ≡ before.size → ((book : Book) (f : FitsBook before s book) → HoldsView log' after f.view) → LeavesLog s.log before after
    → IsTurn before after s (record s { log = log' })
dies before after s log' is grew size holds leaves =
    turned (λ book f. moves f (holds book f) refl (rw is f.under_way) (rw is f.some) refl (rw is refl) (rw is refl)) leaves
    (grind (arith, leaves.spares, is, grew, size))

-- what was true of the store's fields is so where the log died
pub died_kept : {before after : ℕ} {sizes : Super} {s : Cached} {log' : LogValue} {writing ahead : Bool} → after ≡ before
    → log' ≡ died s.log → Invariant before sizes s writing ahead → Invariant after sizes (record s { log = log' }) writing ahead
died_kept same is k = rw is (grind (arith, same, k))

-- a view that differs in its records at most
abbrev pub KeepsArray : (View → View) → Type 0
KeepsArray after = (v : View) → ((after v).array ≡ v.array) × ((after v).under_way ≡ v.under_way) × ((after v).ours ≡ v.ours)

module _ {M : Type 0} {state : M → State} {Follows : M → M → Type 0} {None Done : Type 0} {count sends flushes : ℕ} {after : View → View}
    {m n : M} {s : Cached} {log' : LogValue} where
  -- it is a turn
  turn_made : (result : Result (Unit {0}) LogFault) → Made state Follows None Done count sends flushes after result s.log log' m n
      → KeepsArray after → (Done → Stays s.log log') → IsTurn (state m) (state n) s (record s { log = log' })
  turn_made (Ok x) called same stays =
      let stay = stays called.answers.ok in
      turned (λ book f. moves f (called.holds f.view f.holds) (same f.view).0 (rw (stay.steps, (same f.view).1) f.under_way)
      (rw stay.steps f.some) (same f.view).2 stay.shape stay.stamp) called.leaves
      (grind (arith, called.leaves.spares, called.passes.failures, called.passes.size, stay))
  turn_made (Err e) called same stays = dies (state m) (state n) s log' called.answers.err called.passes.failures called.passes.size
      (λ book f. called.holds f.view f.holds) called.leaves

  -- what was true of the store's fields is so still
  pub turn_kept : (result : Result (Unit {0}) LogFault) → Made state Follows None Done count sends flushes after result s.log log' m n
      → (Done → Stays s.log log') → {sizes : Super} {writing ahead : Bool} → s.log.steps_left ≡ 0
      → Invariant (state m).size sizes s writing ahead → Invariant (state n).size sizes (record s { log = log' }) writing ahead
  turn_kept (Ok x) called stays idle k = let stay = stays called.answers.ok in grind (arith, called.passes.size, idle, stay, k)
  turn_kept (Err e) called stays idle k = died_kept called.passes.size called.answers.err k

  module _ (ahead : Bool) (result : Result (Unit {0}) LogFault)
      (called : Made state Follows None Done count sends flushes after result s.log log' m n) (same : KeepsArray after)
      (stays : Done → Stays s.log log') (live : is_dead s ≡ false) (makes : Turns state Follows s.log m result log' n) where
    pub passes_turn : {most : ℕ} → sends ≤ most
        → PassesOn state Follows IsTurn 2 most (record { medium = m; cached = s; goes_ahead = ahead })
        (record { medium = n; cached = record s { log = log' }; goes_ahead = ahead })
    passes_turn few = let runs = turn_runs result called stays live makes in grind (arith, nat_tests, turn_made, runs)

    pub paid_turn : {most : ℕ} → sends ≤ most → count ≤ 2 * steps_left s
        → (Done → count + 2 * steps_left (record s { log = log' }) ≤ 2 * steps_left s)
        → PassesPaid state Follows most (record { medium = m; cached = s; goes_ahead = ahead })
        (record { medium = n; cached = record s { log = log' }; goes_ahead = ahead })
    paid_turn {most} few some fewer =
        let on = passes_turn {most = most} few in grind (arith, on, called.answers, called.passes.calls.most, some, fewer)

-- a step of the record under way, which is the frozen batch; after its last one that batch is emptied
abbrev stepped : Result Progress LogFault → Cached → LogValue → Entries → Cached
stepped (Ok More) s log' none = record s { log = log' }
stepped (Ok Durable) s log' none = record { log = log'; active = s.active; frozen = none }
stepped (Err e) s log' none = record s { log = log' }

step_turn : {M : Type 0} {state : M → State} {Follows : M → M → Type 0} {m n : M} (result : Result Progress LogFault) (s : Cached)
    (log' : LogValue) (none : Entries) → none.numbers ≡ [] → 0 < s.log.steps_left
    → MakesStep state Follows (entries_of s.frozen.numbers s.frozen.bytes) result s.log log' m n
    → IsTurn (state m) (state n) s (stepped result s log' none)
step_turn (Ok More) s log' none empty some called =
    let is = called.answers.ok.1 in
    turned (λ book f. moves f (called.holds f.view f.holds (f.under_way some)) refl (λ more. f.under_way some) (λ more. f.some some) refl
    (rw is refl) (rw is refl)) called.leaves (grind (arith, called.leaves.spares, called.passes.failures, called.passes.size, is))
step_turn (Ok Durable) s log' none empty some called =
    let is = called.answers.ok.1 in
    turned (λ book f. becomes_durable f some empty (called.holds f.view f.holds (f.under_way some)) (rw is refl) (rw is refl)
    (rw is (length-append s.log.waiting (s.log.under_way ∷ []))) (rw is refl)) called.leaves
    (grind (arith, called.leaves.spares, called.passes.failures, called.passes.size, is))
step_turn {state = state} {m = m} {n = n} (Err e) s log' none empty some called =
    dies (state m) (state n) s log' called.answers.err called.passes.failures called.passes.size
    (λ book f. called.holds f.view f.holds (f.under_way some)) called.leaves

pub passes_step : {M : Type 0} {state : M → State} {Follows : M → M → Type 0} {m n : M} (ahead : Bool) (result : Result Progress LogFault)
    (s : Cached) (log' : LogValue) (none : Entries) → none.numbers ≡ [] → 0 < s.log.steps_left
    → is_dead s ≡ false → IsKept s
    → MakesStep state Follows (entries_of s.frozen.numbers s.frozen.bytes) result s.log log' m n
    → PassesOn state Follows IsTurn 1 1 (record { medium = m; cached = s; goes_ahead = ahead })
    (record { medium = n; cached = stepped result s log' none; goes_ahead = ahead })
passes_step ahead (Ok More) s log' none empty some live kept called =
    let runs = step_runs (Ok More) s log' live kept some called in
    grind (arith, step_turn (Ok More) s log' none empty some called, called.answers, called.passes, called.leaves.looks, runs)
passes_step ahead (Ok Durable) s log' none empty some live kept called =
    let runs = step_runs (Ok Durable) s log' live kept some called in
    grind (arith, step_turn (Ok Durable) s log' none empty some called, called.answers, called.passes, called.leaves.looks, runs)
passes_step ahead (Err e) s log' none empty some live kept called =
    let runs = step_runs (Err e) s log' live kept some called in
    grind (arith, step_turn (Err e) s log' none empty some called, called.answers, called.passes, called.leaves.looks, runs)

-- ---- where no call is made

module _ (m : State) (sound : IsSound m) (s : Cached) where
  still_found : (book : Book) → FitsBook m s book → book.ours ≡ true → LeavesOnly (MayFind m.size book) m m
  still_found book f ours = started (MayFind m.size book) m sound (exits m s book f ours)

  in_place : {new : Cached} → new.log.shape ≡ s.log.shape → new.log.keeps ≡ s.log.keeps → new.log.dead ≡ s.log.dead
      → ((book : Book) → FitsBook m s book → FitsBook m new book) → IsTurn m m s new
  in_place {new} shape keeps dead fits = record {
    fits = fits;
    cuts = still_found;
    goes_on = let spares = spared_start (sectors_of (layout_of s)) m sound in grind (arith, shape, keeps, dead, spares);
  }

  -- a flush is counted, or none is
  pub counts_turn : (log' : LogValue) → log' ≡ counted s.log → IsTurn m m s (record s { log = log' })
  counts_turn log' is = elim (cases_Bool (is_covered s.log)) [
    | inl covers ↦ rw (is, covers) (in_place refl refl refl (λ book f.
        moves f (settled_holds s.log m f.view f.holds (grind (arith, nat_tests, covers))) refl f.under_way f.some refl refl refl))
    | inr uncovered ↦ rw (is, uncovered) (in_place refl refl refl (λ book f. f))
  ]

  -- the record of the frozen batch is begun
  pub begins_record : HasRoom s.log → IsBatch s.log.shape s.frozen.numbers s.frozen.bytes → IsTurn m m s
      (record s { log = begun s.frozen.numbers (firsts_in s.frozen) s.frozen.bytes s.log })
  begins_record room batch = in_place refl refl refl
      (λ book f. moves f (begun_holds _ _ _ _ _ f.holds room batch) refl (λ some. refl) (λ some. grind (arith, batch.some)) refl refl refl)

  -- no stamp is left for it, and the log is dead
  pub begins_nothing : HasRoom s.log → 0 < length s.frozen.numbers → s.log.next ≡ 2 ^ 63 - 1 → IsTurn m m s (record s { log = died s.log })
  begins_nothing room some last =
      let out : (book : Book) → FitsBook m s book → 2 ^ 63 - 1 ≤ book.stamp + length book.writes = λ book f.
      omega (arith, f.stamps, f.holds.next, many f.holds, last, ap (λ (l : List ℕ). stamps_of l) room.none_under_way) in
      let spares = spared_start (sectors_of (layout_of s)) m sound in
      search (rules, arith, out, spares, still_found, moves, died_holds)

  -- the active batch is frozen in place of an empty one
  pub freezes_active : s.log.steps_left ≡ 0 → s.frozen.numbers ≡ [] → IsTurn m m s (record s { active = s.frozen; frozen = s.active })
  freezes_active idle empty = in_place refl refl refl (λ book f. freezes idle empty f)

  -- the active batch takes a write
  pub appends_write : (more : Entries) (address : ℕ) (bytes : List ℕ) (count : ℕ)
      → ((b : ℕ) → map_of more b ≡ with_range (map_of s.active) address count bytes b)
      → (let w : Write = record { address = address; blocks = chunks count bytes } in IsWriteTurn w true m m s (record s { active = more }))
  appends_write more address bytes count put = let w : Write = record { address = address; blocks = chunks count bytes } in record {
    fits = λ book f. appends more address bytes count put f;
    cuts = λ book f ours. weaker (MayFind m.size book) (Found m.size book w) m m (λ image found. inl found) (still_found book f ours);
    goes_on = let spares = spared_start (sectors_of (layout_of s)) m sound in grind (arith, spares);
  }

-- where no step is left both batches are empty, and every write is durable
pub nothing_left : (s : Cached) → steps_left s ≡ 0 → (s.frozen.numbers ≡ []) × (s.active.numbers ≡ [])
nothing_left s none = grind (arith, nil_from_length s.frozen.numbers, nil_from_length s.active.numbers)

-- ---- what the calls of the log that bring its oldest record on make of a store, and what they cost

-- a step of the store fewer is left, or as many, and a call is made only where one is left
pub past_fewer : (s : Cached) (log' : LogValue) → ((CanPass s.log → ⊥) → log' ≡ s.log) → (CanPass s.log → IsRetireStepped s.log log')
    → pass_calls s.log + 2 * steps_left (record s { log = log' }) ≤ 2 * steps_left s
past_fewer s log' none some = grind (arith, nat_tests)

pub home_fewer : (s : Cached) (log' : LogValue) → IsAway s.log → IsSentHome s.log log' → steps_left (record s { log = log' }) < steps_left s
home_fewer s log' away sent = grind (arith, nat_tests)

module _ {M : Type 0} {state : M → State} {Follows : M → M → Type 0} {m n : M} {s : Cached} {log' : LogValue}
    (live : is_dead s ≡ false) (result : Result (Unit {0}) LogFault) where
  pub passes_head : MakesHeadAhead state Follows result s.log log' m n → s.log.steps_left ≡ 0
      → PassesHead (state m) (state n) s (record s { log = log' })
  passes_head called idle = grind (arith, nat_tests, called.answers, called.none, called.passes)

  pub brings_home : MakesHomeAhead state Follows result s.log log' m n → IsAway s.log → s.log.steps_left ≡ 0
      → BringsHome (state m) (state n) s (record s { log = log' })
  brings_home called away idle = grind (arith, nat_tests, called.answers, called.passes)

  pub is_retiring : MakesRetireStep state Follows result s.log log' m n → IsRetiring (state m) (state n) s (record s { log = log' })
  is_retiring called = grind (arith, called.answers, called.none, called.passes)
