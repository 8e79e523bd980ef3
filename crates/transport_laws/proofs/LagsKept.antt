-- A life of a disk whose device may be behind is one of a disk that acts on each packet at once.
use Rattle.std.proofs.Common.{◌≡◌, ◌≤◌, arith, ℕ, Bool, true, List, [], ◌∷◌, ◌++◌, inl, inr, map, refl, sym, subst, ap, ◌∙◌}
use Rattle.std.specs.Prelude.{Option, Some, None}
use Rattle.logical_blocks.specs.Book.{Book}
use Rattle.scsi.specs.Rules.{UnitState}
use Rattle.spec.specs.declared.event.{Event.Event, Answer.Answer}
use Rattle.spec.specs.declared.event.Answer.TheVariants as answer
use Rattle.spec.specs.declared.event.Event.TheVariants as event
use Rattle.spec.specs.{Conversation.{Conversation, refused_events}, UnitConversation.{UnitRun, write_of_event}, Lagging.{Lagging, settled}}
use Rattle.spec.specs.Lives.{Presentation, Action, plays, between, runs, off, Standing, Remains, LivesRun}
use Rattle.spec.specs.{Lives.{after_cut, LifeBegins, StartsAt, Opens, KeepsLimit}, Disks.{prompt_disk, started, pending_write, event_write}}
use Rattle.transport_laws.specs.{HiddenLag.{UndroppedRun, Transaction, outs}, KeptLag.{Beginning, place_at, standing_at, undropped_disk}}
use Rattle.transport_laws.specs.KeptLag.{acknowledged, lost_in, lost_answers, lost_refusals, KeptAtOnce, LagsAreKept}
use Rattle.transport_laws.proofs.PacketsHidden.{due, Left, at, hidden}

-- where power is off it stays off
stays_off : (disk : Presentation) (events : List Event) (remains : Remains) (armed : Bool) (limit : ℕ) (answers : List Answer)
    (refusals : List Bool) (here : Standing undropped_disk) (now : Lagging UnitState)
    → LivesRun disk (record { place = off remains; armed = armed; limit = limit }) (map plays events) answers refusals here
    → here.place ≡ runs now → ⊥
stays_off disk [] remains armed limit answers [] here now run is =
    let e : off remains ≡ runs now = sym (ap (λ (s : Standing undropped_disk). s.place) run.1) ∙ is in cc
stays_off disk (happens ∷ events) remains armed limit answers (refused ∷ refusals) here now run is =
    stays_off disk events remains armed limit run.2 refusals here now
    (subst (λ (s : Standing undropped_disk). LivesRun disk s (map plays events) run.2 refusals here) run.4.2.1 run.5) is
stays_off disk events remains armed limit answers refusals here now run is = absurd run

-- the events of lives that end where a disk runs
lag_run : (disk : Presentation) (events : List Event) (old : Lagging UnitState) (armed : Bool) (limit : ℕ) (answers : List Answer)
    (refusals : List Bool) (here : Standing undropped_disk) (now : Lagging UnitState)
    → LivesRun disk (record { place = runs old; armed = armed; limit = limit }) (map plays events) answers refusals here
    → here.place ≡ runs now → UndroppedRun old events answers refusals now
lag_run disk [] old armed limit answers [] here now run is =
    let e : runs old ≡ runs now = sym (ap (λ (s : Standing undropped_disk). s.place) run.1) ∙ is in
    subst (λ (l : List Answer). UndroppedRun old [] l [] now) (sym run.0) cc
lag_run disk (happens ∷ events) old armed limit answers (refused ∷ refusals) here now
    (mid, one, later, split, (given, is_one, inl ends), rest) is =
    let next = lag_run disk events ends.later armed limit later refusals here now
    (subst (λ (s : Standing undropped_disk). LivesRun disk s (map plays events) later refusals here) ends.after rest) is in
    subst (λ (l : List Answer). UndroppedRun old (happens ∷ events) l (refused ∷ refusals) now)
    (sym (split ∙ ap (λ (l : List Answer). l ++ later) is_one)) (ends.later, ends.step, next)
lag_run disk (happens ∷ events) old armed limit answers (refused ∷ refusals) here now
    (mid, one, later, split, (given, is_one, inr cut), rest) is =
    absurd (stays_off disk events _ armed limit later refusals here now
    (subst (λ (s : Standing undropped_disk). LivesRun disk s (map plays events) later refusals here) cut.goes.after rest) is)
lag_run disk events old armed limit answers refusals here now run is = absurd run

-- lives of a disk that acts on each packet at once, by events and what comes behind them
at_once : (disk : Presentation) (plain : List Event) (old new : Conversation UnitState) (armed : Bool) (limit : ℕ) (reported : List Answer)
    (refused : List Bool) (actions : List Action) (answers : List Answer) (refusals : List Bool) (last : Standing prompt_disk)
    → UnitRun old plain reported refused new
    → LivesRun disk (record { place = runs new; armed = armed; limit = limit }) actions answers refusals last
    → LivesRun disk (record { place = runs old; armed = armed; limit = limit }) (map plays plain ++ actions) (reported ++ answers)
    (refused ++ refusals) last
at_once disk [] old new armed limit [] [] actions answers refusals last run rest =
    subst (λ (c : Conversation UnitState). LivesRun disk (record { place = runs c; armed = armed; limit = limit }) actions answers refusals
    last)
    run rest
at_once disk (happens ∷ plain) old new armed limit (a ∷ reported) (r ∷ refused) actions answers refusals last run rest = (
  record { place = runs run.0; armed = armed; limit = limit },
  a ∷ [],
  reported ++ answers,
  refl,
  (a, refl, inl (record { later = run.0; step = run.1; after = refl })),
  at_once disk plain run.0 new armed limit reported refused actions answers refusals last run.2 rest,
)
at_once disk plain old new armed limit reported refused actions answers refusals last run rest = absurd run

-- power goes in the event of what is pending
abbrev lost_at : Option (List ℕ) → Conversation UnitState → Bool → ℕ → Standing prompt_disk
lost_at None now armed limit = record { place = runs now; armed = armed; limit = limit }
lost_at (Some packet) now armed limit = record {
  place = off (record { book = now.unit.book; in_progress = pending_write (Some packet) now });
  armed = true;
  limit = limit;
}

lost : (disk : Presentation) (pending : Option (List ℕ)) (now : Conversation UnitState) (armed : Bool) (limit : ℕ)
    → LivesRun disk (record { place = runs now; armed = armed; limit = limit }) (lost_in pending) (lost_answers pending)
    (lost_refusals pending) (lost_at pending now armed limit)
lost disk None now armed limit = (refl, refl)
lost disk (Some packet) now armed limit = (
  record { place = runs now; armed = true; limit = limit },
  [],
  answer.Off ∷ [],
  refl,
  (refl, refl),
  (
    lost_at (Some packet) now armed limit,
    answer.Off ∷ [],
    [],
    refl,
    (answer.Off, refl, inr (record { answered = refl; goes = record { fused = refl; cause = refl; after = refl } })),
    (refl, refl),
  ),
)

-- a loss of power leaves the same
leaves : (pending : Option (List ℕ)) (now : Conversation UnitState) (armed : Bool) (limit : ℕ) (remains : Remains)
    → after_cut {rules = undropped_disk} (runs (at pending now)) ≡ between remains
    → after_cut (lost_at pending now armed limit).place ≡ between remains
leaves None now armed limit remains is = cc
leaves (Some packet) now armed limit remains is = cc

-- power goes in the event of what is pending, whatever comes meanwhile
writes_in : (pending : Option (List ℕ)) (now : Conversation UnitState) (packet : List ℕ) → pending ≡ Some packet → (happens : Event)
    → event_write pending now happens ≡ write_of_event now (event.Out (record { items = packet }))
writes_in pending now packet is happens =
    subst (λ (p : Option (List ℕ)). event_write p now happens ≡ write_of_event now (event.Out (record { items = packet }))) (sym is) refl

as_due : (pending : Option (List ℕ)) → acknowledged pending ≡ due pending []
as_due None = refl
as_due (Some packet) = refl

-- a life begins by both rules with the same books and the same limit
module _ (disk : Presentation) (refused : Bool) (book : Book) where
  begun_at : (before : Option Remains) (old new : Standing undropped_disk) → StartsAt (place_at before book) disk refused old new
      → LifeBegins disk refused old new
  begun_at None old new life = life
  begun_at (Some remains) old new life = life

  starts_at : (before : Option Remains) (old new : Standing prompt_disk) → LifeBegins disk refused old new
      → StartsAt (place_at before book) disk refused old new
  starts_at None old new life = life
  starts_at (Some remains) old new life = life

  opens_at : (before : Option Remains) (next : Book) → Opens {rules = undropped_disk} (place_at before book) next
      → Opens {rules = prompt_disk} (place_at before book) next
  opens_at None next opens = opens
  opens_at (Some remains) next opens = opens

  keeps_at : (before : Option Remains) (old limit : ℕ) → KeepsLimit {rules = undropped_disk} (place_at before book) old limit
      → KeepsLimit {rules = prompt_disk} (place_at before book) old limit
  keeps_at None old limit keeps = keeps
  keeps_at (Some remains) old limit keeps = keeps

module _ (disk : Presentation) (begins : Beginning) (events : List Event) (answers : List Answer) (refused : Bool)
    (refusals : List Bool) (now : Lagging UnitState) where
  abbrev old : Standing prompt_disk
  old = standing_at begins

  kept_from : (life : Book) (limit : ℕ) → Opens {rules = prompt_disk} old.place life
      → KeepsLimit {rules = prompt_disk} old.place begins.limit limit
      → Left now.pending None (started limit disk life) now.now events answers refusals
      → KeptAtOnce disk begins events answers (refused ∷ refusals) now
  kept_from life limit opens keeps l =
      let first : Standing prompt_disk = record { place = runs (started limit disk life); armed = begins.armed; limit = limit } in
      record {
        plain = l.plain;
        reported = l.reported;
        refused = refused ∷ l.refused;
        last = lost_at now.pending now.now begins.armed limit;
        run = (
          first,
          [],
          l.reported ++ lost_answers now.pending,
          refl,
          (
            refl,
            starts_at disk refused begins.book begins.before old first
                (record { book = life; opens = opens; limit = limit; keeps_limit = keeps; begins = inl refl }),
          ),
          at_once disk l.plain (started limit disk life) now.now begins.armed limit l.reported l.refused (lost_in now.pending)
              (lost_answers now.pending) (lost_refusals now.pending) (lost_at now.pending now.now begins.armed limit) l.run
              (lost disk now.pending now.now begins.armed limit),
        );
        same_outs = ap (λ (t : List Transaction). outs l.plain l.reported ++ t) (as_due now.pending) ∙ l.same_outs;
        same_ins = l.same_ins;
        same_setups = l.same_setups;
        few = few;
        left = λ remains is. leaves now.pending now.now begins.armed limit remains is;
        meanwhile = λ packet is happens. writes_in now.pending now.now packet is happens;
      }
    where
      few : refused_events (refused ∷ l.refused) ≤ refused_events (refused ∷ refusals)
      few = let h = l.few in grind (arith, h)

pub lags_kept : LagsAreKept
lags_kept disk begins events answers [] here now run is = absurd run
lags_kept disk begins events answers (refused ∷ refusals) here now (mid, one, later, split, (none, at_start), rest) is =
    let life = begun_at disk refused begins.book begins.before (standing_at begins) mid at_start in
    elim life.begins [
      | inl begun ↦
          let first = started life.limit disk life.book in
          let run = lag_run disk events (settled first) begins.armed life.limit later refusals here now
          (subst (λ (s : Standing undropped_disk). LivesRun disk s (map plays events) later refusals here) begun rest) is in
          subst (λ (l : List Answer). KeptAtOnce disk begins events l (refused ∷ refusals) now)
          (sym (split ∙ ap (λ (l : List Answer). l ++ later) none))
          (kept_from disk begins events later refused refusals now life.book life.limit
          (opens_at disk refused begins.book begins.before life.book life.opens)
          (keeps_at disk refused begins.book begins.before begins.limit life.limit life.keeps_limit)
          (hidden now.pending events None first now.now later refusals run))
      | inr goes ↦ absurd (stays_off disk events _ begins.armed begins.limit later refusals here now
          (subst (λ (s : Standing undropped_disk). LivesRun disk s (map plays events) later refusals here) goes.after rest) is)
    ]
