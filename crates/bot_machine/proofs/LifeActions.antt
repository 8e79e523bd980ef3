-- What happens in a life: an event comes, the power is cut, a fuse or a failure is armed.
use Rattle.std.proofs.Common.{if◌then◌else◌, arith, inl, inr, ◌≡◌, ℕ, Bool, true, false, nat_lt, List, [], ◌∷◌, None, Some, Option, refl}
use Rattle.std.proofs.{Common.{sym, subst, ◌∙◌, ap}, lemmas.Bool.false≢true, lemmas.List.append-nil}
use Rattle.medium.specs.{Medium.{State, Image, CutLeaves}, Moments.{EachCut, IsFlushed}, Tally.of_all}
use Rattle.medium.specs.{Sim.{Sim, state_of, IsCut, ComesAfter}, SimLaws.is_sound, declared.power.Power.Power, Power.faults_in}
use Rattle.medium.proofs.{SimCalls.{KeepsPower, keeps_power}, Moments.{at_exit, only_image}, KeptBlocks.none_flushed}
use Rattle.bot_machine.specs.{Device.{presented, Device}, declared.lives.disk_state.DiskState.DiskState}
use Rattle.bot_machine.specs.{declared.lives.disk_state.DiskState.TheVariants.{Stopped, Running}, Disk.{DiskValue, over, FitsDisk, IsStep}}
use Rattle.bot_machine.specs.{Moving.{Does, EventMovesIn, EventMoves}, LivesValue.{LivesValue, medium_in, state_in, OpensOn, HasLimit}}
use Rattle.bot_machine.specs.LivesValue.{IsAt, LimitAt, book_at, FoundAt, FitsLives, LivesGoTo, LivesGoOn, AreCaused}
use Rattle.scsi_unit.specs.{Starting.StandsForOpening, Books.{MayFind, FoundWith, StandsAs}, UnitValue.unit_limit, Serving.has_refused}
use Rattle.logical_blocks.specs.{Book.Book, Blocks.Array}
use Rattle.scsi.specs.Rules.{UnitState}
use Rattle.spec.specs.{declared.event.{Event.Event, Answer.{Answer, TheVariants.Off}}, Conversation.Conversation}
use Rattle.spec.specs.{UnitConversation.{write_of_event, UnitStep}, Lives.{Action, plays, cuts, arms, fails, Remains, Place, before_first}}
use Rattle.spec.specs.Lives.{runs, off, Standing, after_cut, LivesStep, LivesRun}
use Rattle.spec.specs.Disks.{prompt_disk}
use Rattle.bot_machine.proofs.{UnitLaws.limit_between_calls, Runs.one_counted}
use Rattle.bot_machine.proofs.Moved.{one_move, none_refused, some_refused, caused_once, one_fuse_more}

-- one action is a run
pub one_run : (device : Device) (refused : Bool) (old new : Standing prompt_disk) (action : Action) (answers : List Answer)
    → LivesStep (presented device) refused old action answers new → LivesRun (presented device) old (action ∷ []) answers (refused ∷ []) new
one_run device refused old new action answers step = (new, answers, [], sym (append-nil answers), step, (refl, refl))

-- a medium whose power is on is not one whose power is off
pub on_or_off : {A : Type 0} (b : Bool) → b ≡ false → b ≡ true → A
on_or_off b on is_off = absurd (false≢true (sym on ∙ is_off))

-- where the power is on, it was on before
pub on_before : (before after : Sim) → ComesAfter before after → after.power.off ≡ false → before.power.off ≡ false
on_before before after follows on = let gone = (keeps_power before after follows).off_stays in grind (arith, gone)

-- power goes only where a fuse was armed
pub armed_then : (here : Standing prompt_disk) (before after : Sim) → ComesAfter before after
    → (here.armed ≡ false → before.power.fuse ≡ None) → before.power.off ≡ false → after.power.off ≡ true → here.armed ≡ true
armed_then here before after follows unfused on is_off =
    let fused = ((keeps_power before after follows).goes_off on is_off).0 in grind (arith, fused, unfused)

module _ (device : Device) where
  -- lives of this disk
  abbrev pub lives_at : DiskState → LivesValue
  lives_at state = record { device = device; state = state }

  -- one action in which the medium refused no call: lives stand there afterwards
  pub goes_quietly : (action : Action) (answers : List Answer) (old new : DiskState) (there : Standing prompt_disk → Standing prompt_disk)
      → Does device old action answers new → (state_in new).failures ≡ (state_in old).failures
      → AreCaused (medium_in old) (action ∷ []) (false ∷ []) (medium_in new) → (state_in new).size ≡ (state_in old).size
      → ((here : Standing prompt_disk) → FitsLives (lives_at old) here → LivesStep (presented device) false here action answers (there here)
      × FitsLives (lives_at new) (there here))
      → ((here : Standing prompt_disk)
      → ((book_at (there here).place).ours ≡ (book_at here.place).ours) × ((there here).limit ≡ here.limit))
      → LivesGoOn (lives_at old) (action ∷ []) answers (lives_at new)
  goes_quietly action answers old new there does same caused size goes stays = record {
    refusals = false ∷ [];
    moves = one_move device false old new action answers does (none_refused (state_in old) (state_in new) same);
    refused = omega (arith, same);
    caused = caused;
    goes = λ here fits. record {
      there = there here;
      run = one_run device false here (there here) action answers (goes here fits).0;
      fits = (goes here fits).1;
      ours = (stays here).0;
      limit_stays = λ ours. (stays here).1;
    };
    size_stays = size;
    device_stays = refl;
  }

  -- nothing happens to a disk, or to a medium without one
  pub stays : (state : DiskState) (action : Action) (answers : List Answer) → Does device state action answers state
      → ((here : Standing prompt_disk) → FitsLives (lives_at state) here → LivesStep (presented device) false here action answers here)
      → LivesGoOn (lives_at state) (action ∷ []) answers (lives_at state)
  stays state action answers does step =
      goes_quietly action answers state state (λ here. here) does refl (omega arith) refl (λ here fits. (step here fits, fits))
      (λ here. (refl, refl))

  -- one action in which the medium was called, while the power was on before it
  pub called_once : (action : Action) (answers : List Answer) (old new : DiskState) → Does device old action answers new
      → ComesAfter (medium_in old) (medium_in new) → (medium_in old).power.off ≡ false → (state_in new).size ≡ (state_in old).size
      → ((here : Standing prompt_disk) → FitsLives (lives_at old) here
      → LivesGoTo (lives_at new) here (action ∷ []) answers (has_refused (state_in old) (state_in new) ∷ []))
      → LivesGoOn (lives_at old) (action ∷ []) answers (lives_at new)
  called_once action answers old new does follows on size goes = record {
    refusals = has_refused (state_in old) (state_in new) ∷ [];
    moves = one_move device (has_refused (state_in old) (state_in new)) old new action answers does refl;
    refused = one_counted (state_in old).failures (state_in new).failures
        (keeps_power (medium_in old) (medium_in new) follows).refused_stay;
    caused = caused_once (medium_in old) (medium_in new) (action ∷ []) follows on;
    goes = goes;
    size_stays = size;
    device_stays = refl;
  }

  -- ---- a cut

  first_at : (state : DiskState) (book : Book) → IsAt (before_first book) state
      → ((medium_in state).unflushed ≡ []) × OpensOn (state_in state) book
  first_at state book is = grind arith

  module _ (keep : ℕ → Bool) (state : DiskState) (new : Sim) (cut : IsCut keep (medium_in state) new)
      (allowed : CutLeaves (state_in state).may_leave (state_of new).content) (flushed : IsFlushed (state_of new))
      (size : (state_of new).size ≡ (state_in state).size) where
    -- what a cut leaves afterwards, it could have left before
    left_before : (P : ℕ → Image → Type 0) → EachCut (P (state_in state).size) (state_in state)
        → EachCut (P (state_of new).size) (state_of new)
    left_before P each image left =
        rw (size, only_image (state_of new).content (state_of new).may_leave flushed image left) (each (state_of new).content allowed)

    -- contents that are flushed stay
    content_has : (P : ℕ → Image → Type 0) → (medium_in state).unflushed ≡ [] → P (state_in state).size (state_in state).content
        → P (state_of new).size (state_of new).content
    content_has P none h =
        let same = only_image (state_in state).content (state_in state).may_leave (none_flushed (medium_in state) none)
        (state_of new).content allowed in
        rw (size, same) h

    cut_place : (place : Place prompt_disk) → IsAt place state → IsAt (after_cut place) (Stopped new)
    cut_place (before_first book) is =
        let first = first_at state book is in (
          record { on = ap (λ (p : Power). p.off) cut.power_on; flushed = cut.none },
          record {
            opens = first.1.opens;
            stands = content_has (λ n. StandsForOpening n book) first.0 first.1.stands;
            ours = λ ours. left_before (λ n image. (blocks : ℕ) × (array : Array) × (next : ℕ) × StandsAs n blocks image array next)
                (first.1.ours ours);
          },
        )
    cut_place place is = record { on = ap (λ (p : Power). p.off) cut.power_on; flushed = cut.none }

    cut_found : (place : Place prompt_disk) → ((book_at place).ours ≡ true → EachCut (FoundAt (state_in state).size place) (state_in state))
        → (book_at (after_cut place)).ours ≡ true → EachCut (FoundAt (state_of new).size (after_cut place)) (state_of new)
    cut_found (runs conversation) h ours = left_before (λ n. MayFind n conversation.unit.book) (h ours)
    cut_found place h ours = left_before (λ n. FoundAt n place) (h ours)

    cut_limit_at : (place : Place prompt_disk) (limit : ℕ) → IsAt place state → LimitAt place limit state
        → LimitAt (after_cut place) limit (Stopped new)
    cut_limit_at (before_first book) limit is h = content_has (λ n. HasLimit n limit) (first_at state book is).0 h
    cut_limit_at place limit is h = tt

    book_after_cut : (place : Place prompt_disk) → (book_at (after_cut place)).ours ≡ (book_at place).ours
    book_after_cut place = grind arith

    pub is_cut : LivesGoOn (lives_at state) (cuts keep ∷ []) [] (lives_at (Stopped new))
    is_cut =
        let same = ap of_all cut.refused_stay in
        let room = cut.without_room_stays in
        let none = ap faults_in cut.power_on in
        goes_quietly (cuts keep) [] state (Stopped new) (λ here. record here { place = after_cut here.place; armed = false }) (refl, cut)
        same (omega (arith, room, none)) size
        (λ here fits. (
          (refl, refl),
          record {
            is_at = cut_place here.place fits.is_at;
            limit_at = cut_limit_at here.place here.limit fits.is_at fits.limit_at;
            limited = λ ours. left_before (λ n. HasLimit n here.limit) (fits.limited (sym (book_after_cut here.place) ∙ ours));
            found = cut_found here.place fits.found;
            unfused = λ unarmed. ap (λ (p : Power). p.fuse) cut.power_on;
          },
        ))
        (λ here. (book_after_cut here.place, refl))

  -- ---- an event

  module _ (old new : DiskValue Sim) (event : Event) (answer : Answer)
      (step : IsStep (state_of old.unit.store.medium) (state_of new.unit.store.medium) old event answer new)
      (follows : ComesAfter old.unit.store.medium new.unit.store.medium)
      (on : old.unit.store.medium.power.off ≡ false) where
    abbrev before : State
    before = state_of old.unit.store.medium

    abbrev after : State
    after = state_of new.unit.store.medium

    abbrev grew : Bool
    grew = nat_lt before.failures after.failures

    abbrev power : KeepsPower old.unit.store.medium new.unit.store.medium
    power = keeps_power old.unit.store.medium new.unit.store.medium follows

    -- the event itself, which gives its answer where the power is still on
    played : (given : Answer) → given ≡ (if new.unit.store.medium.power.off then Off else answer)
        → EventMoves (Running old) event given (Running new)
    played given answered = subst (λ (b : Bool). EventMovesIn b old event given (Running new)) (sym on)
        (new, refl, record { told = answer; step = step; follows = follows; answered = answered })

    -- the limit of the unit is what it was, and what a cut leaves has it
    same_limit : (conversation : Conversation UnitState) (limit : ℕ) → conversation ≡ over old conversation.unit.book
        → limit ≡ conversation.unit.limit → limit ≡ unit_limit new.unit
    same_limit conversation limit says is = is ∙ ap (λ (x : Conversation UnitState). x.unit.limit) says ∙ sym step.limit_stays

    limited_after : (limit : ℕ) (later : Book) → FitsDisk after new later → later.ours ≡ true → limit ≡ unit_limit new.unit
        → EachCut (HasLimit after.size limit) after
    limited_after limit later fits ours is =
        subst (λ (n : ℕ). EachCut (HasLimit after.size n) after) (sym is) (limit_between_calls after new.unit later fits ours)

    module _ (still : new.unit.store.medium.power.off ≡ false) where
      ends_at : (place : Place prompt_disk) (armed : Bool) (limit : ℕ)
          → FitsLives (lives_at (Running old)) (record { place = place; armed = armed; limit = limit })
          → LivesGoTo (lives_at (Running new)) (record { place = place; armed = armed; limit = limit }) (plays event ∷ []) (answer ∷ [])
          (grew ∷ [])
      ends_at (runs conversation) armed limit fits =
          let p = step.proceeds conversation.unit.book fits.is_at.fits in
          let there : Standing prompt_disk = record { place = runs (over new p.later); armed = armed; limit = limit } in
          let same : limit ≡ unit_limit new.unit = same_limit conversation limit fits.is_at.says fits.limit_at in
          let moves : UnitStep grew conversation event answer (over new p.later) =
          subst (λ (x : Conversation UnitState). UnitStep grew x event answer (over new p.later)) (sym fits.is_at.says) p.moves in
          record {
            there = there;
            run = one_run device grew (record { place = runs conversation; armed = armed; limit = limit }) there (plays event) (answer ∷ [])
                (answer, refl, inl (record { later = over new p.later; step = moves; after = refl }));
            fits = record {
              is_at = record { on = still; says = refl; fits = p.fits };
              limit_at = same;
              limited = λ ours. limited_after limit p.later p.fits ours same;
              found = λ ours. p.at_exit (sym p.ours ∙ ours);
              unfused = λ e. power.no_fuse_stays (fits.unfused e);
            };
            ours = p.ours;
            limit_stays = λ ours. refl;
          }
      ends_at place armed limit fits = grind arith

      -- the power is on afterwards
      pub event_ends : LivesGoOn (lives_at (Running old)) (plays event ∷ []) (answer ∷ []) (lives_at (Running new))
      event_ends =
          called_once (plays event) (answer ∷ []) (Running old) (Running new)
          (answer, refl, played answer (ap (λ (b : Bool). if b then Off else answer) (sym still))) follows on step.elapses.size_stays
          (λ here fits. ends_at here.place here.armed here.limit fits)

    module _ (is_off : new.unit.store.medium.power.off ≡ true) where
      cut_at : (place : Place prompt_disk) (armed : Bool) (limit : ℕ)
          → FitsLives (lives_at (Running old)) (record { place = place; armed = armed; limit = limit })
          → LivesGoTo (lives_at (Running new)) (record { place = place; armed = armed; limit = limit }) (plays event ∷ []) (Off ∷ [])
          (grew ∷ [])
      cut_at (runs conversation) armed limit fits =
          let book = conversation.unit.book in
          let p = step.proceeds book fits.is_at.fits in
          let remains : Remains = record { book = book; in_progress = write_of_event conversation event } in
          let here : Standing prompt_disk = record { place = runs conversation; armed = armed; limit = limit } in
          let there : Standing prompt_disk = record { place = off remains; armed = armed; limit = limit } in
          record {
            there = there;
            run = one_run device grew here there (plays event) (Off ∷ []) (
              Off,
              refl,
              inr (record {
                answered = refl;
                goes = record {
                  fused = armed_then here old.unit.store.medium new.unit.store.medium follows fits.unfused on is_off;
                  cause = some_refused before after (power.goes_off on is_off).1;
                  after = refl;
                };
              }),
            );
            fits = record {
              is_at = is_off;
              limit_at = tt;
              limited = λ ours.
                  limited_after limit p.later p.fits (p.ours ∙ ours) (same_limit conversation limit fits.is_at.says fits.limit_at);
              found = λ ours. subst (λ (n : ℕ). EachCut (FoundWith n book remains.in_progress) after) (sym step.elapses.size_stays)
                  (subst (λ (x : Conversation UnitState). EachCut (FoundWith before.size book (write_of_event x event)) after)
                  (sym fits.is_at.says)
                  (at_exit (FoundWith before.size book (write_of_event (over old book) event)) before after
                  (is_sound new.unit.store.medium) (p.cuts ours)));
              unfused = λ e. power.no_fuse_stays (fits.unfused e);
            };
            ours = refl;
            limit_stays = λ ours. refl;
          }
      cut_at place armed limit fits = grind arith

      -- power went in it
      pub event_is_cut : LivesGoOn (lives_at (Running old)) (plays event ∷ []) (Off ∷ []) (lives_at (Running new))
      event_is_cut =
          called_once (plays event) (Off ∷ []) (Running old) (Running new)
          (Off, refl, played Off (ap (λ (b : Bool). if b then Off else answer) (sym is_off))) follows on step.elapses.size_stays
          (λ here fits. cut_at here.place here.armed here.limit fits)

  -- an event that comes to a medium without power
  pub event_at_rest : (m : Sim) (event : Event) → m.power.off ≡ true
      → LivesGoOn (lives_at (Stopped m)) (plays event ∷ []) (Off ∷ []) (lives_at (Stopped m))
  event_at_rest m event is_off =
      stays (Stopped m) (plays event) (Off ∷ []) (Off, refl, (refl, refl))
      (λ here fits. grind arith)

  -- an event that comes to a disk without power
  pub event_off : (disk : DiskValue Sim) (event : Event) → disk.unit.store.medium.power.off ≡ true
      → LivesGoOn (lives_at (Running disk)) (plays event ∷ []) (Off ∷ []) (lives_at (Running disk))
  event_off disk event is_off =
      stays (Running disk) (plays event) (Off ∷ [])
      (Off, refl, subst (λ (b : Bool). EventMovesIn b disk event Off (Running disk)) (sym is_off) (refl, refl))
      (λ here fits. grind arith)

  -- ---- a fuse or a failure is armed

  -- the medium with this fuse and this failure armed
  abbrev pub armed : Option ℕ → Option ℕ → Sim → Sim
  armed fuse fail m = record m { power = record m.power { fuse = fuse; fail = fail } }

  -- a disk over it
  abbrev pub on_medium : Sim → DiskValue Sim → DiskValue Sim
  on_medium m disk = record disk { unit = record disk.unit { store = record disk.unit.store { medium = m } } }

  -- whatever is armed, lives stand where they stood
  module _ (state new : DiskState) (same : state_in new ≡ state_in state)
      (at : (place : Place prompt_disk) → IsAt place state → IsAt place new) where
    limit_still : (place : Place prompt_disk) (limit : ℕ) → LimitAt place limit state → LimitAt place limit new
    limit_still place limit h = grind (arith, same)

    arms_so : (action : Action) (set : Bool → Bool) → AreCaused (medium_in state) (action ∷ []) (false ∷ []) (medium_in new)
        → Does device state action [] new
        → ((here : Standing prompt_disk) → LivesStep (presented device) false here action [] (record here { armed = set here.armed }))
        → ((is : Bool) → (is ≡ false → (medium_in state).power.fuse ≡ None) → set is ≡ false → (medium_in new).power.fuse ≡ None)
        → LivesGoOn (lives_at state) (action ∷ []) [] (lives_at new)
    arms_so action set caused does step unfused =
        goes_quietly action [] state new (λ here. record here { armed = set here.armed }) does (ap (λ (m : State). m.failures) same)
        caused (ap (λ (m : State). m.size) same)
        (λ here fits. (
          step here,
          record {
            is_at = at here.place fits.is_at;
            limit_at = limit_still here.place here.limit fits.limit_at;
            limited = λ ours. subst (λ (m : State). EachCut (HasLimit m.size here.limit) m) (sym same) (fits.limited ours);
            found = λ ours. subst (λ (m : State). EachCut (FoundAt m.size here.place) m) (sym same) (fits.found ours);
            unfused = unfused here.armed fits.unfused;
          },
        ))
        (λ here. (refl, refl))

    arms_fuse : (writes : ℕ) → AreCaused (medium_in state) (arms writes ∷ []) (false ∷ []) (medium_in new)
        → Does device state (arms writes) [] new → LivesGoOn (lives_at state) (arms writes ∷ []) [] (lives_at new)
    arms_fuse writes caused does =
        arms_so (arms writes) (λ is. true) caused does (λ here. (refl, refl)) (λ is unfused e. absurd (false≢true (sym e)))

  armed_at_rest : (fuse fail : Option ℕ) (m : Sim) (place : Place prompt_disk) → IsAt place (Stopped m)
      → IsAt place (Stopped (armed fuse fail m))
  armed_at_rest fuse fail m place h = grind arith

  armed_running : (fuse fail : Option ℕ) (disk : DiskValue Sim) (place : Place prompt_disk) → IsAt place (Running disk)
      → IsAt place (Running (on_medium (armed fuse fail disk.unit.store.medium) disk))
  armed_running fuse fail disk place h = grind arith

  abbrev pub fused : ℕ → Sim → Sim
  fused writes m = armed (Some writes) m.power.fail m

  pub arms_medium : (writes : ℕ) (m new : Sim) → new ≡ fused writes m
      → LivesGoOn (lives_at (Stopped m)) (arms writes ∷ []) [] (lives_at (Stopped new))
  arms_medium writes m new e =
      rw e (arms_fuse (Stopped m) (Stopped (fused writes m)) refl (armed_at_rest (Some writes) m.power.fail m) writes
      (omega (arith, one_fuse_more writes m)) (refl, refl))

  pub arms_disk : (writes : ℕ) (disk new : DiskValue Sim) → new.unit.store.medium ≡ fused writes disk.unit.store.medium
      → new ≡ on_medium new.unit.store.medium disk → LivesGoOn (lives_at (Running disk)) (arms writes ∷ []) [] (lives_at (Running new))
  arms_disk writes disk new e others =
      let m = disk.unit.store.medium in
      rw (others ∙ ap (λ (m : Sim). on_medium m disk) e) (arms_fuse (Running disk) (Running (on_medium (fused writes m) disk)) refl
      (armed_running (Some writes) m.power.fail disk) writes (omega (arith, one_fuse_more writes m)) (refl, (refl, refl)))

  abbrev pub failing : ℕ → Sim → Sim
  failing call m = armed m.power.fuse (Some call) m

  pub fails_medium : (call : ℕ) (m new : Sim) → new ≡ failing call m
      → LivesGoOn (lives_at (Stopped m)) (fails call ∷ []) [] (lives_at (Stopped new))
  fails_medium call m new e =
      rw e (arms_so (Stopped m) (Stopped (failing call m)) refl (armed_at_rest m.power.fuse (Some call) m) (fails call) (λ is. is)
      (omega arith) (refl, refl) (λ here. (refl, refl)) (λ is unfused e. unfused e))

  pub fails_disk : (call : ℕ) (disk new : DiskValue Sim) → new.unit.store.medium ≡ failing call disk.unit.store.medium
      → new ≡ on_medium new.unit.store.medium disk → LivesGoOn (lives_at (Running disk)) (fails call ∷ []) [] (lives_at (Running new))
  fails_disk call disk new e others =
      let m = disk.unit.store.medium in
      rw (others ∙ ap (λ (m : Sim). on_medium m disk) e) (arms_so (Running disk) (Running (on_medium (failing call m) disk)) refl
      (armed_running m.power.fuse (Some call) disk) (fails call) (λ is. is) (omega arith) (refl, (refl, refl)) (λ here. (refl, refl))
      (λ is unfused e. unfused e))

pub ruleset arming = (arms_medium, arms_disk, fails_medium, fails_disk)
