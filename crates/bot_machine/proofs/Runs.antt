-- A run goes on by one step, and tells statuses by turns.
use Rattle.std.proofs.Common.{◌≡◌, inl, inr, ℕ, Bool, true, false, List, [], ◌∷◌, ◌++◌, Option, Some, None, Result, Ok, Err, refl, ap, ◌⊎◌}
use Rattle.std.proofs.{Common.{if◌then◌else◌, arith, ◌+◌, ◌≤◌, nat_lt, sym, subst, ◌∙◌, ⊎_elim}, lemmas.Bool.Decides.nat_tests}
use Rattle.spec.specs.{declared.wrapper.Cbw.Cbw, declared.way.Way.Way, declared.case.Case.Case, declared.case.Endpoint.Endpoint}
use Rattle.spec.specs.{declared.status.Status.Status, declared.status.Status.TheVariants.{Passed, Failed}, declared.event.Event.Event}
use Rattle.spec.specs.{declared.event.Answer.Answer, CommandWrapper.field_at, Requests.Request, Exchange.{Script, finished, taking}}
use Rattle.spec.specs.Exchange.{sending, Line, laid_out, Moment, moment_of, told, told_at_once, after_packet, after_request, sent_in}
use Rattle.spec.specs.{Exchange.case_if_failed, Conversation.{Conversation, Begins, OutStep, SetupStep, Step, Run, refused_events}}
use Rattle.logical_blocks.specs.Book.{Book}
use Rattle.scsi.specs.Rules.{UnitState, CarriesOut, Ticks}
use Rattle.spec.specs.UnitConversation.{Intends, write_of_event, UnitStep, UnitRun}
use Rattle.spec.specs.declared.event.Event.TheVariants as event
use Rattle.bot_machine.specs.Turns.{Mark, marks_of_out, marks_of_in, marks_of_setup, marks_of, IsStatusOf, ByTurns, marks_in}
use Rattle.bot_machine.specs.Disk.{DiskValue, over, FoundIn, RunsOn, IsStep, StepsThrough, IsRun}
use Rattle.std.specs.Prelude.{Result}
use Rattle.medium.specs.Medium.{State, Image, IsSound}
use Rattle.medium.proofs.Moments.{started, joined, weaker}
use Rattle.scsi_unit.specs.{Books.FoundWith, Serving.has_refused}
use Rattle.bot_machine.proofs.UnitLaws.{between_calls}

-- what is left of an exchange tells the status of the command with this tag, or nothing is left to tell
abbrev pub Owes : Option ℕ → Script → Type 0
Owes None finished = Unit {0}
Owes (Some tag) (taking case command intended bytes due) = command.tag ≡ tag
Owes (Some tag) (sending packets halt status) = IsStatusOf tag status
Owes owed left = ⊥

-- after these marks a list of marks goes on by turns
abbrev Next : Option ℕ → List Mark → Script → Type 0
Next owed marks left = (later : Option ℕ) × Owes later left × ((rest : List Mark) → ByTurns later rest → ByTurns owed (marks ++ rest))

keeps : (owed : Option ℕ) (left : Script) → Owes owed left → Next owed [] left
keeps owed left owes = (owed, owes, λ rest turns. turns)

laid_out-owes : (tag : ℕ) (packets : List (List ℕ)) (halt : Option Endpoint) (status : List ℕ)
    (s : Line) → IsStatusOf tag status → Owes (Some tag) (laid_out packets halt status s).left
laid_out-owes tag packets halt status s is = grind arith

told_at_once-owes : (case : Case) (command : Cbw) (intended : Way) (status : Status) (s : Line)
    → Owes (Some command.tag) (told_at_once case command intended status s).left
told_at_once-owes case command intended status s = laid_out-owes command.tag [] _ _ s (_, status, refl)

told-owes : {F : Type 0} (case : Case) (command : Cbw) (intended : Way) (answer : Result (List ℕ) F) (s : Line)
    → Owes (Some command.tag) (told case command intended answer s).left
told-owes case command intended (Ok bytes) s = laid_out-owes command.tag (sent_in s.packet_size case bytes) _ _ s (_, Passed, refl)
told-owes case command intended (Err fault) s = told_at_once-owes (case_if_failed case) command intended Failed s

-- a wrapper that is taken is owed its status
took : (packet : List ℕ) (left : Script) → Owes (Some (field_at packet 4)) left → Next None (marks_of_out false finished packet left) left
took packet finished owes = absurd owes
took packet left owes = (Some (field_at packet 4), owes, λ rest turns. turns)

-- a token to Bulk-In
in_next : (owed : Option ℕ) (halted : Bool) (left : Script) (s : Line) → s.left ≡ left → Owes owed left
    → Next owed (marks_of_in halted left) (if halted then s else after_packet left s).left
in_next None false (sending packets halt status) s e owes = absurd owes
in_next (Some tag) false (sending [] halt status) s e owes = (None, tt, λ rest turns. (owes, turns))
in_next (Some tag) false (sending (packet ∷ packets) halt status) s e owes =
    keeps (Some tag) _ (laid_out-owes tag packets halt status s owes)
in_next owed halted left s e owes = keeps owed s.left (rw e owes)

-- a setup packet
setup_keeps : (owed : Option ℕ) (left : Script) → Owes owed left → Next owed (marks_of_setup left) left
setup_keeps None finished owes = (None, tt, λ rest turns. turns)
setup_keeps (Some tag) finished owes = absurd owes
setup_keeps owed left owes = keeps owed left owes

drops_all : (owed : Option ℕ) → Next owed (marks_of_setup finished) finished
drops_all None = (None, tt, λ rest turns. turns)
drops_all (Some tag) = (None, tt, λ rest turns. turns)

after_request-left : (request : Request) (s : Line)
    → ((after_request request s).left ≡ s.left) ⊎ ((after_request request s).left ≡ finished)
after_request-left request s = grind arith

setup_next : (owed : Option ℕ) (packet : List ℕ) (old : Line) (answer : Answer) (new : Line) → SetupStep packet old answer new
    → Owes owed old.left → Next owed (marks_of_setup new.left) new.left
setup_next owed packet old answer new step owes =
    let same : (new.left ≡ old.left) ⊎ (new.left ≡ finished) = grind (arith, after_request-left) in
    elim same [ inl e ↦ rw e (setup_keeps owed old.left owes) | inr e ↦ rw e (drops_all owed) ]

module _ {S F : Type 0} (Intends : S → List ℕ → Way → Type 0)
    (CarriesOut : Bool → List ℕ → List ℕ → S → Result (List ℕ) F → S → Type 0)
    (Ticks : Bool → S → S → Type 0) where
  begins-owes : (refused : Bool) (moment : Moment) (case : Case) (command : Cbw) (intended : Way) (old new : Conversation S)
      → Begins Intends CarriesOut Ticks refused moment case command intended old new → Owes (Some command.tag) new.line.left
  begins-owes refused moment case command intended old new begins = grind (arith, told-owes {F = F}, told_at_once-owes)

  -- a packet to Bulk-Out
  out_next : (owed : Option ℕ) (refused halted : Bool) (left : Script) (packet : List ℕ) (old new : Conversation S) (answer : Answer)
      → OutStep Intends CarriesOut Ticks refused halted left packet old answer new → old.line.left ≡ left → Owes owed left
      → Next owed (marks_of_out halted left packet new.line.left) new.line.left
  out_next owed refused true left packet old new answer step e owes = keeps owed _ (rw (ap (λ s. s.line.left) step.1, e) owes)
  out_next None refused false finished packet old new answer (ack, inl opens) e owes =
      took packet new.line.left (rw (← opens.spelled.tag) (begins-owes refused (moment_of opens.case) opens.case opens.command
      opens.intended old new opens.begins))
  out_next None refused false finished packet old new answer (ack, inr locks) e owes =
      rw (ap (λ s. s.left) locks.after, e) (None, tt, λ rest turns. turns)
  out_next (Some tag) refused false finished packet old new answer step e owes = absurd owes
  out_next None refused false (taking case command intended bytes due) packet old new answer step e owes = absurd owes
  out_next (Some tag) refused false (taking case command intended bytes due) packet old new answer step e owes =
      keeps (Some tag) new.line.left (grind (arith, told-owes {F = F}))
  out_next owed refused false (sending packets halt status) packet old new answer step e owes =
      keeps owed _ (rw (ap (λ s. s.line.left) step.1, e) owes)

  step_next : (owed : Option ℕ) (refused : Bool) (old : Conversation S) (happens : Event) (answer : Answer) (new : Conversation S)
      → Step Intends CarriesOut Ticks refused old happens answer new → Owes owed old.line.left
      → Next owed (marks_of old.line happens new.line) new.line.left
  step_next owed refused old (event.Out packet) answer new step owes =
      out_next owed refused old.line.out_halted old.line.left packet.items old new answer step refl owes
  step_next owed refused old event.In answer new step owes = rw step.1 (in_next owed old.line.in_halted old.line.left old.line refl owes)
  step_next owed refused old (event.Setup packet) answer new step owes = setup_next owed packet old.line answer new.line step.0 owes
  step_next owed refused old event.Tick answer new step owes = keeps owed new.line.left (rw step.2 owes)

  turns_on : (owed : Option ℕ) (old : Conversation S) (events : List Event)
      (answers : List Answer) (refusals : List Bool) (new : Conversation S)
      (run : Run Intends CarriesOut Ticks old events answers refusals new) → Owes owed old.line.left
      → ByTurns owed (marks_in Intends CarriesOut Ticks old events answers refusals new run)
  turns_on owed old [] answers refusals new run owes = tt
  turns_on owed old (e ∷ es) (a ∷ as_) (f ∷ fs) new (mid, step, rest) owes =
      let next = step_next owed f old e a mid step owes in
      next.2 (marks_in Intends CarriesOut Ticks mid es as_ fs new rest) (turns_on next.0 mid es as_ fs new rest next.1)
  turns_on owed old events answers refusals new run owes = absurd run

  -- a run that begins where a wrapper is expected takes wrappers and tells their statuses by turns
  pub by_turns : (old : Conversation S) (events : List Event) (answers : List Answer) (refusals : List Bool) (new : Conversation S)
      (run : Run Intends CarriesOut Ticks old events answers refusals new) → old.line.left ≡ finished
      → ByTurns None (marks_in Intends CarriesOut Ticks old events answers refusals new run)
  by_turns old events answers refusals new run e = turns_on None old events answers refusals new run (rw e tt)

-- events with a refused call are counted one list after the other
pub refused_events-append : (xs ys : List Bool) → refused_events (xs ++ ys) ≡ refused_events xs + refused_events ys
refused_events-append [] ys = omega arith
refused_events-append (true ∷ xs) ys = omega (arith, refused_events-append xs ys)
refused_events-append (false ∷ xs) ys = refused_events-append xs ys

-- one is counted once, where the count grew
pub one_counted : (m n : ℕ) → m ≤ n → refused_events (nat_lt m n ∷ []) + m ≤ n
one_counted m n h = grind (arith, nat_tests)

pub counted : (xs ys : List Bool) (a b c : ℕ) → refused_events xs + a ≤ b → refused_events ys + b ≤ c → refused_events (xs ++ ys) + a ≤ c
counted xs ys a b c h k = omega (arith, refused_events-append xs ys, h, k)

module _ {S F : Type 0} (Intends : S → List ℕ → Way → Type 0)
    (CarriesOut : Bool → List ℕ → List ℕ → S → Result (List ℕ) F → S → Type 0)
    (Ticks : Bool → S → S → Type 0) where
  -- a run and then one step are a run
  pub Run-more : (events : List Event) (answers : List Answer) (refusals : List Bool)
      (old mid new : Conversation S) (event : Event) (answer : Answer) (refused : Bool)
      → Run Intends CarriesOut Ticks old events answers refusals mid → Step Intends CarriesOut Ticks refused mid event answer new
      → Run Intends CarriesOut Ticks old (events ++ event ∷ []) (answers ++ answer ∷ []) (refusals ++ refused ∷ []) new
  Run-more [] [] [] old mid new event answer refused r s =
      (new, subst (λ m. Step Intends CarriesOut Ticks refused m event answer new) r s, refl)
  Run-more (e ∷ es) (a ∷ as_) (f ∷ fs) old mid new event answer refused r s =
      (r.0, r.1, Run-more es as_ fs r.0 mid new event answer refused r.2 s)
  Run-more events answers refusals old mid new event answer refused r s = absurd r

-- an image that a cut may leave in a run, or in one step after it, a cut may leave in the longer run
FoundIn-more : (size : ℕ) (image : Image) (events : List Event) (answers : List Answer) (refusals : List Bool)
    (old mid new : Conversation UnitState) (event : Event) (answer : Answer) (refused : Bool)
    (run : UnitRun old events answers refusals mid) (step : UnitStep refused mid event answer new)
    → FoundIn size old events answers refusals mid run image
    ⊎ FoundWith size mid.unit.book (write_of_event mid event) image
    → FoundIn size old (events ++ event ∷ []) (answers ++ answer ∷ []) (refusals ++ refused ∷ []) new
    (Run-more Intends CarriesOut Ticks events answers refusals old mid new event answer refused run step) image
unfolding Run-more
FoundIn-more size image [] [] [] old mid new event answer refused run step (inl none) = absurd none
FoundIn-more size image [] [] [] old mid new event answer refused run step (inr found) =
    inl (subst (λ m. FoundWith size m.unit.book (write_of_event m event) image) run found)
FoundIn-more size image (e ∷ es) (a ∷ as_) (f ∷ fs) old mid new event answer refused run step (inl (inl here)) = inl here
FoundIn-more size image (e ∷ es) (a ∷ as_) (f ∷ fs) old mid new event answer refused run step (inl (inr later)) =
    inr (FoundIn-more size image es as_ fs run.0 mid new event answer refused run.2 step (inl later))
FoundIn-more size image (e ∷ es) (a ∷ as_) (f ∷ fs) old mid new event answer refused run step (inr found) =
    inr (FoundIn-more size image es as_ fs run.0 mid new event answer refused run.2 step (inr found))
FoundIn-more size image events answers refusals old mid new event answer refused run step found = absurd run

-- steps of a disk and then one more
StepsThrough-more : {M : Type 0} (state : M → State) (events : List Event) (answers : List Answer) (refusals : List Bool)
    (old mid new : DiskValue M) (event : Event) (answer : Answer) → StepsThrough state old events answers refusals mid
    → IsStep (state mid.unit.store.medium) (state new.unit.store.medium) mid event answer new
    → StepsThrough state old (events ++ event ∷ []) (answers ++ answer ∷ [])
    (refusals ++ has_refused (state mid.unit.store.medium) (state new.unit.store.medium) ∷ []) new
StepsThrough-more {M} state [] [] [] old mid new event answer r s =
    subst (λ (d : DiskValue M). StepsThrough state d (event ∷ []) (answer ∷ [])
    (has_refused (state mid.unit.store.medium) (state new.unit.store.medium) ∷ []) new) r (new, (s, refl), refl)
StepsThrough-more state (e ∷ es) (a ∷ as_) (f ∷ fs) old mid new event answer r s =
    (r.0, r.1, StepsThrough-more state es as_ fs r.0 mid new event answer r.2 s)
StepsThrough-more state events answers refusals old mid new event answer r s = absurd r

-- no events, no time
pub no_run : {M : Type 0} (state : M → State) (disk : DiskValue M) → IsSound (state disk.unit.store.medium) → IsRun state disk [] [] disk
no_run state disk sound =
    let m : State = state disk.unit.store.medium in record {
      refusals = [];
      steps = refl;
      refused = omega arith;
      runs_on = λ book fits. record {
        later = book;
        run = refl;
        fits = fits;
        ours = refl;
        turns = λ none. tt;
        cuts = λ ours. started _ m sound (λ image cut. inl (between_calls m disk.unit book fits ours image cut));
        at_exit = λ ours. between_calls m disk.unit book fits ours;
      };
      elapses = record { failures_stay = omega arith; size_stays = refl };
      packets_stay = refl;
    }

-- events of a disk and then one event, over one book
runs_more : {M : Type 0} (first before after : State) (old mid new : DiskValue M) (events : List Event)
    (answers : List Answer) (refusals : List Bool) (event : Event) (answer : Answer) (book : Book)
    → RunsOn first before old events answers refusals mid book → IsStep before after mid event answer new
    → first.size ≡ before.size
    → RunsOn first after old (events ++ event ∷ []) (answers ++ answer ∷ []) (refusals ++ has_refused before after ∷ [])
    new book
runs_more first before after old mid new events answers refusals event answer book r step size =
    let s = step.proceeds r.later r.fits in
    let run = Run-more Intends CarriesOut Ticks events answers refusals (over old book) (over mid r.later)
    (over new s.later) event answer (has_refused before after) r.run s.moves in
    let more = λ (image : Image). FoundIn-more first.size image events answers refusals (over old book) (over mid r.later)
    (over new s.later) event answer (has_refused before after) r.run s.moves in
    record {
      later = s.later;
      run = run;
      fits = s.fits;
      ours = s.ours ∙ r.ours;
      turns = by_turns Intends CarriesOut Ticks (over old book) (events ++ event ∷ []) (answers ++ answer ∷ [])
          (refusals ++ has_refused before after ∷ []) (over new s.later) run;
      cuts = λ ours. weaker _ _ first after
          (λ image found. ⊎_elim
          (λ was. ⊎_elim inl (λ in_run. inr (more image (inl in_run))) was)
          (λ now. inr (more image (inr (subst (λ n. FoundWith n r.later (write_of_event (over mid r.later) event) image) (sym size) now))))
          found)
          (joined _ _ first before after (r.cuts ours) (s.cuts (r.ours ∙ ours)));
      at_exit = λ ours. s.at_exit (r.ours ∙ ours);
    }

-- events of a disk and then one event are events of the disk
pub IsRun-more : {M : Type 0} (state : M → State) (old mid new : DiskValue M)
    (events : List Event) (answers : List Answer) (event : Event) (answer : Answer) → IsRun state old events answers mid
    → IsStep (state mid.unit.store.medium) (state new.unit.store.medium) mid event answer new
    → IsRun state old (events ++ event ∷ []) (answers ++ answer ∷ []) new
IsRun-more state old mid new events answers event answer r s =
    let first : State = state old.unit.store.medium in
    let before : State = state mid.unit.store.medium in
    let after : State = state new.unit.store.medium in record {
      steps = StepsThrough-more state events answers r.refusals old mid new event answer r.steps s;
      refusals = r.refusals ++ has_refused before after ∷ [];
      refused = counted r.refusals (has_refused before after ∷ []) first.failures before.failures after.failures r.refused
          (one_counted before.failures after.failures s.elapses.failures_stay);
      runs_on = λ book fits. runs_more first before after old mid new events answers r.refusals event answer book
          (r.runs_on book fits) s (sym r.elapses.size_stays);
      elapses = record {
        failures_stay = omega (arith, r.elapses.failures_stay, s.elapses.failures_stay);
        size_stays = s.elapses.size_stays ∙ r.elapses.size_stays;
      };
      packets_stay = s.packets_stay ∙ r.packets_stay;
    }
