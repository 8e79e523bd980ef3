-- What a host sees of steps in the background where the medium refuses nothing and stamps are left: nothing.
use Rattle.std.proofs.Common.{◌≡◌, inl, inr, ℕ, Bool, true, false, List, [], sym, ◌∙◌, arith, ◌∷◌, refl, subst}
use Rattle.std.proofs.lemmas.Bool.Decides.{nat_tests}
use Rattle.spec.specs.{declared.wrapper.Cbw.Cbw, declared.way.Way.Way, declared.case.Case.Case, Cases.IsCase, CommandWrapper.SpellsCommand}
use Rattle.logical_blocks.specs.Book.{StampsOut, with_progress}
use Rattle.scsi.specs.Rules.{UnitState, CarriesOut, Ticks, write_in_progress}
use Rattle.spec.specs.declared.event.Event.{Event}
use Rattle.spec.specs.{declared.event.Answer.Answer, Requests.{Request, setup_packet}, Exchange.{Line, Script, finished, taking, sending}}
use Rattle.spec.specs.{Exchange.{Moment, at_once, moment_of}, Conversation.{Conversation, IsCarriedOut, Begins, OpensExchange, Takes}}
use Rattle.spec.specs.{Conversation.{OutStep, SetupStep}, UnitConversation.{Intends, write_of_packet, UnitStep, UnitRun}}
use Rattle.transport_laws.specs.Striking.{TicksAreStruck, HasStamps, without_ticks, answers_without_ticks, IsUntroubled}
use Rattle.transport_laws.proofs.{Rules.{one_answer, ticks_nothing}, Wrappers.{one_wrapper, one_case, at_once-writes_none}}
use Rattle.spec.specs.declared.event.Event.TheVariants as event

-- conversations are the same where line and unit are
pub same_conversation : (one other : Conversation UnitState) → one.line ≡ other.line → one.unit ≡ other.unit → one ≡ other
same_conversation one other line unit = grind arith

carried_out_once : (case : Case) (command : Cbw) (intended : Way) (bytes : List ℕ) (old one other : Conversation UnitState)
    → ¬ StampsOut (with_progress old.unit.book (write_in_progress old.unit command.block.items bytes))
    → IsCarriedOut Intends CarriesOut Ticks false case command intended bytes old one
    → IsCarriedOut Intends CarriesOut Ticks false case command intended bytes old other → one ≡ other
carried_out_once case command intended bytes old one other stamps a b =
    let same = one_answer command.block.items bytes old.unit one.unit other.unit a.answer b.answer stamps a.effect b.effect in
    grind arith

begins_once : (moment : Moment) (case : Case) (command : Cbw) (intended : Way) (old one other : Conversation UnitState)
    → (at_once ≡ moment → ¬ StampsOut (with_progress old.unit.book (write_in_progress old.unit command.block.items [])))
    → Begins Intends CarriesOut Ticks false moment case command intended old one
    → Begins Intends CarriesOut Ticks false moment case command intended old other → one ≡ other
begins_once moment case command intended old one other stamps a b = grind (arith, carried_out_once)

pub opens_as : (packet : List ℕ) (old other : Conversation UnitState) (command : Cbw) (intended : Way) (case : Case)
    → SpellsCommand packet command → Intends old.unit command.block.items intended → IsCase case command.host intended
    → OpensExchange Intends CarriesOut Ticks false packet old other
    → Begins Intends CarriesOut Ticks false (moment_of case) case command intended old other
opens_as packet old other command intended case spelled intends is_case b =
    let same = one_wrapper packet b.command command b.spelled spelled in
    let way : b.intended ≡ intended = cc in
    let is = one_case b.case case command.host intended (rw (← way, ← same) b.is_case) is_case in
    rw (← is, ← way, ← same) b.begins

opens_once : (packet : List ℕ) (old one other : Conversation UnitState) → ¬ StampsOut old.unit.book
    → OpensExchange Intends CarriesOut Ticks false packet old one
    → OpensExchange Intends CarriesOut Ticks false packet old other → one ≡ other
opens_once packet old one other stamps a b =
    let none = λ (moment : at_once ≡ moment_of a.case). at_once-writes_none old.unit a.command.block.items [] a.case a.command.host
    a.intended a.intends a.is_case (sym moment) in
    begins_once (moment_of a.case) a.case a.command a.intended old one other (λ moment. (rw (none moment) stamps))
    a.begins (opens_as packet old other a.command a.intended a.case a.spelled a.intends a.is_case b)

takes_once : (case : Case) (command : Cbw) (intended : Way) (bytes : List ℕ) (due : ℕ) (packet : List ℕ)
    (old one other : Conversation UnitState) → ¬ StampsOut (with_progress old.unit.book
    (write_of_packet old.line.packet_size false (taking case command intended bytes due) packet old.unit))
    → Takes Intends CarriesOut Ticks false case command intended bytes due packet old one
    → Takes Intends CarriesOut Ticks false case command intended bytes due packet old other → one ≡ other
takes_once case command intended bytes due packet old one other stamps a b = grind (arith, nat_tests, carried_out_once)

out_once : (halted : Bool) (left : Script) (packet : List ℕ) (old one other : Conversation UnitState) (answer again : Answer)
    → ¬ StampsOut (with_progress old.unit.book (write_of_packet old.line.packet_size halted left packet old.unit))
    → OutStep Intends CarriesOut Ticks false halted left packet old answer one
    → OutStep Intends CarriesOut Ticks false halted left packet old again other → (answer ≡ again) × (one ≡ other)
out_once true left packet old one other answer again stamps a b = grind arith
out_once false finished packet old one other answer again stamps (a, inl opens) (b, inl opens') =
    (a ∙ sym b, opens_once packet old one other stamps opens opens')
out_once false finished packet old one other answer again stamps (a, inl opens) (b, inr locks) =
    absurd (locks.unknown opens.command opens.spelled)
out_once false finished packet old one other answer again stamps (a, inr locks) (b, inl opens) =
    absurd (locks.unknown opens.command opens.spelled)
out_once false finished packet old one other answer again stamps (a, inr locks) (b, inr locks') =
    (a ∙ sym b, same_conversation one other (locks.after ∙ sym locks'.after) (locks.unit ∙ sym locks'.unit))
out_once false (taking case command intended bytes due) packet old one other answer again stamps (a, takes) (b, takes') =
    (a ∙ sym b, takes_once case command intended bytes due packet old one other stamps takes takes')
out_once false (sending packets halt status) packet old one other answer again stamps a b = (a.0 ∙ sym b.0, a.1 ∙ sym b.1)

pub one_request : (a b : Request) → setup_packet a ≡ setup_packet b → a ≡ b
one_request a b e = grind arith

setup_once : (packet : List ℕ) (old one other : Line) (answer again : Answer) → SetupStep packet old answer one
    → SetupStep packet old again other → (answer ≡ again) × (one ≡ other)
setup_once packet old one other answer again a b = grind (arith, one_request)

-- a step in the background changes nothing
pub still : (old new : Conversation UnitState) (answer : Answer) → HasStamps old event.Tick
    → UnitStep false old event.Tick answer new → new ≡ old
still old new answer stamps step = let same = ticks_nothing old.unit new.unit stamps step.1 in grind arith

pub one_step : (old one other : Conversation UnitState) (happens : Event) (answer again : Answer) → HasStamps old happens
    → UnitStep false old happens answer one → UnitStep false old happens again other → (answer ≡ again) × (one ≡ other)
one_step old one other happens answer again stamps a b = grind (arith, out_once, setup_once, still)

-- a run that nothing troubles
abbrev pub Untroubled : Conversation UnitState → List Event → List Answer → Conversation UnitState → Type 0
Untroubled old [] [] new = new ≡ old
Untroubled old (happens ∷ events) (answer ∷ answers) new =
    (mid : Conversation UnitState) × UnitStep false old happens answer mid × HasStamps old happens
    × Untroubled mid events answers new
Untroubled old events answers new = ⊥

pub untroubled : (old : Conversation UnitState) (events : List Event) (answers : List Answer) (refusals : List Bool)
    (new : Conversation UnitState) (run : UnitRun old events answers refusals new)
    → IsUntroubled old events answers refusals new run → Untroubled old events answers new
untroubled old [] [] [] new run u = run
untroubled old (e ∷ es) (a ∷ as_) (f ∷ fs) new (mid, step, rest) (none, stamps, later) =
    (mid, subst (λ r. UnitStep r old e a mid) none step, stamps, untroubled mid es as_ fs new rest later)
untroubled old events answers refusals new run u = absurd run

-- the first event of such a run
pub record First (old new : Conversation UnitState) (happens : Event) (events : List Event) (answers : List Answer) : Type 0 where
  pub mid : Conversation UnitState
  pub answer : Answer
  pub later : List Answer
  pub told : answers ≡ answer ∷ later
  pub step : UnitStep false old happens answer mid
  pub stamps : HasStamps old happens
  pub run : Untroubled mid events later new

pub first_of : (old new : Conversation UnitState) (happens : Event) (events : List Event) (answers : List Answer)
    → Untroubled old (happens ∷ events) answers new → First old new happens events answers
first_of old new happens events [] run = absurd run
first_of old new happens events (a ∷ as_) (mid, step, stamps, rest) =
    record { mid = mid; answer = a; later = as_; told = refl; step = step; stamps = stamps; run = rest }

-- without its steps in the background it is one, too
struck : (events : List Event) (answers : List Answer) (old new : Conversation UnitState) → Untroubled old events answers new
    → Untroubled old (without_ticks events) (answers_without_ticks events answers) new
struck [] [] old new run = run
struck (event.Tick ∷ events) (answer ∷ answers) old new (mid, step, stamps, rest) =
    subst (λ o. Untroubled o (without_ticks events) (answers_without_ticks events answers) new) (still old mid answer stamps step)
    (struck events answers mid new rest)
struck (happens ∷ events) (answer ∷ answers) old new (mid, step, stamps, rest) = (mid, step, stamps, struck events answers mid new rest)
struck events answers old new run = absurd run

-- the same events from the same state give the same answers, and end in the same state
runs_once : (events : List Event) (answers told : List Answer) (old new other : Conversation UnitState)
    → Untroubled old events answers new → Untroubled old events told other → (answers ≡ told) × (new ≡ other)
runs_once [] [] [] old new other run again = (refl, run ∙ sym again)
runs_once (e ∷ es) (a ∷ as_) (b ∷ bs) old new other (mid, step, stamps, rest) (mid', step', stamps', rest') =
    let one = one_step old mid mid' e a b stamps step step' in
    let later = runs_once es as_ bs mid new other rest (subst (λ m. Untroubled m es bs other) (sym one.1) rest') in
    grind arith
runs_once events answers told old new other run again = grind arith

pub ticks_struck : TicksAreStruck
ticks_struck old new other events fewer answers told refusals refused run again e u v =
    runs_once (without_ticks fewer) _ _ old new other
    (rw e at (struck events answers old new (untroubled old events answers refusals new run u)))
    (struck fewer told old other (untroubled old fewer told refused other again v))
