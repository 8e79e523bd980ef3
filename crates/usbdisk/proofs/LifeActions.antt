-- Lives that act, one action after another.
use Rattle.std.proofs.Common.{◌≡◌, ◌↔◌, ℕ, Bool, true, false, List, [], ◌∷◌, ◌++◌, None, Option, refl, sym, ap, ◌∙◌, inl, inr}
use Rattle.std.proofs.Common.{append_assoc, append-nil}
use Rattle.std.proofs.lemmas.Bool.{cases_Bool, true≢false}
use Rattle.std.specs.Io.KnownBytes.{Appends}
use Rattle.std.proofs.KnownBytes.{Appends-nil, Appends-trans}
use Rattle.medium.specs.Sim.{Sim, IsFailing, ComesAfter}
use Rattle.medium.proofs.SimCalls.{keeps_power}
use Rattle.bot_machine.specs.StartFaults.{StartFault}
use Rattle.spec.specs.declared.event.Event.{Event}
use Rattle.spec.specs.declared.event.Answer.{Answer}
use Rattle.spec.specs.declared.event.Answer.TheVariants.{Off}
use Rattle.spec.specs.Lives.{Action, arms, fails, starts, plays}
use Rattle.bot_machine.specs.LivesValue.{LivesValue, LivesGoOn, LivesRefuseStart, medium_in}
use Rattle.bot_machine.proofs.LifeRuns.{rests, lives_go_on}
use Rattle.usbdisk.specs.console.Streams.{AppendsSome}
use Rattle.usbdisk.specs.declared.runner.fault.ScriptFault.{ScriptFault}
use Rattle.usbdisk.specs.declared.runner.fault.ScriptFault.TheVariants.{Start, Writer}
use Rattle.usbdisk.specs.runner.Lifetimes.{AnswersFit, fuse_after, fused_after, text_of_lives, comes}
use Rattle.usbdisk.specs.runner.PlayedLives.{FuseIs, Acted, TellsLives, EndsBy, BreaksOff}
use Rattle.usbdisk.specs.runner.Text.{line_for}
use Rattle.usbdisk.proofs.Known.{AppendsUpTo-more}

AnswersFit-append : (fused : Bool) (first rest : List Action) (told more : List Answer) → AnswersFit fused first told
    → AnswersFit (fused_after fused first) rest more → AnswersFit fused (first ++ rest) (told ++ more)
AnswersFit-append fused [] rest told more done next = rw done next
AnswersFit-append fused (plays event ∷ first) rest [] more done next = absurd done
AnswersFit-append fused (plays event ∷ first) rest (answer ∷ told) more done next =
    (done.0, AnswersFit-append fused first rest told more done.1 next)
AnswersFit-append fused (action ∷ first) rest told more done next =
    AnswersFit-append (fuse_after fused action) first rest told more done next

fused_after-append : (fused : Bool) (first rest : List Action)
    → fused_after fused (first ++ rest) ≡ fused_after (fused_after fused first) rest
fused_after-append fused [] rest = refl
fused_after-append fused (action ∷ first) rest = fused_after-append (fuse_after fused action) first rest

text_of_lives-append : (fused : Bool) (first rest : List Action) (told more : List Answer) → AnswersFit fused first told
    → text_of_lives (first ++ rest) (told ++ more) ≡ text_of_lives first told ++ text_of_lives rest more
text_of_lives-append fused [] rest told more done = ap (λ (l : List Answer). text_of_lives rest (l ++ more)) done
text_of_lives-append fused (plays event ∷ first) rest [] more done = absurd done
text_of_lives-append fused (plays event ∷ first) rest (answer ∷ told) more done =
    ap (λ (text : List ℕ). line_for event answer ++ text) (text_of_lives-append fused first rest told more done.1)
    ∙ sym (append_assoc (line_for event answer) (text_of_lives first told) (text_of_lives rest more))
text_of_lives-append fused (action ∷ first) rest told more done = text_of_lives-append (fuse_after fused action) first rest told more done

acted-none : (lives : LivesValue) → Acted lives [] [] lives
acted-none lives = record { goes_on = rests lives; fits = λ fused is. refl; fuse = λ fused is. is }

acted-more : {old mid new : LivesValue} {first rest : List Action} {told more : List Answer}
    → Acted old first told mid → Acted mid rest more new → Acted old (first ++ rest) (told ++ more) new
acted-more {old} {mid} {new} {first} {rest} {told} {more} done next = record {
  goes_on = lives_go_on old mid new first rest told more done.goes_on next.goes_on;
  fits = λ fused is.
      AnswersFit-append fused first rest told more (done.fits fused is) (next.fits (fused_after fused first) (done.fuse fused is));
  fuse = λ fused is. rw (fused_after-append fused first rest) (next.fuse (fused_after fused first) (done.fuse fused is));
}

-- a fuse is armed
pub acted-fuse : (old new : LivesValue) (writes : ℕ) → LivesGoOn old (arms writes ∷ []) [] new → Acted old (arms writes ∷ []) [] new
acted-fuse old new writes on = record {
  goes_on = on;
  fits = λ fused is. refl;
  fuse = λ fused is never. absurd (true≢false never);
}

-- a failure of a call is armed: fuse and power are as they were
pub acted-fail : (old new : LivesValue) (call : ℕ) → LivesGoOn old (fails call ∷ []) [] new
    → IsFailing call (medium_in old.state) (medium_in new.state) → Acted old (fails call ∷ []) [] new
acted-fail old new call on failing = record {
  goes_on = on;
  fits = λ fused is. refl;
  fuse = λ fused is unfused. let so = is unfused in
      (ap (λ (m : Sim). m.power.fuse) failing ∙ so.0, ap (λ (m : Sim). m.power.off) failing ∙ so.1);
}

-- where no fuse was armed, the power stays on
stays_on : (old new : Sim) → ComesAfter old new → old.power.fuse ≡ None → old.power.off ≡ false → new.power.off ≡ false
stays_on old new after unfused on = elim (cases_Bool new.power.off) [
  | inl off ↦ absurd (((keeps_power old new after).goes_off on off).0 unfused)
  | inr is_on ↦ is_on
]

-- an event comes, and is answered
pub acted-event : (old new : LivesValue) (event : Event) (answer : Answer) → LivesGoOn old (comes event) (answer ∷ []) new
    → (answer ≡ Off) ↔ ((medium_in new.state).power.off ≡ true) → ComesAfter (medium_in old.state) (medium_in new.state)
    → Acted old (comes event) (answer ∷ []) new
acted-event old new event answer on off after = record {
  goes_on = on;
  fits = fits;
  fuse = λ fused is unfused. let so = is unfused in (
    (keeps_power (medium_in old.state) (medium_in new.state) after).no_fuse_stays so.0,
    stays_on (medium_in old.state) (medium_in new.state) after so.0 so.1,
  );
}
  where
    fits : (fused : Bool) → FuseIs fused old → AnswersFit fused (comes event) (answer ∷ [])
    fits true is = (λ is_off. refl, refl)
    fits false is =
        let so = is refl in
        (λ is_off. absurd (true≢false (sym (off.0 is_off) ∙ stays_on (medium_in old.state) (medium_in new.state) after so.0 so.1)), refl)

pub tells-none : (was : Option (List ℕ)) (lives : LivesValue) → TellsLives was was lives [] lives
tells-none was lives = record { answers = []; acted = acted-none lives; written = Appends-nil was }

-- what has no answer has no text
pub tells-silently : (was : Option (List ℕ)) {old new : LivesValue} {actions : List Action} → Acted old actions [] new
    → text_of_lives actions [] ≡ [] → TellsLives was was old actions new
tells-silently was acted none = record { answers = []; acted = acted; written = rw none (Appends-nil was) }

module _ {was mid : Option (List ℕ)} {old between : LivesValue} {first : List Action} (done : TellsLives was mid old first between) where
  -- what was told, and then more
  told_more : (rest : List Action) (more : List Answer)
      → text_of_lives (first ++ rest) (done.answers ++ more) ≡ text_of_lives first done.answers ++ text_of_lives rest more
  told_more rest more =
      text_of_lives-append true first rest done.answers more (done.acted.fits true (λ never. absurd (true≢false never)))

  written_more : (now : Option (List ℕ)) (rest : List Action) (more : List Answer) → Appends mid now (text_of_lives rest more)
      → Appends was now (text_of_lives (first ++ rest) (done.answers ++ more))
  written_more now rest more written =
      rw (told_more rest more) (Appends-trans was mid now (text_of_lives first done.answers) (text_of_lives rest more) done.written written)

  pub tells-more : {now : Option (List ℕ)} {new : LivesValue} {rest : List Action} → TellsLives mid now between rest new
      → TellsLives was now old (first ++ rest) new
  tells-more {now} {new} {rest} next = record {
    answers = done.answers ++ next.answers;
    acted = acted-more done.acted next.acted;
    written = written_more now rest next.answers next.written;
  }

  ends-more : (now : Option (List ℕ)) (new : LivesValue) (rest : List Action) (last : Action) (more : List Answer) (fault : ScriptFault)
      → EndsBy mid now between rest more last new fault → EndsBy was now old (first ++ rest) (done.answers ++ more) last new fault
  ends-more now new rest last more (Start fault) ends = record {
    mid = ends.mid;
    acted = acted-more done.acted ends.acted;
    is = ends.is;
    refused = ends.refused;
    written = written_more now rest more ends.written;
  }
  ends-more now new rest last more Writer ends = record {
    event = ends.event;
    is = ends.is;
    answer = ends.answer;
    acted = rw (append_assoc first rest (plays ends.event ∷ []), append_assoc done.answers more (ends.answer ∷ []))
        (acted-more done.acted ends.acted);
    written = rw (told_more rest more)
        (AppendsUpTo-more was mid now (text_of_lives first done.answers) (text_of_lives rest more) (line_for ends.event ends.answer)
        done.written ends.written);
  }
  ends-more now new rest last more _ ends = absurd ends

  -- some actions were done, and others broke off
  module _ {now : Option (List ℕ)} {new : LivesValue} {rest : List Action} {fault : ScriptFault}
      (breaks : BreaksOff mid now between rest new fault) where
    pub ends-behind : EndsBy was now old (first ++ breaks.first) (done.answers ++ breaks.answers) breaks.last new fault
    ends-behind = ends-more now new breaks.first breaks.last breaks.answers fault breaks.ends

    -- and further ones were left
    pub breaks-more : (others : List Action) → BreaksOff was now old (first ++ (rest ++ others)) new fault
    breaks-more others = record {
      first = first ++ breaks.first;
      last = breaks.last;
      rest = breaks.rest ++ others;
      parts = rw breaks.parts (let all : first ++ ((breaks.first ++ breaks.last ∷ breaks.rest) ++ others)
          ≡ (first ++ breaks.first) ++ (breaks.last ∷ (breaks.rest ++ others)) = simp append_assoc in all);
      answers = done.answers ++ breaks.answers;
      ends = ends-behind;
    }

-- the start before an event was refused
pub breaks-start : (was : Option (List ℕ)) (old new : LivesValue) (event : Event) (fault : StartFault) → LivesRefuseStart old fault new
    → BreaksOff was was old (comes event) new (Start fault)
breaks-start was old new event fault refused = record {
  first = [];
  last = starts;
  rest = plays event ∷ [];
  parts = refl;
  answers = [];
  ends = record { mid = old; acted = acted-none old; is = refl; refused = refused; written = Appends-nil was };
}

-- the answer to an event was not written
pub breaks-writer : (was now : Option (List ℕ)) {old new : LivesValue} {event : Event} {answer : Answer}
    → Acted old (comes event) (answer ∷ []) new → AppendsSome was now (line_for event answer)
    → BreaksOff was now old (comes event) new Writer
breaks-writer was now {old} {new} {event} {answer} acted written = record {
  first = starts ∷ [];
  last = plays event;
  rest = [];
  parts = refl;
  answers = [];
  ends = record { event = event; is = refl; answer = answer; acted = acted; written = written };
}

-- an event was answered, and the answer written
pub tells-event : (was now : Option (List ℕ)) {old new : LivesValue} {event : Event} {answer : Answer}
    → Acted old (comes event) (answer ∷ []) new → Appends was now (line_for event answer) → TellsLives was now old (comes event) new
tells-event was now {old} {new} {event} {answer} acted written =
    record { answers = answer ∷ []; acted = acted; written = rw (append-nil (line_for event answer)) written }
