-- Runs of a disk, one event after another.
use Rattle.std.proofs.Common.{◌≡◌, ℕ, ◌+◌, ◌<◌, ◌≤◌, Bool, true, false, List, [], ◌∷◌, ◌++◌, length, refl, sym, ap, ◌∙◌, arith}
use Rattle.std.proofs.Common.{append_assoc, ltb-true}
use Rattle.medium.specs.Medium.{State}
use Rattle.logical_blocks.specs.Book.{Book}
use Rattle.spec.specs.declared.event.Event.{Event}
use Rattle.spec.specs.declared.event.Answer.{Answer}
use Rattle.spec.specs.Conversation.{refused_events}
use Rattle.bot_machine.specs.Disk.{DiskValue, FitsDisk, IsStep, StepsThrough, over}
use Rattle.spec.specs.UnitConversation.{UnitRun}
use Rattle.usbdisk.specs.runner.Text.{line_for, text_of}
use Rattle.usbdisk.specs.runner.Played.{StepsOn}

pub text_of-append : (first rest : List Event) (told more : List Answer) → length told ≡ length first
    → text_of (first ++ rest) (told ++ more) ≡ text_of first told ++ text_of rest more
text_of-append [] rest [] more each = refl
text_of-append (event ∷ first) rest (answer ∷ told) more each =
    ap (λ text. line_for event answer ++ text) (text_of-append first rest told more (omega (arith, each)))
    ∙ sym (append_assoc (line_for event answer) (text_of first told) (text_of rest more))
text_of-append _ rest _ more each = absurd (omega (arith, each))

-- one event is counted before others, where a call was refused in it
counted : (refused : Bool) (refusals : List Bool) (before mid after : ℕ) → (refused ≡ true → before < mid) → before ≤ mid
    → refused_events refusals + mid ≤ after → refused_events (refused ∷ refusals) + before ≤ after
counted true refusals before mid after grew stays rest = let h = grew refl in omega (arith, h, rest)
counted false refusals before mid after grew stays rest = omega (arith, stays, rest)

module _ {M : Type 0} (state : M → State) where
  -- over each book that it fits a disk played these events with these answers
  pub record Answers (old : DiskValue M) (events : List Event) (answers : List Answer) (refusals : List Bool) (new : DiskValue M)
      : Type 0 where
    pub refused : refused_events refusals + (state old.unit.store.medium).failures ≤ (state new.unit.store.medium).failures
    pub runs : (book : Book) → FitsDisk (state old.unit.store.medium) old book
        → (later : Book) × UnitRun (over old book) events answers refusals (over new later)
        × FitsDisk (state new.unit.store.medium) new later × (later.ours ≡ book.ours)

  pub answers_of : (events : List Event) (answers : List Answer) (refusals : List Bool) (old new : DiskValue M)
      → StepsThrough state old events answers refusals new → Answers old events answers refusals new
  answers_of [] [] [] old new steps = rw steps (record { refused = omega arith; runs = λ book fits. (book, refl, fits, refl) })
  answers_of (event ∷ events) (answer ∷ answers) (refused ∷ refusals) old new steps =
      let mid = steps.0 in
      let step = steps.1.0 in
      let rest = answers_of events answers refusals mid new steps.2 in
      let before = (state old.unit.store.medium).failures in
      let between = (state mid.unit.store.medium).failures in
      record {
        refused = counted refused refusals before between _ (λ is. ltb-true before between (sym steps.1.1 ∙ is))
            step.elapses.failures_stay rest.refused;
        runs = λ book fits.
            let on = step.proceeds book fits in
            let there = rest.runs on.later on.fits in
            (there.0, (over mid on.later, rw steps.1.1 on.moves, there.1), there.2, there.3 ∙ on.ours);
      }
  answers_of _ _ _ old new steps = absurd steps

  -- one step
  pub steps-one : (Follows : M → M → Type 0) (event : Event) (answer : Answer) (old new : DiskValue M)
      → IsStep (state old.unit.store.medium) (state new.unit.store.medium) old event answer new
      → Follows old.unit.store.medium new.unit.store.medium → StepsOn state Follows old (event ∷ []) (answer ∷ []) new
  steps-one Follows event answer old new step follows = (_ ∷ [], (new, (step, refl), refl), follows)
