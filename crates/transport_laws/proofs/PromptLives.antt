-- Lives of a disk that acts on each packet at once are lives of one whose device may be behind.
use Rattle.std.proofs.Common.{◌≡◌, inl, inr, ℕ, Bool, false, List, [], ◌∷◌, refl, ap, subst}
use Rattle.logical_blocks.specs.Book.{Book}
use Rattle.scsi.specs.Rules.{UnitState}
use Rattle.spec.specs.declared.event.{Event.Event, Answer.Answer}
use Rattle.spec.specs.declared.event.Event.TheVariants as event
use Rattle.spec.specs.{Conversation.Conversation, UnitConversation.UnitStep}
use Rattle.spec.specs.{Lagging.{settled, UnitLagStep}, Disks.{prompt_disk, lagging_disk}}
use Rattle.spec.specs.Lives.{Presentation, Action, arms, fails, starts, plays, cuts, Place, before_first, between, runs, off, Standing}
use Rattle.spec.specs.Lives.{Remains, PowerGoes, LifeBegins, StartsAt, PlaysAt, LivesStep, after_cut}
use Rattle.transport_laws.specs.KeptLag.{place_behind, standing_behind, PromptLivesLag}

step_behind : (refused : Bool) (old : Conversation UnitState) (happens : Event) (answer : Answer) (new : Conversation UnitState)
    → UnitStep refused old happens answer new → UnitLagStep refused (settled old) happens answer (settled new)
step_behind refused old (event.Out packet) answer new step = inl (record { step = step; pending = refl })
step_behind refused old event.In answer new step = record { step = step; pending = refl }
step_behind refused old (event.Setup setup) answer new step = record { step = step; pending = refl }
step_behind refused old event.Tick answer new step = record { step = step; pending = refl }

power_behind : (refused : Bool) (remains : Remains) (old new : Standing prompt_disk) → PowerGoes refused remains old new
    → PowerGoes refused remains (standing_behind old) (standing_behind new)
power_behind refused remains old new goes = record {
  fused = goes.fused;
  cause = goes.cause;
  after = ap standing_behind goes.after;
}

module _ (disk : Presentation) (refused : Bool) (armed : Bool) (limit : ℕ) where
  abbrev at : Place prompt_disk → Standing prompt_disk
  at place = record { place = place; armed = armed; limit = limit }

  begins_first : (book : Book) (new : Standing prompt_disk) → LifeBegins disk refused (at (before_first book)) new
      → LifeBegins disk refused (standing_behind (at (before_first book))) (standing_behind new)
  begins_first book new life = record {
    book = life.book;
    opens = life.opens;
    limit = life.limit;
    keeps_limit = life.keeps_limit;
    begins = elim life.begins [
      | inl begun ↦ inl (ap standing_behind begun)
      | inr goes ↦ inr (power_behind refused _ (at (before_first book)) new goes)
    ];
  }

  begins_between : (remains : Remains) (new : Standing prompt_disk) → LifeBegins disk refused (at (between remains)) new
      → LifeBegins disk refused (standing_behind (at (between remains))) (standing_behind new)
  begins_between remains new life = record {
    book = life.book;
    opens = life.opens;
    limit = life.limit;
    keeps_limit = life.keeps_limit;
    begins = elim life.begins [
      | inl begun ↦ inl (ap standing_behind begun)
      | inr goes ↦ inr (power_behind refused _ (at (between remains)) new goes)
    ];
  }

  starts_behind : (place : Place prompt_disk) (new : Standing prompt_disk) → StartsAt place disk refused (at place) new
      → StartsAt (place_behind place) disk refused (standing_behind (at place)) (standing_behind new)
  starts_behind (before_first book) new life = begins_first book new life
  starts_behind (between remains) new life = begins_between remains new life
  starts_behind (runs now) new same = ap standing_behind same
  starts_behind (off remains) new same = ap standing_behind same

  plays_behind : (place : Place prompt_disk) (happens : Event) (answer : Answer) (new : Standing prompt_disk)
      → PlaysAt place refused happens answer (at place) new
      → PlaysAt (place_behind place) refused happens answer (standing_behind (at place)) (standing_behind new)
  plays_behind (runs now) happens answer new (inl ends) = inl (record {
    later = settled ends.later;
    step = step_behind refused now happens answer ends.later ends.step;
    after = ap standing_behind ends.after;
  })
  plays_behind (runs now) happens answer new (inr cut) =
      inr (record { answered = cut.answered; goes = power_behind refused _ (at (runs now)) new cut.goes })
  plays_behind (off remains) happens answer new (told, same) = (told, ap standing_behind same)
  plays_behind place happens answer new played = absurd played

cut_behind : (place : Place prompt_disk) → place_behind (after_cut place) ≡ after_cut (place_behind place)
cut_behind (before_first book) = refl
cut_behind (between remains) = refl
cut_behind (runs now) = refl
cut_behind (off remains) = refl

one_behind : (disk : Presentation) (refused : Bool) (old new : Standing prompt_disk) (action : Action) (answers : List Answer)
    → LivesStep disk refused old action answers new
    → LivesStep disk refused (standing_behind old) action answers (standing_behind new)
one_behind disk refused old new (arms writes) answers (told, same) = (told, ap standing_behind same)
one_behind disk refused old new (fails call) answers (told, same) = (told, ap standing_behind same)
one_behind disk refused old new starts answers (told, begins) =
    (told, starts_behind disk refused old.armed old.limit old.place new begins)
one_behind disk refused old new (plays happens) answers (answer, told, played) =
    (answer, told, plays_behind disk refused old.armed old.limit old.place happens answer new played)
one_behind disk refused old new (cuts keeps) answers (told, same) = (
  told,
  subst (λ (p : Place lagging_disk). standing_behind new ≡ record { place = p; armed = false; limit = old.limit })
      (cut_behind old.place) (ap standing_behind same),
)

pub lives_lag : PromptLivesLag
lives_lag disk old new [] answers [] (told, same) = (told, ap standing_behind same)
lives_lag disk old new (action ∷ actions) answers (refused ∷ refusals) (mid, here, later, split, step, rest) = (
  standing_behind mid,
  here,
  later,
  split,
  one_behind disk refused old mid action here step,
  lives_lag disk mid new actions later refusals rest,
)
lives_lag disk old new actions answers refusals run = absurd run
