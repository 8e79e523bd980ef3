-- Media over which a life opens: one that was formatted or migrated and cut, and one that lives have left.
use Rattle.std.proofs.Common.{◌≡◌, ℕ, ◌+◌, ◌/◌, Bool, true, false, List, [], ◌∷◌, ◌++◌, replicate, refl, sym, ap, subst, ◌∙◌, ⊎_elim, inl}
use Rattle.std.proofs.Common.{inr, arith, append_assoc}
use Rattle.std.proofs.lemmas.Bool.{cases_Bool}
use Rattle.std.specs.Prelude.{map}
use Rattle.logical_blocks.specs.Blocks.{Array}
use Rattle.medium.specs.Medium.{Image}
use Rattle.medium.specs.Moments.{EachCut, IsFlushed}
use Rattle.medium.specs.Sim.{Sim, state_of, size_of, content_of, IsCut}
use Rattle.medium.specs.SimLaws.{is_sound, size_whole}
use Rattle.medium.specs.Writes.{sector_of, are_whole, keeps}
use Rattle.medium.proofs.KeptBlocks.{kept_allowed, none_size, none_content, none_flushed}
use Rattle.medium.proofs.Moments.{only_image, content_has}
use Rattle.journal.specs.Places.{limit_of, migrated}
use Rattle.logical_blocks.specs.Book.{Book, opened}
use Rattle.bot_machine.specs.Books.{StandsAs}
use Rattle.bot_machine.specs.Device.{presented, Device}
use Rattle.spec.specs.declared.event.Event.{Event}
use Rattle.spec.specs.declared.event.Answer.{Answer}
use Rattle.bot_machine.specs.declared.lives.life.Life.{Life}
use Rattle.spec.specs.Lives.{Action, starts, plays, cuts, Place, before_first, between, runs, off, Standing, Opens}
use Rattle.spec.specs.Lives.{LifeBegins, LivesStep, LivesRun, after_cut}
use Rattle.bot_machine.specs.LivesValue.{OpensOn, HasLimit, book_at, FoundAt}
use Rattle.spec.specs.{Disks.prompt_disk, Promise.{first_standing}}
use Rattle.bot_machine.specs.Lifetimes.{actions_of_all, armed_by}
use Rattle.bot_machine.proofs.BookLaws.{book_laws}
use Rattle.bot_machine.proofs.LifeStarts.{next_opens, stands_ours}
use Rattle.bot_machine.proofs.UnitLaws.{knows_images}
use Rattle.usbdisk.specs.runner.Laws.{IsReadyFor, FormatIsReady, MigrationIsReady, LivesAreReady}

-- where nothing is unflushed and the contents are ours for a book, a life opens with it
opens_at_rest : (m : Sim) (blocks : ℕ) (array : Array) (next : ℕ) → m.unflushed ≡ []
    → StandsAs (state_of m).size blocks (state_of m).content array next → OpensOn (state_of m) (opened blocks array next true)
opens_at_rest m blocks array next none stands = record {
  opens = refl;
  stands = knows_images.stands_for (state_of m).size (opened blocks array next true) (state_of m).content stands;
  ours = λ is image cut.
      let same : image ≡ (state_of m).content = only_image (state_of m).content (state_of m).may_leave (none_flushed m none) image cut in
      (blocks, array, next, subst (λ (i : Image). StandsAs (state_of m).size blocks i array next) (sym same) stands);
}

-- ---- a medium that was formatted or migrated, and cut

module _ (blocks next : ℕ) (array : Array) (made cut : Sim) (keep : ℕ → Bool) (flushed : IsFlushed (state_of made))
    (s : StandsAs (state_of made).size blocks (state_of made).content array next) (c : IsCut keep made cut) where
  none_of_no_sectors : are_whole made.unflushed ≡ false → size_of made ≡ 0
  none_of_no_sectors not = rw not refl

  -- its unflushed writes are whole sectors, since it has sectors
  are_sectors : are_whole made.unflushed ≡ true
  are_sectors = elim (cases_Bool (are_whole made.unflushed)) [
    | inl whole ↦ whole
    | inr not ↦
        let fits = s.2.stands.fits in
        let some = s.2.stands.keeps.super.some_blocks in
        absurd (omega (arith, fits, some, none_of_no_sectors not))
  ]

  size_same : (state_of cut).size ≡ (state_of made).size
  size_same = none_size cut c.none ∙ ap (λ (n : ℕ). n / 512) c.size_stays ∙ sym (size_whole made are_sectors)

  content_at : (x : ℕ) → content_of cut x ≡ content_of made x
  content_at x = none_content cut c.none x ∙ c.image x ∙ flushed x _ (kept_allowed keep made.unflushed (sector_of made.flushed) x)

  content_same : (state_of cut).content ≡ (state_of made).content
  content_same = λ i x. content_at x i

  stands_cut : StandsAs (state_of cut).size blocks (state_of cut).content array next
  stands_cut = rw size_same (subst (λ (image : Image). StandsAs (state_of made).size blocks image array next) (sym content_same) s)

  -- the contents have the limit of the format
  limited_cut : HasLimit (state_of cut).size (limit_of s.0.format) (state_of cut).content
  limited_cut = rw size_same
      (subst (HasLimit (state_of made).size (limit_of s.0.format)) (sym content_same)
      (record { shape = s.0; array = array; next = next; stands = s.2.stands; limit_is = refl }))

  is_ready : IsReadyFor cut (limit_of s.0.format) (opened blocks array next true)
  is_ready = record {
    rests = record { on = ap (λ p. p.off) c.power_on; flushed = c.none };
    unfused = ap (λ p. p.fuse) c.power_on;
    opens = opens_at_rest cut blocks array next c.none stands_cut;
    limited = limited_cut;
    ours = refl;
  }

pub format_is_ready : FormatIsReady
format_is_ready = λ shape made cut keep f c.
    is_ready shape.blocks 2 (λ block. replicate 512 0) made cut keep f.flushed (shape, refl, f.ours) c

pub migration_is_ready : MigrationIsReady
migration_is_ready = λ old made cut answer keep size m c.
    is_ready m.shape.blocks (answer.next + 1) m.array made cut keep m.made.flushed
    (subst (λ (n : ℕ). StandsAs n m.shape.blocks (state_of made).content m.array (answer.next + 1)) (sym size)
    (migrated m.shape, refl, m.ours)) c

-- ---- where lives stand

-- lives that began with this book stand here: before a first life it is the book still, and whether it is ours stays
abbrev IsFrom : Book → Place prompt_disk → Type 0
IsFrom book (before_first other) = other ≡ book
IsFrom book place = (book_at place).ours ≡ book.ours

module _ (device : Device) (book : Book) where
  from_begun : (refused : Bool) (old new : Standing prompt_disk) (begins : LifeBegins (presented device) refused old new)
      → begins.book.ours ≡ book.ours → IsFrom book new.place
  from_begun refused old new begins ours = ⊎_elim (λ is. rw is ours) (λ goes. rw goes.after ours) begins.begins

  from_start : (refused : Bool) (place : Place prompt_disk) (armed : Bool) (limit : ℕ) (new : Standing prompt_disk) (told : List Answer)
      → IsFrom book place
      → LivesStep (presented device) refused (record { place = place; armed = armed; limit = limit }) starts told new
      → IsFrom book new.place
  from_start refused (before_first other) armed limit new told from h =
      from_begun refused _ new h.1 (ap (λ (b : Book). b.ours) (h.1.opens ∙ from))
  from_start refused (between remains) armed limit new told from h =
      from_begun refused _ new h.1 (ap (λ (b : Book). b.ours) h.1.opens.opens ∙ from)
  from_start refused _ armed limit new told from h = rw h.1 from

  from_event : (refused : Bool) (place : Place prompt_disk) (armed : Bool) (limit : ℕ) (new : Standing prompt_disk) (happens : Event)
      (told : List Answer) → IsFrom book place
      → LivesStep (presented device) refused (record { place = place; armed = armed; limit = limit }) (plays happens) told new
      → IsFrom book new.place
  from_event refused (runs conversation) armed limit new happens told from h = ⊎_elim
      (λ ends. rw ends.after ((book_laws.life refused conversation ends.later happens h.0 ends.step).ours ∙ from))
      (λ cut. rw cut.goes.after from) h.2
  from_event refused (off remains) armed limit new happens told from h = rw h.2.1 from
  from_event refused _ armed limit new happens told from h = absurd h.2

  from_cut : (place : Place prompt_disk) → IsFrom book place → IsFrom book (after_cut place)
  from_cut (before_first other) from = from
  from_cut _ from = from

  from_step : (refused : Bool) (old new : Standing prompt_disk) (action : Action) (told : List Answer) → IsFrom book old.place
      → LivesStep (presented device) refused old action told new → IsFrom book new.place
  from_step refused old new starts told from h = from_start refused old.place old.armed old.limit new told from h
  from_step refused old new (plays happens) told from h = from_event refused old.place old.armed old.limit new happens told from h
  from_step refused old new (cuts keep) told from h = rw h.1 (from_cut old.place from)
  from_step refused old new _ told from h = rw h.1 from

  from_run : (actions : List Action) (old new : Standing prompt_disk) (told : List Answer) (refusals : List Bool) → IsFrom book old.place
      → LivesRun (presented device) old actions told refusals new → IsFrom book new.place
  from_run [] old new told [] from run = rw run.1 from
  from_run (action ∷ actions) old new told (refused ∷ refusals) from run =
      from_run actions run.0 new run.2 refusals (from_step refused old run.0 action run.1 from run.4) run.5
  from_run _ old new told _ from run = absurd run

-- no disk runs here, and the power is on
abbrev IsBetween : Place prompt_disk → Type 0
IsBetween (runs conversation) = ⊥
IsBetween (off remains) = ⊥
IsBetween place = Unit {0}

cut_between : (place : Place prompt_disk) → IsBetween (after_cut place)
cut_between (before_first book) = tt
cut_between _ = tt

module _ (device : Device) where
  -- behind a cut no disk runs
  behind_cut : (keep : ℕ → Bool) (first rest : List Action) (old new : Standing prompt_disk) (told : List Answer) (refusals : List Bool)
      → LivesRun (presented device) old (first ++ cuts keep ∷ rest) told refusals new
      → (mid : Standing prompt_disk) × (more : List Answer) × (others : List Bool) × IsBetween mid.place
      × LivesRun (presented device) mid rest more others new
  behind_cut keep [] rest old new told (refused ∷ refusals) run = (run.0, run.2, refusals, rw run.4.1 (cut_between old.place), run.5)
  behind_cut keep (action ∷ first) rest old new told (refused ∷ refusals) run =
      behind_cut keep first rest run.0 new run.2 refusals run.5
  behind_cut keep _ rest old new told _ run = absurd run

  all_between : (lives : List Life) (old new : Standing prompt_disk) (told : List Answer) (refusals : List Bool) → IsBetween old.place
      → LivesRun (presented device) old (actions_of_all lives) told refusals new → IsBetween new.place
  all_between [] old new told [] rests run = rw run.1 rests
  all_between [] old new told (refused ∷ refusals) rests run = absurd run
  all_between (life ∷ lives) old new told refusals rests run =
      let before : List Action = armed_by life.fuse ++ starts ∷ map plays life.events.items in
      let cut : Action = cuts (keeps life.kept) in
      let whole = rw (append_assoc before (cut ∷ []) (actions_of_all lives)) at run in
      let b = behind_cut (keeps life.kept) before (actions_of_all lives) old new told refusals whole in
      all_between lives b.0 new b.1 b.2 b.3 b.4

-- a life opens where no disk runs
opens_next : (m : Sim) (book : Book) (place : Place prompt_disk) → m.unflushed ≡ []
    → book ≡ opened book.blocks book.opening book.stamp book.ours → book.ours ≡ true → IsFrom book place → IsBetween place
    → EachCut (FoundAt (state_of m).size place) (state_of m)
    → (next : Book) × OpensOn (state_of m) next × (next.ours ≡ true) × Opens place next
opens_next m book (before_first other) none is ours from rests found =
    let stands : StandsAs (state_of m).size other.blocks (state_of m).content other.opening other.stamp =
    content_has (FoundAt (state_of m).size (before_first other)) (state_of m) (is_sound m) found in
    let same : book ≡ opened book.blocks book.opening book.stamp true = is ∙ ap (opened book.blocks book.opening book.stamp) ours in
    let here = rw from at stands in (
      other,
      subst (OpensOn (state_of m)) (sym (from ∙ same)) (opens_at_rest m book.blocks book.opening book.stamp none here),
      ap (λ (b : Book). b.ours) from ∙ ours,
      refl,
    )
opens_next m book (between remains) none is ours from rests found =
    let w = next_opens m remains remains.book.blocks remains.book.opening remains.book.stamp (λ is_ours. found) in
    let next_ours : w.book.ours ≡ true = w.ours ∙ from ∙ ours in
    (w.book, stands_ours w next_ours, next_ours, w.opens)
opens_next m book _ none is ours from rests found = absurd rests

pub lives_are_ready : LivesAreReady
lives_are_ready = λ before after device lives told lived limit book opens has ours.
    let ends = lived.kept.lives limit book opens has in
    let size = lived.size_stays in
    let here : EachCut (FoundAt (state_of after).size ends.last.place) (state_of after) =
    λ image cut. rw size (ends.found ours image cut) in
    let limits : EachCut (HasLimit (state_of after).size limit) (state_of after) = λ image cut. rw size (ends.limited ours image cut) in
    let first : Standing prompt_disk = first_standing limit book in
    let from = from_run device book (actions_of_all lives) first ends.last told lived.kept.refusals refl ends.run in
    let rests = all_between device lives first ends.last told lived.kept.refusals tt ends.run in
    let next = opens_next after book ends.last.place lived.rests.flushed opens.opens ours from rests here in (
      next.0,
      record {
        rests = lived.rests;
        unfused = lived.unfused;
        opens = next.1;
        limited = content_has (HasLimit (state_of after).size limit) (state_of after) (is_sound after) limits;
        ours = next.2;
      },
      next.3,
    )
