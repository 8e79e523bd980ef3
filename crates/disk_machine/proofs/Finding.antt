-- One event of the disk, wherever the device is: what a start finds of a book stays to be found.
use Rattle.std.proofs.Common.{◌≡◌, ◌⊎◌, ◌≤◌, ◌++◌, ◌∷◌, [], inl, inr, List, ℕ, Bool, true, length, take, sym, ◌∙◌, ap, subst, refl}
use Rattle.std.proofs.{Common.{arith, append_assoc, length-append, Some, None, Option}, lemmas.Bool.cases_lt}
use Rattle.std.proofs.lemmas.List.{take-append-le, append-nil}
use Rattle.medium.specs.{Medium.{Image, CutLeaves}}
use Rattle.logical_blocks.specs.{Blocks.Write, Book.{Book, with_write, with_progress}}
use Rattle.scsi.specs.Rules.{UnitState}
use Rattle.spec.specs.{Lagging.Lagging, declared.event.{Event.Event, Answer.Answer}}
use Rattle.window.specs.{Device.{durable, after}, OutboxMedium.sent, Parts.AreCarriedOut, Story.given, declared.call.DeviceCall.DeviceCall}
use Rattle.window.specs.{declared.asked.Asked.Asked, Window.{Window, state_of, mirror_of}}
use Rattle.scsi_unit.specs.{Books.MayFind, Laws.IsSameLife}
use Rattle.bot_machine.specs.LaggingDisk.{GrowsTo, IsLagStepBy, LagStepMade, StandsFor, held_book, held_write}
use Rattle.disk_machine.specs.{Plays.{Disk, PlaysTick, is_faulted, medium_of}, Moves.{LeavesNoMore, ServesLater, ServesTurns, played}}
use Rattle.scsi_unit.specs.Serving as serving
use Rattle.spec.specs.declared.event.Event.TheVariants as event
use Rattle.spec.specs.declared.event.Answer.TheVariants as answer
use Rattle.disk_machine.specs.Machine.{Machine, MayLeave, Finds, Keeps, Serves, has_refused, under_way, carried}

-- ---- what may be found, from book to book

module _ (size : ℕ) (image : Image) where
  -- no more promises keep no more, and more writes take nothing away
  found_more : (old new : Book) → IsSameLife old new → new.mark ≤ old.mark → (since : List Write) → new.writes ≡ old.writes ++ since
      → MayFind size old image → MayFind size new image
  found_more old new life fewer since more found =
      let marked = found.promises in
      let within = found.accepted in
      let bound = found.bound in
      let longer = simp length-append at (ap (λ (l : List Write). length l) more) in record {
        count = found.count;
        next = found.next;
        promises = omega arith;
        accepted = omega (arith, longer);
        stands = rw (life.blocks, life.opening, more, take-append-le found.count old.writes since within) found.stands;
        bound = omega (arith, longer, life.stamp);
      }

  module _ (faulted dead : Bool) (old new : Book) (life : IsSameLife old new) (fewer : new.mark ≤ old.mark)
      (grows : GrowsTo dead old new) where
    found_on : MayFind size old image → Finds size dead new image
    found_on found = elim grows [
      | inl more ↦ inl (found_more old new life fewer more.0 more.1 found)
      | inr less ↦ inr (
        less.0,
        (
          less.1.0,
          found_more old (with_write new less.1.0)
              (record { blocks = life.blocks; opening = life.opening; stamp = life.stamp; ours = life.ours }) fewer []
              (sym less.1.1 ∙ sym (append-nil old.writes)) found,
        ),
      )
    ]

    -- a unit that was faulted stays so, and its book too
    pub finds_on : (faulted ≡ true → (dead ≡ true) × (new ≡ old)) → Finds size faulted old image → Finds size dead new image
    finds_on stays (inl found) = found_on found
    finds_on stays (inr found) = inr (
      (stays found.0).0,
      (
        found.1.0,
        subst (λ (b : Book). MayFind size (with_write b found.1.0) image) (sym (stays found.0).1) found.1.1,
      ),
    )

    pub finds_amid : MayFind size old image → Finds size dead new image
    finds_amid found = found_on found

-- ---- the books that the unit fits

held_life : (old new : Book) (was now : Option Write) → IsSameLife old new → IsSameLife (with_progress old was) (with_progress new now)
held_life old new None None life = life
held_life old new None (Some w) life = record { blocks = life.blocks; opening = life.opening; stamp = life.stamp; ours = life.ours }
held_life old new (Some w) None life = record { blocks = life.blocks; opening = life.opening; stamp = life.stamp; ours = life.ours }
held_life old new (Some w) (Some v) life = record { blocks = life.blocks; opening = life.opening; stamp = life.stamp; ours = life.ours }

pub held_mark : (book : Book) (write : Option Write) → (with_progress book write).mark ≡ book.mark
held_mark book None = refl
held_mark book (Some w) = refl

-- ---- an event

module _ {Promises : Type 0} {refused : Bool} (old new : Disk) (event : Event) (answer : Answer)
    (step : IsLagStepBy Promises refused (state_of (medium_of old)) (state_of (medium_of new)) old event answer new) (book : Book)
    (c : Lagging UnitState) (stands : StandsFor (state_of (medium_of old)) old book c) where
  abbrev pub made : LagStepMade Promises refused (state_of (medium_of old)) (state_of (medium_of new)) event answer old new book c
  made = step.proceeds book c stands

  -- where no promise was made, what was found before it is found behind it
  module _ (size : ℕ) (image : Image) (none : made.later.mark ≡ book.mark) where
    fewer : (held_book new made.later).mark ≤ (held_book old book).mark
    fewer = omega (
      arith,
      none,
      held_mark made.later (held_write new.pending new.disk.line.left),
      held_mark book (held_write old.pending old.disk.line.left),
    )

    life : IsSameLife (held_book old book) (held_book new made.later)
    life = held_life book made.later (held_write old.pending old.disk.line.left) (held_write new.pending new.disk.line.left) made.life

    pub found_behind : Finds size (is_faulted old) (held_book old book) image → Finds size (is_faulted new) (held_book new made.later) image
    found_behind = finds_on size image (is_faulted old) (is_faulted new) (held_book old book) (held_book new made.later) life fewer
        made.grows (λ was. (step.dead_stays was, made.fault was))

    pub found_amid : MayFind size (held_book old book) image → Finds size (is_faulted new) (held_book new made.later) image
    found_amid = finds_amid size image (is_faulted old) (is_faulted new) (held_book old book) (held_book new made.later) life fewer
        made.grows

-- ---- wherever the device is

-- a machine whose disk has played an event that asked the device for nothing
module _ (old new : Machine) (same : new.asked ≡ old.asked) where
  pub still_leaves : medium_of new.disk ≡ medium_of old.disk → LeavesNoMore old new
  still_leaves medium image left = record {
    count = left.count;
    done = left.done;
    reaches = omega (arith, left.reaches, ap under_way same, ap (λ (w : Window). length w.seen.told.taken) medium);
    are = subst (λ (w : Window). AreCarriedOut (take left.count (sent (mirror_of w))) left.done) medium left.are;
    cut = subst (λ (w : Window). CutLeaves (after (durable w.seen.told.opening) left.done).may_leave image) medium left.cut;
  }

  module _ {Promises : Type 0} {refused : Bool} (event : Event) (answer : Answer)
      (step : IsLagStepBy Promises refused (state_of (medium_of old.disk)) (state_of (medium_of new.disk)) old.disk event answer
      new.disk) where
    -- what was kept before it is kept behind it
    serves_by : (book : Book) (c : Lagging UnitState) (serves : Serves old book c)
        → Keeps new (made old.disk new.disk event answer step book c serves.stands).later
        → ServesLater book c (played event answer ∷ []) new
    serves_by book c serves keeps =
        let m = made old.disk new.disk event answer step book c serves.stands in record {
          later = m.later;
          next = m.next;
          serves = record {
            stands = m.stands;
            keeps = keeps;
            faulted = λ gone. step.dead_stays (serves.faulted (sym (ap (λ (a : Asked). has_refused a) same) ∙ gone));
          };
          life = m.life;
          since = m.since;
          writes = m.writes;
          promises = m.rises;
          run = (refused, m.next, m.step, refl);
        }

    -- no promise is made, and the device is asked for nothing
    pub still_serves : ((book : Book) (c : Lagging UnitState) (stands : StandsFor (state_of (medium_of old.disk)) old.disk book c)
        → (made old.disk new.disk event answer step book c stands).later.mark ≡ book.mark) → LeavesNoMore old new
        → ServesTurns (played event answer ∷ []) old new
    still_serves none leaves book c serves =
        serves_by book c serves (λ ours image left.
        let stands = serves.stands in
        let m = made old.disk new.disk event answer step book c stands in
        subst (λ (n : ℕ). Finds n (is_faulted new.disk) (held_book new.disk m.later) image) (sym step.elapses.size_stays)
        (found_behind old.disk new.disk event answer step book c stands (state_of (medium_of old.disk)).size image (none book c stands)
        (serves.keeps (sym m.life.ours ∙ ours) image (leaves image left))))

-- a step, whose calls are appended to the outbox
module _ {Promises : Type 0} (old new : Machine) (plays : PlaysTick Promises old.disk new.disk) (same : new.asked ≡ old.asked) where
  -- what was sent before is the first part of what was sent
  more_sent : sent (mirror_of (medium_of new.disk)) ≡ sent (mirror_of (medium_of old.disk)) ++ given plays.follows.since
  more_sent = (λ i. plays.follows.taken_stays i ++ plays.follows.outbox i)
      ∙ sym (append_assoc (medium_of old.disk).seen.told.taken (medium_of old.disk).outbox (given plays.follows.since))

  as_far : carried new ≡ carried old
  as_far = omega (arith, ap under_way same, ap (λ (l : List DeviceCall). length l) plays.follows.taken_stays)

  -- a device that has none of what the step sent
  left_before : (image : Image) → (left : MayLeave new image) → left.count ≤ length (sent (mirror_of (medium_of old.disk)))
      → MayLeave old image
  left_before image left early = record {
    count = left.count;
    done = left.done;
    reaches = omega (arith, left.reaches, as_far);
    are = subst (λ (calls : List DeviceCall). AreCarriedOut calls left.done)
        (ap (λ (calls : List DeviceCall). take left.count calls) more_sent
        ∙ take-append-le left.count (sent (mirror_of (medium_of old.disk))) (given plays.follows.since) early) left.are;
    cut = subst (λ (bytes : List ℕ). CutLeaves (after (durable bytes) left.done).may_leave image) plays.follows.opening_stays left.cut;
  }

  module _ (book : Book) (c : Lagging UnitState) (serves : Serves old book c) where
    abbrev pub by : LagStepMade Promises (serving.has_refused (state_of (medium_of old.disk)) (state_of (medium_of new.disk)))
        (state_of (medium_of old.disk)) (state_of (medium_of new.disk)) event.Tick answer.Ticked old.disk new.disk book c
    by = made old.disk new.disk event.Tick answer.Ticked plays.step book c serves.stands

    -- no promise was made
    keeps_plain : by.later.mark ≡ book.mark → Keeps new by.later
    keeps_plain none ours image left =
        let size = (state_of (medium_of old.disk)).size in
        let was_ours : book.ours ≡ true = sym by.life.ours ∙ ours in
        subst (λ (n : ℕ). Finds n (is_faulted new.disk) (held_book new.disk by.later) image) (sym plays.step.elapses.size_stays) (elim
        (cases_lt (length (sent (mirror_of (medium_of old.disk)))) left.count) [
          | inl late ↦ found_amid old.disk new.disk event.Tick answer.Ticked plays.step book c serves.stands size image none
              ((by.held_cuts was_ours).each image (plays.parts left.count left.done image (omega (arith, late)) left.are left.cut))
          | inr early ↦ found_behind old.disk new.disk event.Tick answer.Ticked plays.step book c serves.stands size image none
              (serves.keeps was_ours image (left_before image left early))
        ])

  -- a step that may promise makes none, or all is carried out
  pub tick_serves : ((book : Book) (c : Lagging UnitState) (serves : Serves old book c)
      → ((by book c serves).later.mark ≡ book.mark) ⊎ Keeps new (by book c serves).later)
      → ServesTurns (played event.Tick answer.Ticked ∷ []) old new
  tick_serves promises book c serves =
      serves_by old new same event.Tick answer.Ticked plays.step book c serves (elim (promises book c serves) [
        | inl none ↦ keeps_plain book c serves none
        | inr kept ↦ kept
      ])
