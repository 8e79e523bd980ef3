-- A command that is pending goes on, and what is said in several steps.
use Rattle.std.proofs.Common.{◌≡◌, ◌⊎◌, ◌++◌, ◌∷◌, [], inl, inr, List, ℕ, zero, suc, length, refl, sym, ◌∙◌, ap, subst, arith}
use Rattle.std.proofs.{Common.{append_assoc}, lemmas.{Bool.{cases_Bool, false≢true}, List.{append-nil, nil_from_length}}}
use Rattle.logical_blocks.specs.{Blocks.Write, Book.Book}
use Rattle.scsi.specs.Rules.{UnitState}
use Rattle.spec.specs.Lagging.{Lagging}
use Rattle.window.specs.{OutboxMedium.sent, Story.given, declared.{asked.Asked.Asked, call.DeviceCall.DeviceCall}, Window.{mirror_of}}
use Rattle.scsi_unit.specs.Background.{Work, Settle, Ahead, WriteBack}
use Rattle.disk_machine.specs.Idling.{AsksAhead, EndsAhead, HasGoneAhead, HasStepped, IsShort, MakesAhead}
use Rattle.disk_machine.specs.Idling.{made_ahead, steps_ahead, steps_idle}
use Rattle.bot_machine.specs.LaggingDisk.{MayPromiseNext, held_write}
use Rattle.disk_machine.specs.Plays.{Before, Disk, PlaysPending, PlaysTick, PlaysWork, StepsWhile, medium_of}
use Rattle.disk_machine.specs.Machine.{Machine, Keeps, Serves, IsCaughtUp, has_refused, under_way}
use Rattle.disk_machine.specs.Moves.{KeepsGoing, ServesAtRest, ServesTurns, Turn, TurnsRun, played, ticks}
use Rattle.disk_machine.specs.{Going.{PendingSteps}, Wanted.MayGoOn}
use Rattle.disk_machine.specs.Packets.{PlaysOut, ServesOut}
use Rattle.disk_machine.proofs.{Finding.{by, held_mark, tick_serves}, Still.{still_goes_on, still_serves_on}}
use Rattle.spec.specs.declared.event.Event.TheVariants as event
use Rattle.spec.specs.declared.event.Answer.TheVariants as answer

-- ---- turns, one after the other

pub runs_through : (a b c : Lagging UnitState) (first last : List Turn) → TurnsRun a first b → TurnsRun b last c
    → TurnsRun a (first ++ last) c
runs_through a b c [] last same run = subst (λ (s : Lagging UnitState). TurnsRun s last c) same run
runs_through a b c (played event answer ∷ turns) last (refused, mid, step, rest) run =
    (refused, mid, step, runs_through mid b c turns last rest run)

pub through : {old mid new : Machine} {first last : List Turn} → ServesTurns first old mid → ServesTurns last mid new
    → ServesTurns (first ++ last) old new
through {old} {mid} {new} {first} {last} before behind book c serves =
    let early = before book c serves in
    let late = behind early.later early.next early.serves in record {
      later = late.later;
      next = late.next;
      serves = late.serves;
      life = record {
        blocks = late.life.blocks ∙ early.life.blocks;
        opening = late.life.opening ∙ early.life.opening;
        stamp = late.life.stamp ∙ early.life.stamp;
        ours = late.life.ours ∙ early.life.ours;
      };
      since = early.since ++ late.since;
      writes = late.writes ∙ ap (λ (l : List Write). l ++ late.since) early.writes ∙ append_assoc book.writes early.since late.since;
      promises = omega (arith, early.promises, late.promises);
      run = runs_through c early.next late.next first last early.run late.run;
    }

-- nothing is said where whatever life was served is served on
pub served_on : (old new : Machine) → ((book : Book) (c : Lagging UnitState) → Serves old book c → Serves new book c)
    → ServesTurns [] old new
served_on old new on book c serves = record {
  later = book;
  next = c;
  serves = on book c serves;
  life = record { blocks = refl; opening = refl; stamp = refl; ours = refl };
  since = [];
  writes = sym (append-nil book.writes);
  promises = omega arith;
  run = refl;
}

pub nothing_said : (old new : Machine) → new ≡ old → ServesTurns [] old new
nothing_said old new same = served_on old new (λ book c serves. subst (λ (s : Machine). Serves s book c) (sym same) serves)

-- ---- what calls keep

pub goes_through : {old mid new : Machine} → KeepsGoing old mid → KeepsGoing mid new → KeepsGoing old new
goes_through first last = record {
  room = λ fits. last.room (first.room fits);
  dead = λ dead.
      let early = first.dead dead in
      let late = last.dead early.1 in (λ image left. early.0 image (late.0 image left), late.1);
}

pub goes_nowhere : (old new : Machine) → new ≡ old → KeepsGoing old new
goes_nowhere old new same = rw same (record { room = λ fits. fits; dead = λ dead. (λ image left. left, dead) })

-- a step of the disk, which asks for nothing where the disk is faulted
module _ {Promises : Type 0} (old new : Machine) (plays : PlaysTick Promises old.disk new.disk)
    (others : new ≡ record old { disk = new.disk }) where
  asked_stays : new.asked ≡ old.asked
  asked_stays = ap (λ (s : Machine). s.asked) others

  pub step_goes_on : KeepsGoing old new
  step_goes_on = record {
    room = λ fits. record { steps = omega (arith, ap (λ (s : Machine). s.most) others, plays.follows.room_stays, fits.steps) };
    dead = λ dead.
        let waits = (plays.faulted dead).0 in
        let same : sent (mirror_of (medium_of new.disk)) ≡ sent (mirror_of (medium_of old.disk))
        = λ i. plays.follows.taken_stays i ++ waits i in (
          λ image left. record {
            count = left.count;
            done = left.done;
            reaches = omega (
              arith,
              left.reaches,
              ap under_way asked_stays,
              ap (λ (l : List DeviceCall). length l) plays.follows.taken_stays,
            );
            are = rw same at left.are;
            cut = rw plays.follows.opening_stays at left.cut;
          },
          (plays.faulted dead).1,
        );
  }

-- ---- a step of what is pending

-- a step that sent nothing leaves a device caught up
still_caught_up : (old new : Machine) → PlaysPending old.disk new.disk → new ≡ record old { disk = new.disk } → MayPromiseNext old.disk
    → IsCaughtUp old → IsCaughtUp new
still_caught_up old new plays others may up =
    let follows = plays.plays.follows in
    let none : given follows.since ≡ [] = nil_from_length (given follows.since) (omega (arith, follows.sent, plays.makes.unsent may)) in
    let asked = ap (λ (s : Machine). s.asked) others in record {
      none_waits = follows.outbox ∙ (λ i. up.none_waits i ++ none i);
      none_under_way = ap (λ (a : Asked). under_way a) asked ∙ up.none_under_way;
      none_refused = ap (λ (a : Asked). has_refused a) asked ∙ up.none_refused;
    }

module _ (old new : Machine) (may : MayGoOn old) (plays : PlaysPending old.disk new.disk) (others : new ≡ record old { disk = new.disk })
    (rest : ServesAtRest new) where
  -- no promise is made, or it is kept: all is carried out, or the unit was faulted before
  promise_kept : (book : Book) (c : Lagging UnitState) (serves : Serves old book c)
      → ((by old new plays.plays (asked_stays old new plays.plays others) book c serves).later.mark ≡ book.mark)
      ⊎ Keeps new (by old new plays.plays (asked_stays old new plays.plays others) book c serves).later
  promise_kept book c serves =
      let made = by old new plays.plays (asked_stays old new plays.plays others) book c serves in
      elim (cases_Bool may.may_promise) [
        | inr plain ↦ inl (made.mark (λ promises. false≢true (sym plain ∙ may.told.1 promises)))
        | inl may_do ↦ elim (may.all_done may_do) [
          | inl up ↦ inr (rest (still_caught_up old new plays others (may.told.0 may_do) up) made.later made.next made.stands).keeps
          | inr refused ↦ inl (
              sym (held_mark made.later (held_write new.disk.pending new.disk.disk.line.left))
              ∙ ap (λ (b : Book). b.mark) (made.fault (serves.faulted refused))
              ∙ held_mark book (held_write old.disk.pending old.disk.disk.line.left))
        ]
      ]

  pub pending_serves : ServesTurns (played event.Tick answer.Ticked ∷ []) old new
  pending_serves = tick_serves old new plays.plays (asked_stays old new plays.plays others) promise_kept

-- a step in the background promises nothing
pub work_serves : {work : Work} (old new : Machine) → PlaysWork work old.disk new.disk → new ≡ record old { disk = new.disk }
    → ServesTurns (played event.Tick answer.Ticked ∷ []) old new
work_serves old new plays others =
    let same = asked_stays old new plays.plays others in
    tick_serves old new plays.plays same (λ book c serves. inl ((by old new plays.plays same book c serves).mark (λ none. none)))

-- ---- steps in the background, one by one

pub steps_serve : (Holds : Disk → Disk → Type 0) (work : Work) (count : ℕ) (old new : Machine)
    → StepsWhile Holds work count old.disk new.disk → new ≡ record old { disk = new.disk } → ServesTurns (ticks count) old new × KeepsGoing old new
steps_serve Holds work zero old new same others =
    let is : new ≡ old = others ∙ ap (λ (d : Disk). record old { disk = d }) same in (nothing_said old new is, goes_nowhere old new is)
steps_serve Holds work (suc count) old new (disk, steps, holds, plays) others =
    let mid : Machine = record old { disk = disk } in
    let early = steps_serve Holds work count old mid steps refl in
    let late : new ≡ record mid { disk = new.disk } = others in (
      through early.0 (work_serves mid new plays late),
      goes_through early.1 (step_goes_on mid new plays.plays late),
    )

-- ---- steps of what is pending, one by one

pub pending_goes_on : (count : ℕ) (old new : Machine) → PendingSteps count old new → ServesTurns (ticks count) old new × KeepsGoing old new
pending_goes_on zero old new same = (nothing_said old new same, goes_nowhere old new same)
pending_goes_on (suc count) old new (mid, steps, may, on) =
    let early = pending_goes_on count old mid steps in (through early.0 on.serves, goes_through early.1 on.goes_on)

-- ---- what is done in the background

pub idle_serves : (old new : Machine) (stepped : HasStepped old new)
    → ServesTurns (ticks (steps_idle old new stepped)) old new × KeepsGoing old new
idle_serves old new (inl held) = (nothing_said old new held.1, goes_nowhere old new held.1)
idle_serves old new (inr made) = steps_serve _ Settle made.1.count old new made.1.steps made.2

-- all steps ahead that were made, of which is said that few calls waited
few_waited : (most count : ℕ) (old new : Disk) → StepsWhile (AsksAhead most) Ahead count old new
    → StepsWhile (Before (IsShort most)) Ahead count old new
few_waited most zero old new same = same
few_waited most (suc count) old new (mid, steps, asks, plays) = (mid, few_waited most count old mid steps, asks.short, plays)

all_ahead : (most : ℕ) (old new : Disk) (makes : MakesAhead most old new)
    → StepsWhile (Before (IsShort most)) Ahead (made_ahead most makes.count makes.mid new makes.ends) old new
all_ahead most old new makes = at makes.ends
  where
    steps : StepsWhile (Before (IsShort most)) Ahead makes.count old makes.mid
    steps = few_waited most makes.count old makes.mid makes.steps

    at : (ends : EndsAhead most makes.count makes.mid new)
        → StepsWhile (Before (IsShort most)) Ahead (made_ahead most makes.count makes.mid new ends) old new
    at (inl all) = rw all.1 steps
    at (inr one) = (makes.mid, steps, one.1.0, one.1.1)

pub ahead_serves : (old new : Machine) (gone : HasGoneAhead old new)
    → ServesTurns (ticks (steps_ahead old new gone)) old new × KeepsGoing old new
ahead_serves old new (inl busy) = (nothing_said old new busy.1, goes_nowhere old new busy.1)
ahead_serves old new (inr (rests, inl (some, inl (left, writes)), others)) =
    steps_serve _ WriteBack writes.count old new writes.steps others
ahead_serves old new (inr (rests, inl (some, inr stays), others)) =
    let same : new ≡ old = others ∙ ap (λ (d : Disk). record old { disk = d }) stays.1 in
    (nothing_said old new same, goes_nowhere old new same)
ahead_serves old new (inr (rests, inr (none, makes), others)) =
    steps_serve _ Ahead _ old new (all_ahead old.most old.disk new.disk makes) others

-- ---- a packet, and the steps of the command that it begins

pub out_serves : (old : Machine) (packet : List ℕ) (new : Machine) (code : ℕ) → PlaysOut old packet new code → ServesOut old packet new code
out_serves old packet new code out =
    let asked = ap (λ (s : Machine). s.asked) out.others in
    let on = pending_goes_on out.goes.count out.mid new out.goes.steps in record {
      out = out;
      serves = through (still_serves_on old out.mid _ out.answer out.plays asked) on.0;
      goes_on = goes_through (still_goes_on old out.mid _ out.answer out.plays asked (ap (λ (s : Machine). s.most) out.others)) on.1;
    }
