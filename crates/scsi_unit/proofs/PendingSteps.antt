-- The steps of a command that is not over, from those of its store, as lines of the rules.
use Rattle.std.proofs.Common.{◌≡◌, ◌≢◌, ◌⊎◌, ◌<◌, ◌≤◌, inl, inr, ℕ, Bool, true, false, List, [], ◌∷◌, Some, None, Option, Result, Ok, Err}
use Rattle.std.proofs.{Common.{arith, refl, sym, subst, length-append}, lemmas.Bool.{cases_lt, Decides.nat_tests}}
use Rattle.medium.{proofs.Moments.unchanged, specs.{Medium.{State, IsSound}, Moments.{LeavesOnly, IsUnchanged}}}
use Rattle.logical_blocks.specs.{Blocks.Write, Book.{Book, promised, with_write, with_progress}}
use Rattle.scsi.specs.{Sense.Sense, Waiting.{Waiting, after_failure}, SenseCodes.write_error, declared.command.Command.Command}
use Rattle.scsi.specs.Rules.{IsOutcome, MayFault, write_by, write_of_command, wants_writing, checked_for_fault, reads_blocks}
use Rattle.blocks.{proofs.TurnsJoined.stays, specs.{Finding.MayFind, Passing.PassesOn, Turns.{GoesOn, IsTurn}}}
use Rattle.blocks.specs.StoreValue.{StoreValue, FitsBook}
use Rattle.blocks.specs.{StoreValue.{is_dead, steps_left}, declared.stage.Stage.Stage, Stages.{WriteStepPost, CommitStepPost}}
use Rattle.blocks.specs.declared.stage.Stage.TheVariants.{Waits, Accepted, Promised, Failed}
use Rattle.scsi_unit.proofs.{UnitTurns.{may_fault, limit_stays}, CommandCalls.log_looked, PerformedCommands.faults}
use Rattle.scsi_unit.proofs.WantedCommands.{write_effect, write_is, write_wants, write_commits, write_some, write_moves, commit_wants}
use Rattle.scsi_unit.{proofs.WantedCommands.{commit_effect, commit_moves, read_writes}, specs.UnitValue.{UnitValue, state_of, unit_limit}}
use Rattle.scsi_unit.specs.{Serving.has_refused, Performing.settled_kept, Pending.{FitsCommit, FitsPending, HasEnded, HasProgressed}}
use Rattle.scsi_unit.specs.Pending.{GoOnPost, CanWant, commits, transfer_of, calls_for, sends_for, read_for, IsHadAtOnce, SendsWhenDone}
use Rattle.scsi_unit.specs.Pending.{goes_through, cache_after, may_follow, StaysWanting, book_held, MayPromise}
use Rattle.scsi_unit.specs.declared.progress.{Progress.Progress, Want.Want}
use Rattle.scsi_unit.specs.declared.progress.Progress.TheVariants.{Done, Wants}
use Rattle.scsi_unit.specs.declared.progress.Want.TheVariants as want

-- a write that is accepted leaves no more stamps
more_stamps : (refused : Bool) (book : Book) (write : Option Write) → MayFault refused book → MayFault refused (with_progress book write)
more_stamps refused book None may = may
more_stamps refused book (Some w) may = grind (arith, may, length-append book.writes (w ∷ []))

-- a write that is accepted leaves a book ours
pub still_ours : (book : Book) (write : Option Write) → book.ours ≡ true → (with_progress book write).ours ≡ true
still_ours book None ours = ours
still_ours book (Some w) ours = ours

-- it fits in a batch of this many blocks, or another batch is empty, or neither is so
fits_or_not : (blocks limit : ℕ) (other : List ℕ) → ((blocks ≤ limit) ⊎ (other ≡ [])) ⊎ ¬ ((blocks ≤ limit) ⊎ (other ≡ []))
fits_or_not blocks limit [] = inl (inr refl)
fits_or_not blocks limit (n ∷ other) = elim (cases_lt limit blocks) [
  | inl more ↦ inr (λ fits. elim fits [
    | inl few ↦ omega (arith, more, few)
    | inr none ↦ absurd (let e = none in cc)
  ])
  | inr few ↦ inl (inl few)
]

-- a command that the unit carries out is told as before where it is not faulted
served : (faulted : Bool) (command : Command) → faulted ≡ false → checked_for_fault faulted (Ok command) ≡ Ok command
served faulted command live = rw live refl

module _ {M : Type 0} (before after : State) (old : UnitValue M) (store : StoreValue M) (live : is_dead old.store.cached ≡ false) where
  -- by the rules the unit is as it was
  pub stays_so : GoesOn before after old.store.cached store.cached → is_dead store.cached ≡ false → (book : Book)
      → state_of (record old { store = store }) book ≡ state_of old book
  stays_so on lives book =
      let limit = limit_stays old.store.cached store.cached on.layout_stays in grind (arith, limit, live, lives)

  module _ (command : Command) (taken : List ℕ) where
    -- the command is over, since the unit was not faulted
    pub over : (answer : Result (List ℕ) Sense) (new : UnitValue M) (book next : Book)
        → IsOutcome (has_refused before after) (Ok command) taken (state_of old book) answer (state_of new next)
        → FitsBook after new.store.cached next → HasEnded before after (Ok command) taken old answer new book
    over answer new book next outcome fits = (
      next,
      subst
          (λ (told : Result Command Sense). IsOutcome (has_refused before after) told taken (state_of old book) answer (state_of new next))
          (sym (served (is_dead old.store.cached) command live)) outcome,
      fits,
    )

    -- it fails with a write error
    pub fails : GoesOn before after old.store.cached store.cached → is_dead store.cached ≡ true
        → wants_writing command taken old.write_cache ≡ true → (book next : Book)
        → MayFault (has_refused before after) (with_progress book (write_of_command command taken))
        → (next ≡ book) ⊎ (next ≡ with_progress book (write_of_command command taken)) → FitsBook after store.cached next
        → HasEnded before after (Ok command) taken old (Err write_error)
        (record old { store = store; kept = after_failure write_error old.kept }) book
    fails on dead writes book next cause accepted fits =
        over (Err write_error) (record old { store = store; kept = after_failure write_error old.kept }) book next
        (faults before after old store command taken book next on.layout_stays cause writes (refl, dead) accepted) fits

-- what it wants next, and nothing else
pub wanting : {M : Type 0} (command : Command) (taken : List ℕ) (old new : UnitValue M) (wanted next : Want) → Wants wanted ≡ Wants next
    → StaysWanting command taken wanted old new → StaysWanting command taken next old new
wanting command taken old new wanted next same stays = subst (λ w. StaysWanting command taken w old new) (let e = same in cc) stays

-- what a step of two calls at most passes on
module _ {M : Type 0} {state : M → State} {Follows : M → M → Type 0} (old : UnitValue M) (store : StoreValue M) (kept : Waiting)
    (cache : Bool) (command : Command) (wanted : Want) (taken out : List ℕ) (progress : Progress)
    (live : is_dead old.store.cached ≡ false) where
  pub posts : ((next : Want) → progress ≡ Wants next
      → StaysWanting command taken next old (record old { store = store; kept = kept; write_cache = cache }))
      → PassesOn state Follows GoesOn 2 2 old.store store → calls_for wanted command ≡ 2 → sends_for wanted ≡ 2
      → read_for wanted command ≡ None
      → ((book : Book) → FitsPending (state old.store.medium) old command taken wanted book
      → HasProgressed (state old.store.medium) (state store.medium) (Ok command) taken old progress out
      (record old { store = store; kept = kept; write_cache = cache }) book)
      → ((book : Book) → FitsPending (state old.store.medium) old command taken wanted book → book.ours ≡ true
      → LeavesOnly (MayFind (state old.store.medium).size (book_held wanted command taken book)) (state old.store.medium)
      (state store.medium))
      → ((sent : ℕ) → progress ≡ Done (Ok sent) → commits command taken old.write_cache ≡ true → MayPromise old command wanted)
      → may_follow progress wanted ≡ true → (progress ≡ Wants wanted → steps_left store.cached < steps_left old.store.cached)
      → (IsHadAtOnce old command wanted → IsUnchanged (state old.store.medium) (state store.medium))
      → (IsHadAtOnce old command wanted → progress ≢ Wants wanted)
      → SendsWhenDone (Ok command) (unit_limit old) progress
      → GoOnPost state Follows command wanted taken old progress out
      (record old { store = store; kept = kept; write_cache = cache })
  posts waits passes two sent none line cuts promises onward fewer at_once not_again sends = record {
    line = line;
    cuts = cuts;
    promises = promises;
    dead = λ dead. absurd (let none = live in cc);
    onward = onward;
    fewer = fewer;
    at_once = at_once;
    not_again = not_again;
    waits = waits;
    makes = record {
      calls = rw two passes.calls;
      sent = rw sent passes.sent;
      looks = rw none (log_looked (state old.store.medium) (state store.medium) old None passes.looks);
    };
    sends = sends;
    keeps = record {
      goes_on = passes.turn;
      identity = refl;
      policy = passes.policy;
      follows = record { medium = passes.follows; runs = passes.runs };
    };
  }

-- ---- a WRITE wants room

module _ {M : Type 0} {state : M → State} {Follows : M → M → Type 0} (old : UnitValue M) (store : StoreValue M) (command : Command)
    (taken : List ℕ) (sound : (m : M) → IsSound (state m)) (live : is_dead old.store.cached ≡ false)
    (can : CanWant old command want.Room taken) (stage : Stage)
    (step : WriteStepPost state Follows (write_by (transfer_of command) taken) (transfer_of command).address
    (transfer_of command).count stage old.store store) where
  write : write_of_command command taken ≡ Some (write_by (transfer_of command) taken)
  write = write_is command taken can.wanted

  -- a write that is taken at once makes no call, and any other step writes back
  cuts_room : (book : Book) → FitsBook (state old.store.medium) old.store.cached book → book.ours ≡ true
      → LeavesOnly (MayFind (state old.store.medium).size book) (state old.store.medium) (state store.medium)
  cuts_room book f ours =
      let known : IsHadAtOnce old command want.Room ⊎ ¬ IsHadAtOnce old command want.Room = fits_or_not _ _ _ in elim known [
        | inl had ↦ rw (step.takes live had).1.medium ((stays _ old.store.cached (sound old.store.medium)).cuts book f ours)
        | inr not ↦ (step.works live not).1.passes.turn.cuts book f ours
      ]

  quiet_room : IsHadAtOnce old command want.Room → IsUnchanged (state old.store.medium) (state store.medium)
  quiet_room had = rw (step.takes live had).1.medium (unchanged (state old.store.medium))

  -- it waits on
  pub room_waits : stage ≡ Waits → (out : List ℕ)
      → GoOnPost state Follows command want.Room taken old (Wants want.Room) out (record old { store = store })
  room_waits is out =
      let advanced = rw is at step.advanced in
      posts old store old.kept old.write_cache command want.Room taken out (Wants want.Room) live
      (λ next same. wanting command taken old (record old { store = store }) want.Room next same
      (record { live = advanced.life; others = refl; wanted = can.wanted }))
      advanced.passes refl refl refl
      (λ book f. record {
        stays = stays_so (state old.store.medium) (state store.medium) old store live advanced.passes.turn advanced.life book;
        fits = advanced.fits book f;
        wanted = can.wanted;
      })
      cuts_room (λ sent same. absurd (let e = same in cc)) refl (λ same. advanced.fewer refl) quiet_room
      (λ had. absurd (let a = (step.takes live had).0 in let b = is in cc)) tt

  -- the store died
  pub room_fails : stage ≡ Failed → (out : List ℕ)
      → GoOnPost state Follows command want.Room taken old (Done (Err write_error)) out
      (record old { store = store; kept = after_failure write_error old.kept })
  room_fails is out =
      let advanced = rw is at step.advanced in
      let on = advanced.passes.turn in
      let died = fails (state old.store.medium) (state store.medium) old store live command taken on advanced.life
      (write_wants command taken can.wanted old.write_cache) in
      posts old store (after_failure write_error old.kept) old.write_cache command want.Room taken out (Done (Err write_error)) live
      (λ next same. absurd (let e = same in cc)) advanced.passes refl refl refl
      (λ book f.
      let cause = more_stamps _ book (write_of_command command taken)
      (may_fault (state old.store.medium) (state store.medium) old.store.cached book (on.cause live advanced.life) f) in
      elim (advanced.fits book f) [
        | inl none ↦ died book book cause (inl refl) none
        | inr all ↦ died book (with_write book (write_by (transfer_of command) taken)) cause (inr (rw write refl)) all
      ])
      cuts_room (λ sent same. absurd (let e = same in cc)) refl (λ same. absurd (let e = same in cc)) quiet_room
      (λ had same. absurd (let e = same in cc)) (grind (arith, nat_tests))

  -- a batch has it, and it wants a commit
  pub room_commits : stage ≡ Accepted → goes_through (transfer_of command) old.write_cache ≡ true → (out : List ℕ)
      → GoOnPost state Follows command want.Room taken old (Wants want.Commit) out (record old { store = store })
  room_commits is through out =
      let advanced = rw is at step.advanced in
      let commits = write_commits command taken can.wanted old.write_cache in
      posts old store old.kept old.write_cache command want.Room taken out (Wants want.Commit) live
      (λ next same. wanting command taken old (record old { store = store }) want.Commit next same
      (record { live = advanced.life; others = refl; wanted = grind (arith, commits, through) }))
      advanced.passes refl refl refl
      (λ book f. record {
        stays = stays_so (state old.store.medium) (state store.medium) old store live advanced.passes.turn advanced.life book;
        fits = record { fits = rw write (advanced.fits book f); live = λ is. advanced.life };
        wanted = grind (arith, commits, through);
      })
      cuts_room (λ sent same. absurd (let e = same in cc)) refl (λ same. absurd (let e = same in cc)) quiet_room
      (λ had same. absurd (let e = same in cc)) tt

  -- and it is over
  pub room_ends : stage ≡ Accepted → goes_through (transfer_of command) old.write_cache ≡ false → (out : List ℕ)
      → GoOnPost state Follows command want.Room taken old (Done (Ok 0)) out
      (record old { store = store; kept = settled_kept (Ok []) old.kept })
  room_ends is plain out =
      let advanced = rw is at step.advanced in
      posts old store (settled_kept (Ok []) old.kept) old.write_cache command want.Room taken out (Done (Ok 0)) live
      (λ next same. absurd (let e = same in cc)) advanced.passes refl refl refl
      (λ book f.
      let limit = limit_stays old.store.cached store.cached advanced.passes.turn.layout_stays in
      let effect = write_effect command taken can.wanted (state_of old book) in
      let some = write_some command taken can.wanted in
      let lives = advanced.life in
      over (state old.store.medium) (state store.medium) old store live command taken (Ok [])
      (record old { store = store; kept = settled_kept (Ok []) old.kept }) book
      (with_write book (write_by (transfer_of command) taken)) (inl (grind (arith, nat_tests, limit, effect, some, plain, live, lives)))
      (advanced.fits book f))
      cuts_room (λ sent same commits. absurd (let by = write_commits command taken can.wanted old.write_cache in cc)) refl
      (λ same. absurd (let e = same in cc)) quiet_room (λ had same. absurd (let e = same in cc))
      (record { sent = λ n is. absurd (write_moves command taken can.wanted n is); none = λ not. refl; most = omega arith })

  -- a step of a write promises nothing
  pub room_promises : ¬ (stage ≡ Promised)
  room_promises is =
      let not : ¬ IsHadAtOnce old command want.Room = λ had. (let a = (step.takes live had).0 in absurd (let b = is in cc)) in
      let waits = (step.works live not).0 (rw is at step.advanced).life in absurd (let a = waits in let b = is in cc)

-- ---- a commit is wanted

module _ {M : Type 0} {state : M → State} {Follows : M → M → Type 0} (old : UnitValue M) (store : StoreValue M) (command : Command)
    (taken : List ℕ) (live : is_dead old.store.cached ≡ false) (is : commits command taken old.write_cache ≡ true) (stage : Stage)
    (step : CommitStepPost state Follows stage old.store store) where
  turn : IsTurn (state old.store.medium) (state store.medium) old.store.cached store.cached
  turn = step.works.passes.turn

  passes : PassesOn state Follows GoesOn 2 2 old.store store
  passes = (step.advanced None).passes

  cuts_commit : (book : Book) → FitsCommit (state old.store.medium) old command taken book → book.ours ≡ true
      → LeavesOnly (MayFind (state old.store.medium).size (with_progress book (write_of_command command taken)))
      (state old.store.medium) (state store.medium)
  cuts_commit book f ours =
      let write = write_of_command command taken in turn.cuts (with_progress book write) f.fits (still_ours book write ours)

  quiet_commit : IsHadAtOnce old command want.Commit → IsUnchanged (state old.store.medium) (state store.medium)
  quiet_commit written = (step.works.order.written written).1

  -- records are left to write
  pub commit_waits : (stage ≡ Waits) ⊎ (stage ≡ Accepted) → (out : List ℕ)
      → GoOnPost state Follows command want.Commit taken old (Wants want.Commit) out (record old { store = store })
  commit_waits at out =
      let life = (step.advanced None).life in
      let lives : is_dead store.cached ≡ false = grind (arith, at, life) in
      let promised : ¬ (stage ≡ Promised) = grind (arith, at) in
      posts old store old.kept old.write_cache command want.Commit taken out (Wants want.Commit) live
      (λ next same. wanting command taken old (record old { store = store }) want.Commit next same
      (record { live = lives; others = refl; wanted = is }))
      passes refl refl refl
      (λ book f. record {
        stays = stays_so (state old.store.medium) (state store.medium) old store live turn.goes_on lives book;
        fits = record { fits = turn.fits _ f.fits; live = λ writes. lives };
        wanted = is;
      })
      cuts_commit (λ sent same. absurd (let e = same in cc)) refl
      (λ same. elim (step.works.steps.left lives) [
        | inl written ↦ absurd (promised (step.promised.1 (live, written)))
        | inr few ↦ few
      ])
      quiet_commit (λ had. absurd (promised (step.promised.1 (live, had)))) tt

  -- the store died
  pub commit_fails : stage ≡ Failed → (out : List ℕ)
      → GoOnPost state Follows command want.Commit taken old (Done (Err write_error)) out
      (record old { store = store; kept = after_failure write_error old.kept })
  commit_fails at out =
      let dead : is_dead store.cached ≡ true = rw at at (step.advanced None).life in
      posts old store (after_failure write_error old.kept) old.write_cache command want.Commit taken out (Done (Err write_error)) live
      (λ next same. absurd (let e = same in cc)) passes refl refl refl
      (λ book f.
      let next = with_progress book (write_of_command command taken) in
      fails (state old.store.medium) (state store.medium) old store live command taken turn.goes_on dead
      (commit_wants command taken old.write_cache is) book next
      (may_fault (state old.store.medium) (state store.medium) old.store.cached next (turn.goes_on.cause live dead) f.fits)
      (inr refl) (turn.fits next f.fits))
      cuts_commit (λ sent same. absurd (let e = same in cc)) refl (λ same. absurd (let e = same in cc)) quiet_commit
      (λ had same. absurd (let e = same in cc))
      (grind (arith, nat_tests))

  -- all is promised, and the command is over
  pub commit_ends_it : stage ≡ Promised → reads_blocks command ≡ false → (out : List ℕ)
      → GoOnPost state Follows command want.Commit taken old (Done (Ok 0)) out
      (record old { store = store; kept = settled_kept (Ok []) old.kept; write_cache = cache_after command old.write_cache })
  commit_ends_it at plain out =
      let lives : is_dead store.cached ≡ false = rw at at (step.advanced None).life in
      let promises = (rw at at (step.advanced None)).fits in
      let kept = settled_kept (Ok []) old.kept in
      let cache = cache_after command old.write_cache in
      posts old store kept cache command want.Commit taken out (Done (Ok 0)) live
      (λ next same. absurd (let e = same in cc)) passes refl refl refl
      (λ book f.
      let limit = limit_stays old.store.cached store.cached turn.goes_on.layout_stays in
      let effect = commit_effect command taken old.write_cache is plain (state_of old book) refl in
      let next = with_progress book (write_of_command command taken) in
      over (state old.store.medium) (state store.medium) old store live command taken (Ok [])
      (record old { store = store; kept = kept; write_cache = cache }) book (promised next)
      (inl (grind (arith, limit, effect, live, lives))) (promises next f.fits))
      cuts_commit (λ sent same commits. (step.promised.0 at).1) refl (λ same. absurd (let e = same in cc)) quiet_commit
      (λ had same. absurd (let e = same in cc))
      (record {
        sent = λ n sent. absurd (commit_moves command taken old.write_cache is plain n sent);
        none = λ not. refl;
        most = omega arith;
      })

  -- all is promised, and a READ wants its blocks
  pub commit_reads_on : stage ≡ Promised → reads_blocks command ≡ true → (out : List ℕ)
      → GoOnPost state Follows command want.Commit taken old (Wants want.Read) out (record old { store = store })
  commit_reads_on at reads out =
      let lives : is_dead store.cached ≡ false = rw at at (step.advanced None).life in
      let written = (step.promised.0 at).1 in
      let same = (step.works.order.written written).0 in
      posts old store old.kept old.write_cache command want.Commit taken out (Wants want.Read) live
      (λ next same. wanting command taken old (record old { store = store }) want.Read next same
      (record { live = lives; others = refl; wanted = reads }))
      passes refl refl refl
      (λ book f. record {
        stays = stays_so (state old.store.medium) (state store.medium) old store live turn.goes_on lives book;
        fits = record {
          fits = rw (read_writes command taken reads) at (turn.fits (with_progress book (write_of_command command taken)) f.fits);
          written = λ commits. rw same written;
        };
        wanted = reads;
      })
      cuts_commit (λ sent same. absurd (let e = same in cc)) refl (λ same. absurd (let e = same in cc)) quiet_commit
      (λ had same. absurd (let e = same in cc)) tt
