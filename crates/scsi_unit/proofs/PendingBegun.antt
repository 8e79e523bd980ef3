-- How a command begins, and how it ends on a unit that is faulted.
use Rattle.std.proofs.Common.{◌≡◌, inl, inr, ℕ, Bool, true, false, List, Some, None, Ok, Err, Result, arith, refl, sym, subst}
use Rattle.std.{proofs.lemmas.Bool.{Decides.nat_tests, cases_Bool}, specs.Prelude.◌&&◌}
use Rattle.medium.{proofs.{Moments.unchanged, SectorsRead.no_looks}, specs.{Medium.{State, IsSound}, Moments.LeavesOnly}}
use Rattle.logical_blocks.specs.Book.{Book}
use Rattle.scsi.specs.{Sense.Sense, SenseCodes.internal_target_failure, Waiting.after_failure, declared.command.Command.Command}
use Rattle.scsi.specs.Rules.{IsOutcome, checked_for_fault, needs_medium, write_of_command, moves}
use Rattle.blocks.{proofs.{TurnsJoined.stays, StoreRuns.comes_itself}, specs.{Finding.MayFind, Turns.IsTurn}}
use Rattle.blocks.specs.StoreValue.{FitsBook, is_dead}
use Rattle.scsi_unit.proofs.{PendingSteps.{still_ours, wanting}, WantedCommands.{wants_need, write_none, first_may, first_none, first_commit}}
use Rattle.scsi_unit.{proofs.WantedCommands.{first_plain, first_read}, specs.{UnitValue.{UnitValue, state_of, answer_of, unit_limit}, Serving.has_refused}}
use Rattle.scsi_unit.specs.{Performing.{Performs, Spares, settled_kept}, Pending.{FitsPending, HasEnded, GoOnPost, BeginPost, StepCalls}}
use Rattle.scsi_unit.specs.Pending.{StepKeeps, book_held, may_want, first_want, writes_blocks, read_for, SendsWhenDone, IsHadAtOnce}
use Rattle.scsi_unit.specs.{Reading.{ReadsBackOr, first_home_of, home_sectors_of}, Calls.SendsAsMeant, declared.progress.Progress.Progress}
use Rattle.scsi_unit.specs.declared.progress.{Want.Want, Progress.TheVariants.{Done, Wants}}
use Rattle.scsi_unit.specs.declared.progress.Want.TheVariants as want

-- a command that is refused sends nothing
refused_sends : (told : Result Command Sense) (sense : Sense) (limit : ℕ) → SendsWhenDone told limit (Done (Err sense))
refused_sends (Ok command) sense limit = record { sent = λ n is. tt; none = λ not. tt; most = tt }
refused_sends (Err other) sense limit = tt

-- a command that needs the medium is refused by a unit that is faulted
pub refused_by : (faulted : Bool) (command : Command) → faulted ≡ true → needs_medium command ≡ true
    → checked_for_fault faulted (Ok command) ≡ Err internal_target_failure
refused_by faulted command dead needs = rw (dead, needs) refl

-- and another is carried out
carried_by : (faulted : Bool) (command : Command) → (faulted && needs_medium command) ≡ false
    → checked_for_fault faulted (Ok command) ≡ Ok command
carried_by faulted command free = rw free refl

module _ {M : Type 0} (m : State) (old : UnitValue M) where
  -- it ends with that sense, on each book that the unit fits
  pub refused_line : (told : Result Command Sense) (sense : Sense)
      → checked_for_fault (is_dead old.store.cached) told ≡ Err sense → (taken : List ℕ) (book : Book)
      → FitsBook m old.store.cached book
      → HasEnded m m told taken old (Err sense) (record old { kept = after_failure sense old.kept }) book
  refused_line told sense is taken book f = (
    book,
    subst (λ (told : Result Command Sense). IsOutcome (has_refused m m) told taken (state_of old book) (Err sense)
        (state_of (record old { kept = after_failure sense old.kept }) book)) (sym is) (record { answered = refl; after = refl }),
    f,
  )

  -- no call was made
  none_made_for : (command : Command) (wanted : Want) → StepCalls m m command wanted old
  none_made_for command wanted = record {
    calls = omega arith;
    sent = omega arith;
    looks = no_looks (ReadsBackOr old (home_sectors_of (first_home_of old) (read_for wanted command))) m m refl;
  }

  module _ (command : Command) (taken : List ℕ) where
    -- what a unit fits while a command is pending that has appended no write
    fits_before : (wanted : Want) → is_dead old.store.cached ≡ true → may_want wanted command taken old.write_cache ≡ true
        → (book : Book) → FitsPending m old command taken wanted book → FitsBook m old.store.cached book
    fits_before want.Room dead is book f = f
    fits_before want.Commit dead is book f = elim (cases_Bool (writes_blocks command)) [
      | inl writes ↦ let live = f.live writes in absurd (grind (arith, live, dead))
      | inr none ↦ rw (write_none command taken none) at f.fits
    ]
    fits_before want.Read dead is book f = f.fits

    cuts_before : (wanted : Want) → IsTurn m m old.store.cached old.store.cached
        → (book : Book) → FitsPending m old command taken wanted book → book.ours ≡ true
        → LeavesOnly (MayFind m.size (book_held wanted command taken book)) m m
    cuts_before want.Room turn book f ours = turn.cuts book f ours
    cuts_before want.Commit turn book f ours = turn.cuts _ f.fits (still_ours book (write_of_command command taken) ours)
    cuts_before want.Read turn book f ours = turn.cuts book f.fits ours

    -- what a unit fits when a command begins
    fits_first : (wanted : Want) → first_want command taken old.write_cache ≡ Some wanted → (book : Book)
        → FitsBook m old.store.cached book → FitsPending m old command taken wanted book
    fits_first want.Room first book f = f
    fits_first want.Commit first book f =
        let none = first_commit command taken old.write_cache first in
        record { fits = rw (write_none command taken none) f; live = λ writes. absurd (grind (arith, none, writes)) }
    fits_first want.Read first book f =
        let none = first_read command taken old.write_cache first in
        record { fits = f; written = λ promises. absurd (grind (arith, none, promises)) }

module _ {M : Type 0} {state : M → State} {Follows : M → M → Type 0} (old : UnitValue M) (itself : (m : M) → Follows m m)
    (sound : (m : M) → IsSound (state m)) where
  pub keeps_all : {kept : _} → StepKeeps state Follows old (record old { kept = kept })
  keeps_all = record {
    goes_on = (stays (state old.store.medium) old.store.cached (sound old.store.medium)).goes_on;
    identity = refl;
    policy = refl;
    follows = comes_itself itself;
  }

  -- the unit is faulted
  pub faulted_ends : (command : Command) (wanted : Want) (taken out : List ℕ) → is_dead old.store.cached ≡ true
      → may_want wanted command taken old.write_cache ≡ true
      → GoOnPost state Follows command wanted taken old (Done (Err internal_target_failure)) out
      (record old { kept = after_failure internal_target_failure old.kept })
  faulted_ends command wanted taken out dead is =
      let m = state old.store.medium in
      let needs = wants_need wanted command taken old.write_cache is in
      record {
        line = λ book f. refused_line m old (Ok command) internal_target_failure
            (refused_by (is_dead old.store.cached) command dead needs) taken book (fits_before m old command taken wanted dead is book f);
        cuts = cuts_before m old command taken wanted (stays m old.store.cached (sound old.store.medium));
        promises = λ sent same. absurd (let e = same in cc);
        dead = λ dead. refl;
        onward = refl;
        fewer = λ same. absurd (let e = same in cc);
        at_once = λ had. unchanged m;
        not_again = λ had same. absurd (let e = same in cc);
        waits = λ next same. absurd (let e = same in cc);
        makes = none_made_for m old command wanted;
        sends = grind (arith, nat_tests);
        keeps = keeps_all;
      }

  -- a command begins that is refused
  pub refused_begins : (told : Result Command Sense) (sense : Sense) (taken out : List ℕ)
      → checked_for_fault (is_dead old.store.cached) told ≡ Err sense
      → BeginPost state Follows told taken old (Done (Err sense)) out (record old { kept = after_failure sense old.kept })
  refused_begins told sense taken out is = record {
    line = λ book f. refused_line (state old.store.medium) old told sense is taken book f;
    medium = refl;
    at_once = λ command some first had same. absurd (let e = same in cc);
    promises = λ command sent some commits same. absurd (let e = same in cc);
    waits = λ next same. absurd (let e = same in cc);
    sends = refused_sends told sense (unit_limit old);
    keeps = keeps_all;
  }

  -- one begins that wants something first, and that is no room that is there
  pub wants_first : (command : Command) (wanted : Want) (taken out : List ℕ) → is_dead old.store.cached ≡ false
      → first_want command taken old.write_cache ≡ Some wanted → (wanted ≡ want.Room → ¬ IsHadAtOnce old command want.Room)
      → BeginPost state Follows (Ok command) taken old (Wants wanted) out old
  wants_first command wanted taken out live first not = record {
    line = λ book f. record {
      stays = refl;
      fits = fits_first (state old.store.medium) old command taken wanted first book f;
      wanted = first_may wanted command taken old.write_cache first;
    };
    medium = refl;
    at_once = λ other is some had same. let one : command ≡ other = cc in let two : wanted ≡ want.Room = cc in not two (rw one had);
    promises = λ other sent is commits same. absurd (let e = same in cc);
    waits = λ next same. wanting command taken old old wanted next same
        (record { live = live; others = refl; wanted = first_may wanted command taken old.write_cache first });
    sends = tt;
    keeps = keeps_all;
  }

  -- a WRITE begins that has room at once
  pub has_room : {new : UnitValue M} {progress : Progress} (command : Command) (taken out : List ℕ)
      → IsHadAtOnce old command want.Room → new.store.medium ≡ old.store.medium
      → GoOnPost state Follows command want.Room taken old progress out new
      → BeginPost state Follows (Ok command) taken old progress out new
  has_room command taken out had same goes = record {
    line = goes.line;
    medium = same;
    at_once = λ other is first now. goes.not_again had;
    promises = λ other sent is commits same. let one : command ≡ other = cc in goes.promises sent same (rw one commits);
    waits = goes.waits;
    sends = goes.sends;
    keeps = goes.keeps;
  }

  -- one begins that uses no blocks
  pub plain_begins : {mid : UnitValue M} {result : Result ℕ Sense} (command : Command) (taken out : List ℕ)
      → (is_dead old.store.cached && needs_medium command) ≡ false → first_want command taken old.write_cache ≡ None
      → Performs (state old.store.medium) (state mid.store.medium) (Ok command) taken old (answer_of result out) mid
      → Spares (state old.store.medium) (state mid.store.medium) (Ok command) taken old (answer_of result out) mid
      → SendsAsMeant (moves command) (unit_limit old) result
      → BeginPost state Follows (Ok command) taken old (Done result) out
      (record mid { kept = settled_kept (answer_of result out) mid.kept })
  plain_begins {mid = mid} {result = result} command taken out free first performs spares sends =
      let same = spares.untouched (first_none command taken old.write_cache first) in
      record {
        line = λ book f.
            let found = performs.line book f in (
              found.0,
              subst (λ (told : Result Command Sense). IsOutcome (has_refused (state old.store.medium) (state mid.store.medium)) told taken
                  (state_of old book) (answer_of result out)
                  (state_of (record mid { kept = settled_kept (answer_of result out) mid.kept }) found.0))
                  (sym (carried_by (is_dead old.store.cached) command free)) found.1,
              found.2,
            );
        medium = rw same refl;
        at_once = λ other is some had same. absurd (let e = same in cc);
        promises = λ other sent is commits same.
            let one : command ≡ other = cc in let plain = first_plain command taken old.write_cache first in
            absurd (let by = rw (← one) at commits in cc);
        waits = λ next is. absurd (let e = is in cc);
        sends = sends;
        keeps = record {
          goes_on = rw same (stays (state old.store.medium) old.store.cached (sound old.store.medium)).goes_on;
          identity = performs.identity_stays;
          policy = spares.policy;
          follows = rw same (comes_itself itself);
        };
      }
