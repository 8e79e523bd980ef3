-- What ends a command from outside, what comes while it is pending, and that it is parsed once.
use Rattle.std.proofs.Common.{◌≡◌, ◌∙◌, ◌⊎◌, ℕ, Bool, true, false, List, Some, None, Option, Result, inl, inr, arith, refl, sym, ap}
use Rattle.std.proofs.lemmas.Bool.{cases_lt, cases_Bool, Decides.nat_tests}
use Rattle.medium.{proofs.Moments.weaker, specs.{Medium.State, Moments.{EachCut, LeavesOnly}}}
use Rattle.logical_blocks.specs.{Blocks.Write, Book.{Book, with_write, with_progress}}
use Rattle.scsi.specs.{Sense.Sense, declared.command.Command.Command, Rules.{command_by, checked_for_fault, UnitState, Ticks}}
use Rattle.scsi.specs.{Rules.write_of_command, Commands.command_of}
use Rattle.blocks.{proofs.{TurnsJoined.exits, EmptyBatches.both_empty, StageSteps.without}, specs.Work.IsWork}
use Rattle.blocks.specs.{Finding.{MayFind, Found, FoundWith}, Written.IsWritten, declared.work.Work.Work}
use Rattle.blocks.specs.StoreValue.{Cached, FitsBook, is_dead, blocks_of}
use Rattle.scsi_unit.{proofs.WantedCommands.write_none, specs.UnitValue.{UnitValue, FitsUnit, state_of, unit_limit}}
use Rattle.scsi_unit.specs.Pending.{MarksStay, book_held, FitsPending, IsParsedOnce, ParsedCommand, PendingTicked, has_write, writes_blocks}
use Rattle.scsi_unit.specs.{Serving.{TicksOver, command_for}, declared.progress.Want.Want}
use Rattle.scsi_unit.specs.declared.progress.Want.TheVariants as want

-- what a loss of power may find of a book with a write it may find with that in progress
within_progress : (write : Option Write) (before after : State) (book : Book)
    → ((with_progress book write).ours ≡ true → LeavesOnly (MayFind before.size (with_progress book write)) before after)
    → book.ours ≡ true → LeavesOnly (FoundWith before.size book write) before after
within_progress None before after book leaves ours = leaves ours
within_progress (Some w) before after book leaves ours =
    weaker (MayFind before.size (with_write book w)) (Found before.size book w) before after (λ image found. inr found) (leaves ours)

-- ---- it is dropped, or promises none

pub dropped : {M : Type 0} (m : State) (unit : UnitValue M) (command : Command) (taken : List ℕ) (wanted : Want) (book : Book)
    → FitsPending m unit command taken wanted book → FitsUnit m unit (book_held wanted command taken book)
dropped m unit command taken want.Room book f = f
dropped m unit command taken want.Commit book f = f.fits
dropped m unit command taken want.Read book f = f.fits

-- the write of the command is the last one accepted, or is not accepted
pub held_or_not : (wanted : Want) (command : Command) (taken : List ℕ) (book : Book)
    → (book_held wanted command taken book ≡ book)
    ⊎ (book_held wanted command taken book ≡ with_progress book (write_of_command command taken))
held_or_not want.Room command taken book = inl refl
held_or_not want.Commit command taken book = inr refl
held_or_not want.Read command taken book = inl refl

pub marks_stay : MarksStay
marks_stay refused command taken old new answer outcome none = grind (arith, nat_tests, outcome, none)

-- ---- its block is parsed once

-- the check for a fault, made twice
anew : (before later : Bool) (told : Result Command Sense) → (before ≡ true → later ≡ true)
    → checked_for_fault later told ≡ checked_for_fault later (checked_for_fault before told)
anew before later told on = grind (arith, on)

pub parsed_once : IsParsedOnce
unfolding command_by
parsed_once blocks limit attention before later block on =
    let twice = anew before later (command_of blocks limit block) on in grind (arith, twice)

pub parsed_now : {M : Type 0} (m : State) (unit : UnitValue M) (block : List ℕ) (book : Book) → FitsBook m unit.store.cached book
    → ParsedCommand (state_of unit book) block (command_for unit block)
parsed_now m unit block book f =
    let dead = is_dead unit.store.cached in
    rw (← f.blocks) (parsed_once (blocks_of unit.store.cached) (unit_limit unit) unit.kept.attention dead dead block (λ is. is))

pub parsed_still : (refused : Bool) (old new : UnitState) (block : List ℕ) (told : Result Command Sense) → Ticks refused old new
    → ParsedCommand old block told → ParsedCommand new block told
parsed_still refused old new block told (inl same) is = rw same is
parsed_still refused old new block told (inr faulted) is =
    rw faulted.after
    (parsed_once old.book.blocks old.limit old.kept.attention old.faulted true block (λ was. refl)
    ∙ ap (checked_for_fault true) is ∙ sym (anew old.faulted true told (λ was. refl)))

-- ---- a loss of power between two calls

found_before : (m : State) (s : Cached) (book : Book) (write : Option Write) → FitsBook m s book → book.ours ≡ true
    → EachCut (FoundWith m.size book write) m
found_before m s book None f ours image cut = exits m s book f ours image cut
found_before m s book (Some w) f ours image cut = inl (exits m s book f ours image cut)

found_behind : (m : State) (s : Cached) (book : Book) (write : Option Write) → FitsBook m s (with_progress book write) → book.ours ≡ true
    → EachCut (FoundWith m.size book write) m
found_behind m s book None f ours image cut = exits m s book f ours image cut
found_behind m s book (Some w) f ours image cut = inr (exits m s (with_write book w) f ours image cut)

pub found : {M : Type 0} (m : State) (unit : UnitValue M) (command : Command) (taken : List ℕ) (wanted : Want) (book : Book)
    → FitsPending m unit command taken wanted book → book.ours ≡ true → EachCut (FoundWith m.size book (write_of_command command taken)) m
found m unit command taken want.Room book f = found_before m unit.store.cached book (write_of_command command taken) f
found m unit command taken want.Commit book f = found_behind m unit.store.cached book (write_of_command command taken) f.fits
found m unit command taken want.Read book f = found_before m unit.store.cached book (write_of_command command taken) f.fits

-- ---- a step in the background

-- a live store that has nothing to write comes to have nothing by no step
stays_written : (work : Work) (ahead : Bool) (before after : State) (old new : Cached) (book : Book)
    → IsWork work ahead before after old new → is_dead old ≡ false → FitsBook before old book → IsWritten old → IsWritten new
stays_written work ahead before after old new book step live f written =
    let both = both_empty old live written in
    let idle : old.log.steps_left ≡ 0 = (let some = rw both.0 at f.some in grind (arith, cases_lt 0 old.log.steps_left, some)) in
    grind (arith, step, both, idle, live, written)

module _ {M : Type 0} (work : Work) (before after : State) (old new : UnitValue M) (ticks : TicksOver work before after old new)
    (command : Command) (taken : List ℕ) where
  written : (book : Book) → FitsBook before old.store.cached book → IsWritten old.store.cached → IsWritten new.store.cached
  written book f was = elim (cases_Bool (is_dead old.store.cached)) [
    | inl dead ↦ rw (ticks.faulted dead).0 was
    | inr live ↦ stays_written work old.store.goes_ahead before after old.store.cached new.store.cached book ticks.step live f was
  ]

  pub ticked : (wanted : Want) (book : Book) → FitsPending before old command taken wanted book
      → (has_write wanted command ≡ true → is_dead new.store.cached ≡ false)
      → PendingTicked before after command taken wanted book old new
  ticked want.Room book f lives =
      let now = ticks.line book f in
      record { line = now.0; fits = now.1; cuts = λ ours. without _ book (write_of_command command taken) _ _ (ticks.cuts book f ours) }
  ticked want.Commit book f lives =
      let next = with_progress book (write_of_command command taken) in
      let now = ticks.line next f.fits in record {
        line = elim (cases_Bool (writes_blocks command)) [
          | inl writes ↦ let others = ticks.others_stay in let live = f.live writes in let alive = lives writes in
              inl (grind (arith, others, ticks.limit_stays, live, alive))
          | inr none ↦ (ticks.line book (rw (write_none command taken none) at f.fits)).0
        ];
        fits = record { fits = now.1; live = lives };
        cuts = within_progress (write_of_command command taken) before after book (ticks.cuts next f.fits);
      }
  ticked want.Read book f lives =
      let now = ticks.line book f.fits in
      let cache = ap (λ (unit : UnitValue M). unit.write_cache) ticks.others_stay in record {
        line = now.0;
        fits = record { fits = now.1; written = λ is. written book f.fits (f.written (rw cache at is)) };
        cuts = λ ours. without _ book (write_of_command command taken) _ _ (ticks.cuts book f.fits ours);
      }
