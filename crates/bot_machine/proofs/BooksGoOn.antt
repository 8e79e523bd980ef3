-- What comes of the book of a life in a step of a command: no accepted write is lost, and no promise.
use Rattle.std.proofs.Common.{◌≡◌, ◌⊎◌, ◌≤◌, ◌++◌, ℕ, Bool, true, false, List, [], ◌∷◌, length, Some, None, Option, Result, Ok, Err}
use Rattle.std.proofs.Common.{arith, refl, sym, ap, ◌∙◌, inl, inr, ⊎_elim, length-append}
use Rattle.std.proofs.lemmas.{List.append-nil, Bool.Decides.nat_tests}
use Rattle.medium.specs.{Medium.{State, Image}}
use Rattle.logical_blocks.specs.{Blocks.Write, Book.{Book, with_progress}}
use Rattle.scsi.specs.{Sense.Sense, declared.command.Command.Command, Rules.{UnitState, CarriesOut, checked, checked_for_fault}}
use Rattle.scsi.specs.Rules.{write_after, write_in_progress}
use Rattle.scsi_unit.specs.{Laws.{is_promising}, UnitValue.{UnitValue, FitsUnit}, Books.{MayFind, FoundWith}}
use Rattle.scsi_unit.specs.Pending.{book_held, commits, may_follow, may_want, write_held}
use Rattle.scsi_unit.specs.{declared.progress.Want.Want, declared.progress.Progress.TheVariants.Wants}
use Rattle.scsi_unit.specs.declared.progress.Want.TheVariants as want
use Rattle.scsi_unit.proofs.{WantedCommands.read_writes}
use Rattle.bot_machine.specs.{BookLaws.GrowsBy, LaggingDisk.GrowsTo, LaggingParts.{BookGoesOn, HasMore}}
use Rattle.bot_machine.proofs.{BookLaws.grows, UnitLaws.keeps_writes}

-- ---- a write that a batch has

pub held_ours : (book : Book) (held : Option Write) → (with_progress book held).ours ≡ book.ours
held_ours book None = refl
held_ours book (Some w) = refl

held_mark : (book : Book) (held : Option Write) → (with_progress book held).mark ≡ book.mark
held_mark book None = refl
held_mark book (Some w) = refl

-- no more writes are promised than were accepted
pub few_promised : {M : Type 0} (m : State) (unit : UnitValue M) (book : Book) (held : Option Write)
    → FitsUnit m unit (with_progress book held) → book.mark ≤ length (with_progress book held).writes
few_promised m unit book held f = omega (arith, f.arrays.promises, f.arrays.rises, f.arrays.accepted, held_mark book held)

-- none more
no_more : (book : Book) → HasMore book book
no_more book = ([], sym (append-nil book.writes))

pub more_held : (book : Book) (held : Option Write) → HasMore book (with_progress book held)
more_held book None = no_more book
more_held book (Some w) = (w ∷ [], refl)

pub same_more : (book : Book) (held next : Option Write) → held ≡ next → HasMore (with_progress book held) (with_progress book next)
same_more book held next same = rw same (no_more (with_progress book next))

-- where a command still waits a batch has the write that it had, or has come to have it
pub still_more : (wanted next : Want) (command : Command) (taken : List ℕ) (write_cache : Bool) → may_follow (Wants next) wanted ≡ true
    → may_want next command taken write_cache ≡ true → (book : Book)
    → HasMore (book_held wanted command taken book) (book_held next command taken book)
still_more want.Room next command taken write_cache follows may book = more_held book (write_held next command taken)
still_more want.Read next command taken write_cache follows may book = more_held book (write_held next command taken)
still_more want.Commit want.Room command taken write_cache follows may book = absurd (let e = follows in cc)
still_more want.Commit want.Commit command taken write_cache follows may book = no_more (book_held want.Commit command taken book)
still_more want.Commit want.Read command taken write_cache follows may book =
    rw (read_writes command taken may) (no_more book)

-- what may be found of the book with it may be found with the write in progress
pub found_held : (size : ℕ) (book : Book) (held write : Option Write) → (held ≡ None) ⊎ (held ≡ write) → (image : Image)
    → MayFind size (with_progress book held) image → FoundWith size book write image
found_held size book held None (inl none) image found = rw none at found
found_held size book held (Some w) (inl none) image found = inl (rw none at found)
found_held size book held None (inr same) image found = rw same at found
found_held size book held (Some w) (inr same) image found = inr (rw same at found)

-- ---- the book goes on

-- it stays
pub stays_on : (Promises : Type 0) (faulted : Bool) (held next : Option Write) (book : Book)
    → HasMore (with_progress book held) (with_progress book next) → BookGoesOn Promises faulted held next book book
stays_on Promises faulted held next book more = record {
  life = record { blocks = refl; opening = refl; stamp = refl; ours = refl };
  more = no_more book;
  rises = omega arith;
  mark = λ none. refl;
  grows = inl more;
}

-- the command is dropped
pub drops_on : (Promises : Type 0) (faulted : Bool) (held : Option Write) (book : Book)
    → BookGoesOn Promises faulted held None book (with_progress book held)
drops_on Promises faulted None book = stays_on Promises faulted None None book (no_more book)
drops_on Promises faulted (Some w) book = record {
  life = record { blocks = refl; opening = refl; stamp = refl; ours = refl };
  more = (w ∷ [], refl);
  rises = omega arith;
  mark = λ none. refl;
  grows = inl (no_more (with_progress book (Some w)));
}

-- ---- a command is over

-- it has the write that was held, unless it was refused
pub held_parsed : (wanted : Want) (command : Command) (taken : List ℕ) (dead : Bool)
    → ((wanted ≡ want.Read → ⊥) → dead ≡ false)
    → (write_held wanted command taken ≡ None) ⊎ (write_held wanted command taken ≡ write_after (checked_for_fault dead (Ok command)) taken)
held_parsed want.Room command taken dead live = inl refl
held_parsed want.Read command taken dead live = inl refl
held_parsed want.Commit command taken dead live = let alive = live (λ is. cc) in inr (rw alive refl)

promising_is : (command : Command) (taken : List ℕ) (unit : UnitState)
    → is_promising command taken unit ≡ commits command taken unit.write_cache
promising_is command taken unit = grind (arith, nat_tests)

module _ (Promises : Type 0) (refused : Bool) (block taken : List ℕ) (old new : UnitState) (answer : Result (List ℕ) Sense)
    (done : CarriesOut refused block taken old answer new)
    (may : (command : Command) (sent : List ℕ) → checked old block ≡ Ok command → commits command taken old.write_cache ≡ true
    → answer ≡ Ok sent → Promises) where
  good_marks : (command : Command) (sent : List ℕ) → checked old block ≡ Ok command → answer ≡ Ok sent
      → (new.book.mark ≡ old.book.mark) ⊎ (Promises × (new.book.mark ≡ length new.book.writes))
  good_marks command sent is good =
      let marked = keeps_writes.mark refused block taken sent old new command is (rw good at done) in
      let promises = promising_is command taken old in
      let so = may command sent is in
      grind (arith, marked, promises, so, good)

  told_marks : (told : Result Command Sense) (sent : List ℕ) → checked old block ≡ told → answer ≡ Ok sent
      → (new.book.mark ≡ old.book.mark) ⊎ (Promises × (new.book.mark ≡ length new.book.writes))
  told_marks (Ok command) sent is good = good_marks command sent is good
  told_marks (Err sense) sent is good = let by = rw is at done in absurd (let e = by.answered in cc)

  marks : (told : Result (List ℕ) Sense) → answer ≡ told
      → (new.book.mark ≡ old.book.mark) ⊎ (Promises × (new.book.mark ≡ length new.book.writes))
  marks (Ok sent) is = told_marks (checked old block) sent refl is
  marks (Err sense) is = inl (keeps_writes.unpromised refused block taken old new sense (rw is at done))

  -- the write in progress is accepted, or the unit is faulted
  more : (write : Option Write) → write_in_progress old block taken ≡ write → HasMore old.book new.book
  more None is = ([], grows refused block taken old new None answer is done ∙ sym (append-nil old.book.writes))
  more (Some w) is = elim (grows refused block taken old new (Some w) answer is done) [
    | inl accepted ↦ (w ∷ [], accepted)
    | inr faulted ↦ ([], faulted.1 ∙ sym (append-nil old.book.writes))
  ]

  grown : (w : Write) → GrowsBy (Some w) old new → GrowsTo new.faulted (with_progress old.book (Some w)) new.book
  grown w (inl accepted) = inl ([], accepted ∙ sym (append-nil (old.book.writes ++ w ∷ [])))
  grown w (inr faulted) = inr (faulted.0, (w, ap (λ (l : List Write). l ++ w ∷ []) (sym faulted.1)))

  grows_from : (held write : Option Write) → write_in_progress old block taken ≡ write → (held ≡ None) ⊎ (held ≡ write)
      → GrowsTo new.faulted (with_progress old.book held) new.book
  grows_from held write is (inl none) = rw none (inl (more write is))
  grows_from held None is (inr same) = rw same (inl (more None is))
  grows_from held (Some w) is (inr same) = rw same (grown w (grows refused block taken old new (Some w) answer is done))

  -- a good command has all writes that were held
  all_there : (held write : Option Write) → write_in_progress old block taken ≡ write → (held ≡ None) ⊎ (held ≡ write)
      → (sent : List ℕ) → answer ≡ Ok sent → length (with_progress old.book held).writes ≤ length new.book.writes
  all_there held write is (inl none) sent good =
      let more = more write is in rw none (omega (arith, ap (λ (l : List Write). length l) more.1, length-append old.book.writes more.0))
  all_there held None is (inr same) sent good =
      let more = more None is in rw same (omega (arith, ap (λ (l : List Write). length l) more.1, length-append old.book.writes more.0))
  all_there held (Some w) is (inr same) sent good =
      let accepted = keeps_writes.accepted refused block taken sent old new w is (rw good at done) in
      rw same (omega (arith, ap (λ (l : List Write). length l) accepted))

  rises : (told : Result (List ℕ) Sense) → answer ≡ told → (held : Option Write)
      → (held ≡ None) ⊎ (held ≡ write_in_progress old block taken)
      → old.book.mark ≤ length (with_progress old.book held).writes → old.book.mark ≤ new.book.mark
  rises (Ok sent) is held either low =
      let all = all_there held (write_in_progress old block taken) refl either sent is in
      let marked = marks (Ok sent) is in
      grind (arith, all, marked, low)
  rises (Err sense) is held either low = omega (arith, keeps_writes.unpromised refused block taken old new sense (rw is at done))

  -- a command that is over
  pub goes_on : (held : Option Write) → (held ≡ None) ⊎ (held ≡ write_in_progress old block taken)
      → old.book.mark ≤ length (with_progress old.book held).writes → BookGoesOn Promises new.faulted held None old.book new.book
  goes_on held either low = record {
    life = keeps_writes.life refused block taken old new answer done;
    more = more (write_in_progress old block taken) refl;
    rises = rises answer refl held either low;
    mark = λ none. ⊎_elim (λ same. same) (λ marked. absurd (none marked.0)) (marks answer refl);
    grows = grows_from held (write_in_progress old block taken) refl either;
  }
