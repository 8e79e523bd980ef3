-- What steps leave of a life.
use Rattle.std.proofs.Common.{◌≡◌, ℕ, ◌+◌, ◌-◌, ◌^◌, List, [], ◌∷◌, ◌++◌, length, min, true, refl, sym, subst, ap, arith}
use Rattle.std.proofs.Common.{◌⊎◌, ◌∙◌, ◌<◌, ◌≤◌, false, length-append, inl, inr, ⊎_elim, replicate, Ok, Err}
use Rattle.std.proofs.{lemmas.Bool.cases_Bool}
use Rattle.medium.specs.Medium.{Image, State, CutLeaves}
use Rattle.medium.specs.declared.fault.MediumFault.TheVariants.{Read}
use Rattle.medium.specs.Moments.{IsFlushed}
use Rattle.medium.specs.Sim.{Sim, state_of}
use Rattle.medium.specs.SimLaws.{is_sound}
use Rattle.medium.proofs.Moments.{only_image}
use Rattle.logical_blocks.specs.{Blocks.Write, Book.{Book, StampsOut, after_first, opened, with_write}}
use Rattle.blocks.specs.Finding.{MayFind}
use Rattle.blocks.specs.Opening.{OpensOn}
use Rattle.blocks.specs.Started.{LeavesMedium}
use Rattle.blocks.proofs.KnownImages.{finds, each_ours, stands_for_opening}
use Rattle.blocks.specs.{StoreValue.{Cached, StoreValue, FitsBook, blocks_of, is_dead}, Turns.{GoesOn, IsReadCause}}
use Rattle.blocks.specs.declared.fault.StoreFault.{TheVariants.{ReadFault, Dead}, StoreFault}
use Rattle.page.specs.Books.{Carries, MayCarry}
use Rattle.page.specs.Causes.{Outcome, Answers, HasDied}
use Rattle.page.specs.Extents.{LiesWithin, filled}
use Rattle.page.specs.Standing.{KeepsLives, next_life}
use Rattle.journal.specs.Places.{Shape}
use Rattle.journal.specs.Standing.{IsOurs}
use Rattle.recovery.specs.Calls.{IsFormatted}
use Rattle.page.specs.Scripts.{formatted}
use Rattle.page.specs.Scenes.{Finds, LeavesBook, Counts}
use Rattle.page.specs.declared.life.Life.{Life}
use Rattle.page.specs.declared.extent.Extent.{Extent}
use Rattle.page.specs.declared.fault.Fault.{Fault}
use Rattle.page.specs.declared.fault.Fault.TheVariants.{Lost, Idle, Refused, Failed, NoMemory}
use Rattle.page.specs.declared.step.Command.{Command}
use Rattle.page.specs.declared.step.Command.TheVariants.{Force, Sync}
use Rattle.page.specs.declared.step.Command.TheVariants as command

-- one write more is counted
pub counts_one : (number next : ℕ) (writes : List Write) (write : Write) → number ≡ min (2 ^ 64 - 1) (length writes)
    → next ≡ min (number + 1) (2 ^ 64 - 1) → next ≡ min (2 ^ 64 - 1) (length (writes ++ write ∷ []))
counts_one number next writes write is then = simp length-append (omega (arith, is, then))

-- a life that begins has no writes
pub counts_none : (was life : Life) (book : Book) → life ≡ next_life was → book.writes ≡ [] → book.mark ≡ 0 → Counts life book
counts_none was life book next none mark =
    let empty : length book.writes ≡ 0 = ap (λ (ws : List Write). length ws) none in
    let accepted : life.accepted ≡ 0 = ap (λ (l : Life). l.accepted) next in
    let promised : life.promised ≡ 0 = ap (λ (l : Life). l.promised) next in
    record { accepted = omega (arith, accepted, empty); promised = omega (arith, promised, mark) }

-- the lives before stay over two commands
pub lives_on : (was mid life : Life) → KeepsLives was mid → KeepsLives mid life → KeepsLives was life
lives_on was mid life first second =
    second ∙ ap (λ (l : Life). record l { accepted = life.accepted; promised = life.promised }) first

-- why a store died, by its book afterwards
pub died : (old new : StoreValue Sim) (book later : Book)
    → GoesOn (state_of old.medium) (state_of new.medium) old.cached new.cached → FitsBook (state_of old.medium) old.cached book
    → (StampsOut book → StampsOut later) → is_dead old.cached ≡ false → is_dead new.cached ≡ true
    → HasDied old.medium new.medium later
died old new book later on fits out live dead = ⊎_elim inl (λ none. inr (out (none book fits))) (on.cause live dead)

-- a write more leaves no stamps
pub out_with : (book : Book) (write : Write) → StampsOut book → StampsOut (with_write book write)
out_with book write out = simp length-append (omega (arith, out))

-- a read of a store that is dead afterwards, or of a medium that refused one
pub unread : (before after : State) (old : Cached) (why : StoreFault) → IsReadCause before after old why
    → (is_dead old ≡ true) ⊎ (before.refused Read < after.refused Read)
unread before after old ReadFault cause = inr cause.1
unread before after old Dead dead = inl dead

-- ---- a write that a sync follows

module _ (extent : Extent) (book : Book) where
  abbrev with_it : Book
  with_it = with_write book (filled extent)

  pub forces : (result : Outcome) (later : Book) → Carries Sync result with_it later → Carries (Force extent) result book later
  forces (Ok done) later e = e
  forces (Err why) later e = ⊎_elim inr inr e

  pub force_answers : (result : Outcome) (old mid new : StoreValue Sim) → LiesWithin extent (blocks_of old.cached)
      → Answers Sync result mid new → Answers (Force extent) result old new
  force_answers (Ok done) old mid new within answers = within
  force_answers (Err Refused) old mid new within answers = absurd (answers.0 tt)
  force_answers (Err NoMemory) old mid new within answers = absurd answers.1
  force_answers (Err Failed) old mid new within answers = (within, ⊎_elim inl (λ read. absurd read.0) answers.1)
  force_answers (Err Lost) old mid new within answers = answers
  force_answers (Err Idle) old mid new within answers = answers

  -- where the write was not good, that is why
  pub force_unwritten : (why : Fault) (old new : StoreValue Sim) → Answers (command.Write extent) (Err why) old new
      → Answers (Force extent) (Err why) old new
  force_unwritten Refused old new cause = cause
  force_unwritten NoMemory old new cause = cause
  force_unwritten Failed old new cause = (cause.0, ⊎_elim inl (λ read. absurd read.0) cause.1)
  force_unwritten Lost old new cause = cause
  force_unwritten Idle old new cause = cause

  out_on : (result : Outcome) (later : Book) → Carries Sync result with_it later → StampsOut with_it → StampsOut later
  out_on (Ok done) later e out = rw e out
  out_on (Err why) later (inl e) out = rw e out
  out_on (Err why) later (inr e) out = rw e out

  pub force_dies : (result : Outcome) (old mid new : StoreValue Sim) (later : Book) → Carries Sync result with_it later
      → (state_of old.medium).failures ≤ (state_of mid.medium).failures → (state_of mid.medium).failures ≤ (state_of new.medium).failures
      → (is_dead old.cached ≡ false → is_dead mid.cached ≡ true → HasDied old.medium mid.medium with_it)
      → (is_dead mid.cached ≡ false → is_dead new.cached ≡ true → HasDied mid.medium new.medium later)
      → is_dead old.cached ≡ false → is_dead new.cached ≡ true → HasDied old.medium new.medium later
  force_dies result old mid new later carries less more first second live dead = elim (cases_Bool (is_dead mid.cached)) [
    | inl gone ↦ ⊎_elim (λ few. inl (omega (arith, few, more))) (λ out. inr (out_on result later carries out)) (first live gone)
    | inr lives ↦ ⊎_elim (λ few. inl (omega (arith, few, less))) inr (second lives dead)
  ]

-- a command that was carried out or failed may have been carried out
pub may_carry : (command : Command) (result : Outcome) (old new : Book) → Carries command result old new → MayCarry command old new
may_carry command (Ok done) old new e = inr (inr e)
may_carry command (Err fault) old new e = ⊎_elim inl (λ half. inr (inl half)) e

-- a cut leaves what it might
pub after_cut : (old new : Sim) (book : Book) → LeavesBook old book → CutLeaves (state_of old).may_leave (state_of new).content
    → IsFlushed (state_of new) → (state_of new).size ≡ (state_of old).size → LeavesBook new book
after_cut old new book leaves allowed none size image cut =
    let same : image ≡ (state_of new).content =
    only_image (state_of new).content (state_of new).may_leave none image cut in
    subst (MayFind (state_of new).size book) (sym same)
    (subst (λ (n : ℕ). MayFind n book (state_of new).content) (sym size) (leaves (state_of new).content allowed))

module _ (m : Sim) (book : Book) (leaves : LeavesBook m book) where
  pub found : MayFind (state_of m).size book (state_of m).content
  found = leaves (state_of m).content (is_sound m).holds_content

  -- the book with which a start opens
  abbrev pub next_book : Book
  next_book = opened book.blocks (after_first found.count book) found.next true

  pub finds_next : Finds book next_book
  finds_next = record {
    opens = record { count = found.count; promises = found.promises; accepted = found.accepted; opens = refl };
    none = refl;
    mark = refl;
    ours = refl;
  }

  pub on_next : OpensOn (state_of m) next_book
  on_next = record {
    opens = refl;
    stands = stands_for_opening (state_of m).size next_book (state_of m).content found.stands;
    ours = λ _ image cut. let one = leaves image cut in (book.blocks, after_first one.count book, one.next, one.stands);
  }

  -- a start that is refused leaves that book
  pub refused : (after : Sim) (Follows : Sim → Sim → Type 0) → IsFlushed (state_of m) → LeavesMedium state_of Follows m after
      → LeavesBook after next_book
  refused after Follows none h =
      finds (state_of m) (state_of after) (is_sound after) h.moments.moments.size_stays next_book on_next none
      (h.cuts (each_ours (state_of m) next_book on_next refl))

-- a new image holds a book without writes
pub formatted_leaves : (shape : Shape) (m : Sim) → IsFormatted shape (state_of m) → LeavesBook m (formatted shape.blocks)
formatted_leaves shape m h image cut = record {
  count = 0;
  next = 2;
  promises = omega arith;
  accepted = omega arith;
  stands = (
    shape,
    refl,
    subst (λ (i : Image). IsOurs (state_of m).size shape i (λ b. replicate 512 0) 2)
        (sym (only_image (state_of m).content (state_of m).may_leave h.flushed image cut)) h.ours,
  );
  bound = omega arith;
}
