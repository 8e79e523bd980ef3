-- What is known of an image by the books for which it stands, and the store that a recovery starts.
use Rattle.std.proofs.Common.{◌≡◌, ◌≤◌, ◌<◌, ◌^◌, ℕ, ⊎_elim, arith, ◌∙◌, sym, ap, subst, refl, Bool, true, Option, List, [], ◌∷◌, rules}
use Rattle.std.{proofs.lemmas.Bool.{Decides.nat_tests, false≢true}, specs.Prelude.{Bool, true}}
use Rattle.medium.{specs.{Moments.{EachCut, IsFlushed, LeavesOnly}, Medium.{State, Image, IsSound}}, proofs.Moments.{at_exit, only_image}}
use Rattle.logical_blocks.specs.{Blocks.{Array, Write, apply, after}, Book.{Book, opened}}
use Rattle.journal.{proofs.StandingLaws.{StandsFor-one, HasFault-stands}, specs.{Standing.{StandsFor, Stands, IsOurs}, Formats.shape_of}}
use Rattle.redo_log.{specs.Held.{resting_view, HoldsView}, proofs.StoreFacts.empty_holds}
use Rattle.recovery.specs.{Recovered.{IsOursForSome, StandsForOneOf, LeftByRecovery}, declared.start_fault.StartFault.StartFault}
use Rattle.recovery.specs.declared.recovered.Recovered.{Recovered}
use Rattle.blocks.specs.{Started.{IsStartCause, IsStartedFrom, started_log, cached_from, ring_by, keeps_by}, Finding.{StandsAs, MayFind}}
use Rattle.blocks.specs.{StoreValue.{Cached, layout_of, blocks_of, FitsBook}, Opening.{Shape, StandsForOpening, OpensOn}, Book.Same}
use Rattle.blocks.specs.{Finding.FoundWith, Opening.IsCauseFor}
use Rattle.blocks.{specs.declared.start.Keeping.Keeping, proofs.BookTurns.{apply_same, shows_book, may_find}}
use Rattle.journal.specs.Standing as image
use Rattle.recovery.specs.Recovered as recovered

-- writes to arrays with the same block leave the same there
after_same : (writes : List Write) (a c : Array) (b : ℕ) → a b ≡ c b → after a writes b ≡ after c writes b
after_same [] a c b e = e
after_same (w ∷ writes) a c b e = after_same writes (apply a w) (apply c w) b (apply_same w a c b e)

-- what may be found of a book is ours
pub found_ours : (size : ℕ) (book : Book) (write : Option Write) (image : Image) → FoundWith size book write image
    → IsOursForSome size image
found_ours size book write image m = grind (arith, m)

-- every image that a cut may leave is ours, where the book says so
pub each_ours : (m : State) (book : Book) → OpensOn m book → book.ours ≡ true → EachCut (IsOursForSome m.size) m
each_ours m book on is_ours image cut = grind (arith)

-- an image that is ours, and stands for the opening of a book, is ours for it
pub ours_for_opening : (size : ℕ) (book : Book) (image : Image) → StandsForOpening size book image → IsOursForSome size image
    → StandsAs size book.blocks image book.opening book.stamp
ours_for_opening size book image there is =
    let one = StandsFor-one _ _ _ _ _ _ _ _ _ is.3.stands there.2 in grind (arith, nat_tests, one, there, is)

-- it stands for the opening of each book for which it is ours, and so for something
pub stands_for_opening : (size : ℕ) (book : Book) (image : Image) → StandsAs size book.blocks image book.opening book.stamp
    → StandsForOpening size book image
stands_for_opening size book image is = (is.0, is.1, is.2.stands)

pub stands_for_some : (size : ℕ) (book : Book) (image : Image) → StandsForOpening size book image → Stands size image
stands_for_some size book image there = (there.0, book.opening, book.stamp, there.2)

-- a store that serves what the contents stood for fits each book with which a life may open over them
pub serves : (before after : State) (s : Cached) (array : Array) (next : ℕ) → StandsFor before.size (layout_of s) before.content array next
    → ((ours : Bool) → (ours ≡ true → EachCut (IsOursForSome before.size) before) → FitsBook after s (opened (blocks_of s) array next ours))
    → (book : Book) → OpensOn before book → FitsBook after s book
serves before after s array next stood fits book on =
    let one = StandsFor-one _ _ _ _ _ _ _ _ _ stood on.stands.2 in
    let f = fits book.ours (each_ours before book on) in grind (arith, ℕ, after_same, shows_book, f, on.opens, on.stands, one)

module _ (before after : State) (sound : IsSound after) (size_stays : after.size ≡ before.size) (book : Book) (on : OpensOn before book)
    (flushed : IsFlushed before) where
  -- where nothing was unflushed, a cut leaves what may be found of a book that opens
  pub finds : LeavesOnly (StandsForOneOf before) before after → EachCut (MayFind after.size book) after
  finds cuts image cut =
      let one = at_exit (StandsForOneOf before) before after sound cuts image cut in
      let is = only_image before.content before.may_leave flushed one.before one.allowed in
      let same = StandsFor-one _ _ _ _ _ _ _ _ _ on.stands.2 (rw is at one.was).stands in
      let blocks_same : one.shape.blocks ≡ book.blocks = sym (ap (λ (x : Shape). x.blocks) same.0) ∙ on.stands.1 in
      let arrays : Same book.blocks book.opening one.array = subst (λ (n : ℕ). Same n book.opening one.array) on.stands.1 same.2 in
      let none = ap (λ (b : Book). b.mark) on.opens in
      let found = λ (b : ℕ) (below : b < book.blocks). sym (arrays b below) in
      rw size_stays (⊎_elim
      (λ is. may_find 0 (omega (arith, none)) (omega arith) blocks_same found is (omega (arith, same.1)))
      (λ is. may_find 0 (omega (arith, none)) (omega arith) blocks_same found is (omega (arith, same.1)))
      one.is)

module _ (before after : State) (book : Book) (on : OpensOn before book) where
  no_fault : (fault : image.ImageFault) → image.HasFault before.size before.content fault → ⊥
  no_fault fault h = grind (arith, HasFault-stands)

  used_up : image.HasNoStampLeft before.size before.content → 2 ^ 63 ≤ book.stamp
  used_up h = omega (arith, (StandsFor-one _ _ _ _ _ _ _ _ _ h.3 on.stands.2).1, h.4)

  -- contents that stand for a book have no fault but that their stamps may be used up
  pub is_cause_for : (fault : StartFault) → IsStartCause before after fault → IsCauseFor book before after fault
  is_cause_for fault h =
      grind (arith, h, no_fault image.BadSuper, no_fault image.BadVersion, no_fault image.BadSize, no_fault image.BadHead, used_up)

-- it fits a life that opens with the array that is at home
opens : (keeping : Keeping) (answer : Recovered) (array : Array) (ours : Bool) (m : State)
    → HoldsView (started_log keeping (shape_of answer.sizes) answer.next) m (resting_view array ours)
    → FitsBook m (cached_from keeping answer) (opened answer.sizes.blocks array answer.next ours)
opens keeping answer array ours m holds = grind (arith, resting_view)

module _ (keeping : Keeping) (before gone now : State) (answer : Recovered) (left : LeftByRecovery before gone answer now) where
  -- where the contents were ours for some array, they were ours for the one that is served
  was_ours : EachCut (IsOursForSome before.size) before
      → IsOurs before.size (shape_of answer.sizes) before.content left.recovered.array answer.next
  was_ours each =
      let e = each before.content left.sound.holds_content in
      let one = StandsFor-one _ _ _ _ _ _ _ _ _ left.recovered.stood e.3.stands in grind (arith, left.recovered.stood, e, one)

  -- nothing in any image carries the next stamp
  fresh_now : IsOurs before.size (shape_of answer.sizes) before.content left.recovered.array answer.next
      → EachCut (recovered.IsFresh (shape_of answer.sizes) left.recovered.array answer.next) now
  fresh_now ours image cut =
      left.fresh (shape_of answer.sizes) left.recovered.array answer.next ours image (λ s. left.sets s (image s) (cut s))

  -- under the premise the log and the medium hold what a cut may leave, too
  fits : (ours : Bool) → (ours ≡ true → EachCut (IsOursForSome before.size) before)
      → FitsBook now (cached_from keeping answer) (opened answer.sizes.blocks left.recovered.array answer.next ours)
  fits ours premise =
      let from = left.recovered in
      opens keeping answer from.array ours now (empty_holds (shape_of answer.sizes) answer.next
      (ring_by keeping answer.sizes.slots) (keeps_by keeping) from.array ours now (omega (arith, from.stood.fits, left.size_stays))
      (grind (arith, left.content_stays)) (λ is image cut.
      let fresh = fresh_now (was_ours (premise is)) image cut in search (rules, arith, fresh)))

  pub starts : IsStartedFrom keeping before now (cached_from keeping answer)
  starts = let from = left.recovered in record {
    array = from.array;
    next = answer.next;
    stood = from.stood;
    stamp_left = from.stamp_left;
    fits = fits;
    serves = serves before now (cached_from keeping answer) from.array answer.next from.stood fits;
    opens = record { opens = refl; stands = (shape_of answer.sizes, refl, from.stood); ours = λ ours. absurd (false≢true ours) };
    live = refl;
    empty = refl;
    rests = refl;
    log = refl;
    opened = λ ours. record {
      is = refl;
      fits = omega (arith, from.stood.fits, left.size_stays);
      rests = λ image cut. let fresh = fresh_now ours image cut in search (rules, arith, fresh);
    };
  }
