-- What is true of a store that is at rest.
use Rattle.std.specs.Prelude.{◌≡◌, ℕ, ◌+◌, ◌<◌, true, []}
use Rattle.medium.specs.{Medium.{State, Image}, Moments.EachCut}
use Rattle.logical_blocks.specs.Book.{Book, array_of, promised}
use Rattle.journal.specs.Places.{Shape, first_home}
use Rattle.blocks.specs.StoreValue.{Cached, layout_of, FitsBook}

-- each block of the book stands at home in the image
abbrev pub IsAtHome : Shape → Book → Image → Type 0
IsAtHome shape book image = (b : ℕ) → b < book.blocks
    → image (first_home shape + b) ≡ array_of book b

-- No record waits and none is under way, and both batches are empty. Each accepted write is durable
-- and at home, also in all that a cut may leave.
pub record IsSettled (m : State) (s : Cached) : Type 0 where
  pub none_waits : s.log.waiting ≡ []
  pub none_under_way : s.log.under_way ≡ []
  pub active : s.active.numbers ≡ []
  pub frozen : s.frozen.numbers ≡ []
  pub durable : (book : Book) → FitsBook m s book → FitsBook m s (promised book)
  pub home : (book : Book) → FitsBook m s book → IsAtHome (layout_of s) book m.content
  pub cuts : (book : Book) → FitsBook m s book → book.ours ≡ true
      → EachCut (IsAtHome (layout_of s) book) m
