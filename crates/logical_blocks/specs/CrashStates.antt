-- What may be found of a book after a loss of power (crash states), and the book with which a
-- first life opens. What an image of a medium stands for is handed in: no bytes of a format.
use Rattle.std.specs.Prelude.{◌≡◌, ◌⊎◌, ℕ, ◌+◌, ◌≤◌, true, length}
use Rattle.std.specs.Prelude.{Option, Some, None}
use Rattle.logical_blocks.specs.Blocks.{Array, Write}
use Rattle.logical_blocks.specs.Book.{Book, after_first, with_write, opened}

-- What an image is found to hold: this many logical blocks, with these bytes, and this next stamp.
module _ {Image : Type 0} (Holds : ℕ → Image → Array → ℕ → Type 0) where
  -- the image holds the blocks after some of the first writes of the book, the promised ones at
  -- least
  pub record MayFind (book : Book) (image : Image) : Type 0 where
    -- how many of the writes
    pub count : ℕ
    -- the next stamp: each write since the book opened took one at most, and a start takes one
    pub next : ℕ
    pub promises : book.mark ≤ count
    pub accepted : count ≤ length book.writes
    pub stands : Holds book.blocks image (after_first count book) next
    pub bound : next ≤ book.stamp + length book.writes + 1

  -- the same, perhaps with the write in progress, whole
  abbrev pub Found : Book → Write → Image → Type 0
  Found book write image = MayFind book image ⊎ MayFind (with_write book write) image

  -- the same, where perhaps a write is in progress
  abbrev pub FoundWith : Book → Option Write → Image → Type 0
  FoundWith book None image = MayFind book image
  FoundWith book (Some write) image = Found book write image

-- An image stands for blocks and a next stamp. It is ours where, besides, nothing that lies on it
-- could be taken for a write that was not made: so it is once a format wrote it.
module _ {Image : Type 0} (StandsFor IsOurs : ℕ → Image → Array → ℕ → Type 0) where
  -- A first life opens with this book on a medium with this content, of which a loss of power may
  -- leave these images. Where the book says so, each of them is ours.
  pub record OpensOn (content : Image) (Leaves : Image → Type 0) (book : Book) : Type 0 where
    pub opens : book ≡ opened book.blocks book.opening book.stamp book.ours
    pub stands : StandsFor book.blocks content book.opening book.stamp
    pub ours : book.ours ≡ true → (image : Image) → Leaves image
        → (blocks : ℕ) × (array : Array) × (next : ℕ) × IsOurs blocks image array next
