-- The promise. What an image of a medium stands for is handed in, and so is what a loss of power
-- may leave of a medium: the promise reads without the bytes of a format. The rules of the disk are
-- handed in too: it is the same promise for a disk whose device is behind.
use Rattle.std.specs.Prelude.{◌≡◌, ℕ, ◌+◌, ◌≤◌, Bool, true, false, List, [], ◌∷◌, ◌++◌}
use Rattle.spec.specs.declared.event.Answer.{Answer}
use Rattle.logical_blocks.specs.Blocks.{Array}
use Rattle.logical_blocks.specs.Book.{Book}
use Rattle.logical_blocks.specs.CrashStates.{MayFind, FoundWith, OpensOn}
use Rattle.spec.specs.Conversation.{refused_events}
use Rattle.spec.specs.Lives.{Presentation, DiskRules, Action, Place, before_first, between, runs}
use Rattle.spec.specs.Lives.{off, Standing, Opens, LivesRun}

-- before the first life, which opens with this book and has this limit
abbrev pub first_standing : {rules : DiskRules} → ℕ → Book → Standing rules
first_standing limit book = record { place = before_first book; armed = false; limit = limit }

-- What an image is found to hold: this many logical blocks, with these bytes, and this next stamp.
module _ {Image : Type 0} (Holds : ℕ → Image → Array → ℕ → Type 0) where
  -- an image that a loss of power may leave of lives that stand here
  abbrev pub FoundAt : {rules : DiskRules} → Place rules → Image → Type 0
  FoundAt (before_first book) image = Holds book.blocks image book.opening book.stamp
  FoundAt (between remains) image = FoundWith Holds remains.book remains.in_progress image
  FoundAt {rules} (runs conversation) image =
      FoundWith Holds (rules.book conversation) (rules.write_now conversation) image
  FoundAt (off remains) image = FoundWith Holds remains.book remains.in_progress image

-- A limit is the most blocks of one READ or WRITE: an image tells it.
module _ (rules : DiskRules) {Image : Type 0} (StandsFor IsOurs : ℕ → Image → Array → ℕ → Type 0)
    (HasLimit : ℕ → Image → Type 0) where
  -- Lives by the rules, of which the first opens with this book and has this limit, and what a
  -- loss of power may leave after them.
  pub record AreKept (disk : Presentation) (limit : ℕ) (book : Book) (actions : List Action)
      (answers : List Answer) (refusals : List Bool) (Leaves : Image → Type 0) : Type 0 where
    pub last : Standing rules
    pub run : LivesRun disk (first_standing limit book) actions answers refusals last
    pub limited : book.ours ≡ true → (image : Image) → Leaves image → HasLimit limit image
    pub found : book.ours ≡ true → (image : Image) → Leaves image → FoundAt IsOurs last.place image

  -- The promise: what was done, what was answered, and what a loss of power may leave are lives
  -- by the rules, on each book with which the first may open over what the medium held. The
  -- numbers are how many calls the medium had refused before, how many it has afterwards, and how
  -- many causes there were for a refusal.
  pub record IsKept (disk : Presentation) (content : Image) (Before : Image → Type 0)
      (before after causes : ℕ) (actions : List Action) (answers : List Answer)
      (Leaves : Image → Type 0) : Type 0 where
    -- the actions in which the medium refused a call: no more than it refused, and no more than
    -- had a cause
    pub refusals : List Bool
    pub few : refused_events refusals + before ≤ after
    pub caused : refused_events refusals ≤ causes
    pub lives : (limit : ℕ) (book : Book) → OpensOn StandsFor IsOurs content Before book
        → HasLimit limit content → AreKept disk limit book actions answers refusals Leaves

  -- The same, where the next start was refused: the book with which that life would have opened,
  -- and what a start after it may find.
  pub record AreKeptUpTo (disk : Presentation) (limit : ℕ) (book : Book) (actions : List Action)
      (answers : List Answer) (refusals : List Bool) (Leaves : Image → Type 0) : Type 0 where
    pub last : Standing rules
    pub run : LivesRun disk (first_standing limit book) actions answers refusals last
    pub next : Book
    pub opens : Opens last.place next
    pub limited : book.ours ≡ true → (image : Image) → Leaves image → HasLimit limit image
    pub found : book.ours ≡ true → (image : Image) → Leaves image → MayFind IsOurs next image

  pub record IsKeptUpTo (disk : Presentation) (content : Image) (Before : Image → Type 0)
      (before after causes : ℕ) (actions : List Action) (answers : List Answer)
      (Leaves : Image → Type 0) : Type 0 where
    pub refusals : List Bool
    -- did the medium refuse a call in the start that was refused?
    pub in_start : Bool
    pub few : refused_events (refusals ++ in_start ∷ []) + before ≤ after
    pub caused : refused_events (refusals ++ in_start ∷ []) ≤ causes
    pub lives : (limit : ℕ) (book : Book) → OpensOn StandsFor IsOurs content Before book
        → HasLimit limit content → AreKeptUpTo disk limit book actions answers refusals Leaves
