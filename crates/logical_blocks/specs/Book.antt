-- The book of a life: the writes that were accepted, and how many of them are promised.
use Rattle.std.specs.Prelude.{ℕ, ◌+◌, ◌-◌, ◌/◌, ◌^◌, ◌≤◌, zero, suc, Bool, List, [], ◌∷◌, ◌++◌}
use Rattle.std.specs.Prelude.{length, take, Option, Some, None}
use Rattle.logical_blocks.specs.Blocks.{Array, Write, after, chunks}

-- a life so far
pub record Book : Type 0 where
  -- how many logical blocks there are
  pub blocks : ℕ
  -- the array with which the life opened
  pub opening : Array
  -- the next stamp of the image with which it opened
  pub stamp : ℕ
  -- the writes that were accepted, in order
  pub writes : List Write
  -- how many of the first of them are promised: no cut loses these
  pub mark : ℕ
  -- whether every image that a cut could leave was ours when the life opened
  pub ours : Bool

-- the array after the first k writes
abbrev pub after_first : ℕ → Book → Array
after_first k book = after book.opening (take k book.writes)

-- the array after all writes, which is what a read gives
abbrev pub array_of : Book → Array
array_of book = after book.opening book.writes

-- with one write more
abbrev pub with_write : Book → Write → Book
with_write book write = record book { writes = book.writes ++ write ∷ [] }

-- the book with the write in progress, if there is one
abbrev pub with_progress : Book → Option Write → Book
with_progress book None = book
with_progress book (Some write) = with_write book write

-- with all writes promised
abbrev pub promised : Book → Book
promised book = record book { mark = length book.writes }

-- a life that opens
abbrev pub opened : ℕ → Array → ℕ → Bool → Book
opened blocks array stamp ours =
    record { blocks = blocks; opening = array; stamp = stamp; writes = []; mark = 0; ours = ours }

-- The stamps may be used up: those below 2^63 are given one by one, at most one to each write.
abbrev pub StampsOut : Book → Type 0
StampsOut book = 2 ^ 63 - 1 ≤ book.stamp + length book.writes

-- these bytes, block by block, go to the addresses from this one on
abbrev pub write_of : ℕ → List ℕ → Write
write_of address bytes = record { address = address; blocks = chunks (length bytes / 512) bytes }

-- the bytes of a number of blocks from this address on, one block after the other
abbrev pub blocks_at : Array → ℕ → ℕ → List ℕ
blocks_at array address zero = []
blocks_at array address (suc count) = array address ++ blocks_at array (address + 1) count
