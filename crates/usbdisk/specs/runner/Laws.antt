-- What users of a disk rely on from one run to the next: of an image that was made, and of a medium
-- that lives have left.
use Rattle.std.specs.Prelude.{◌≡◌, ℕ, ◌+◌, Bool, true, List, None, replicate}
use Rattle.medium.specs.Sim.{Sim, state_of, IsCut}
use Rattle.journal.specs.{declared.log_format.LogFormat.TheVariants.Two, Places.limit_of}
use Rattle.recovery.specs.{Calls.{Shape, IsFormatted}, Recovered.IsMigratedFrom}
use Rattle.recovery.specs.declared.recovered.Recovered.{Recovered}
use Rattle.logical_blocks.specs.Book.{Book, opened}
use Rattle.spec.specs.{declared.event.Answer.Answer, Lives.Opens}
use Rattle.bot_machine.specs.{Device.Device, declared.lives.life.Life.Life}
use Rattle.bot_machine.specs.{LivesValue.{OpensOn, HasLimit, IsAtRest}, Lifetimes.AreLived}

-- A first life opens over the medium with this book, and has this limit: its power is on, nothing
-- is unflushed and no fuse is armed; the contents stand for the blocks of the book in a format with
-- this limit, and every image that a cut may leave is ours.
pub record IsReadyFor (medium : Sim) (limit : ℕ) (book : Book) : Type 0 where
  pub rests : IsAtRest medium
  pub unfused : medium.power.fuse ≡ None
  pub opens : OpensOn (state_of medium) book
  pub limited : HasLimit (state_of medium).size limit (state_of medium).content
  pub ours : book.ours ≡ true

-- After a good format a cut, whatever it keeps, leaves a medium over which a life opens: with
-- blocks of zeros, next stamp 2, and nothing written.
abbrev pub FormatIsReady : Type 0
FormatIsReady = (shape : Shape) (made cut : Sim) (keeps : ℕ → Bool)
    → IsFormatted shape (state_of made) → IsCut keeps made cut
    → IsReadyFor cut (limit_of shape.format)
    (opened shape.blocks (λ block. replicate 512 0) 2 true)

-- After a good migration of format 1 a cut, whatever it keeps, leaves a medium over which a life
-- opens, in format 2: with the blocks for which the image stood before, and nothing written.
abbrev pub MigrationIsReady : Type 0
MigrationIsReady = (old made cut : Sim) (answer : Recovered) (keeps : ℕ → Bool)
    → (state_of made).size ≡ (state_of old).size
    → (done : IsMigratedFrom (state_of old) (state_of made) answer) → IsCut keeps made cut
    → IsReadyFor cut (limit_of Two) (opened done.shape.blocks done.array (answer.next + 1) true)

-- Lives that began over a medium where every image was ours leave one over which a life opens
-- again: with the same limit, and a book with which a life may open where they have left off.
abbrev pub LivesAreReady : Type 0
LivesAreReady = (before after : Sim) (device : Device) (lives : List Life)
    (told : List Answer) (lived : AreLived before device lives told after)
    (limit : ℕ) (book : Book) (opens : OpensOn (state_of before) book)
    (has : HasLimit (state_of before).size limit (state_of before).content) → book.ours ≡ true
    → (next : Book) × IsReadyFor after limit next
    × Opens (lived.kept.lives limit book opens has).last.place next
