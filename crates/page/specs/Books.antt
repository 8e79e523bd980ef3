-- What steps do to a disk, its book and its medium.
use Rattle.std.specs.Prelude.{◌≡◌, ◌⊎◌, ℕ, ◌≤◌, true, length, Ok, Err, MatchResult}
use Rattle.medium.specs.Sim.{Sim, ComesAfter, IsCut, IsFused}
use Rattle.medium.specs.Writes.{keeps}
use Rattle.medium.specs.declared.kept.Kept.TheVariants.{Mask}
use Rattle.logical_blocks.specs.Book.{Book, after_first, opened, with_write, promised}
use Rattle.blocks.specs.StoreValue.{StoreValue}
use Rattle.page.specs.Causes.{Outcome, Answers, HasDied, EndsStart}
use Rattle.page.specs.Extents.{filled}
use Rattle.page.specs.Standing.{Standing, KeepsLives, KeepsOthers, medium_of, next_life}
use Rattle.page.specs.declared.fault.Fault.TheVariants.{Lost, Idle}
use Rattle.page.specs.declared.place.Place.{Place}
use Rattle.page.specs.declared.place.Place.TheVariants.{Runs, Off, Between}
use Rattle.page.specs.declared.step.Command.{Command}
use Rattle.page.specs.declared.step.Command.TheVariants.{Write, Force, Sync}
use Rattle.page.specs.declared.step.Step.{Step}
use Rattle.page.specs.declared.step.Step.TheVariants as step

-- the book after a command that was good
abbrev pub after_good : Command → Book → Book
after_good (Write extent) book = with_write book (filled extent)
after_good (Force extent) book = promised (with_write book (filled extent))
after_good Sync book = promised book
after_good command book = book

-- the book after one that failed, but whose write the disk has taken
abbrev pub after_half : Command → Book → Book
after_half (Force extent) book = with_write book (filled extent)
after_half command book = book

-- a command was carried out, or it failed
abbrev pub Carries : Command → Outcome → Book → Book → Type 0
Carries command result old new = MatchResult result (λ _. new ≡ after_good command old)
    (λ _. (new ≡ old) ⊎ (new ≡ after_half command old))

-- the power went off in a command: it was carried out or not
abbrev pub MayCarry : Command → Book → Book → Type 0
MayCarry command old new =
    (new ≡ old) ⊎ (new ≡ after_half command old) ⊎ (new ≡ after_good command old)

-- A start finds the first writes of a book, none in part: the promised ones at least. With them the
-- next book opens.
pub record Opens (old new : Book) : Type 0 where
  pub count : ℕ
  pub promises : old.mark ≤ count
  pub accepted : count ≤ length old.writes
  pub opens : new ≡ opened old.blocks (after_first count old) new.stamp true

-- ---- what one step makes of where a disk stands

-- nothing happens
abbrev pub Waits : Outcome → Standing → Standing → Type 0
Waits result old new = (result ≡ Err Idle) × (new ≡ old)

-- the store lives on
pub record LivesOn (command : Command) (result : Outcome) (store : StoreValue Sim)
    (old new : Standing) : Type 0 where
  pub after : StoreValue Sim
  pub place : new.scene.place ≡ Runs after
  pub policy : after.goes_ahead ≡ store.goes_ahead
  pub answers : Answers command result store after
  pub carries : Carries command result old.book new.book

-- or it dies, and the power is off
pub record GoesOff (command : Command) (result : Outcome) (store : StoreValue Sim)
    (old new : Standing) : Type 0 where
  pub left : Sim
  pub place : new.scene.place ≡ Off left
  pub lost : result ≡ Err Lost
  pub cause : HasDied store.medium left new.book
  pub carries : MayCarry command old.book new.book

-- A command comes to a store that runs: it makes calls of the medium alone.
pub record CommandsStore (command : Command) (result : Outcome) (store : StoreValue Sim)
    (old new : Standing) : Type 0 where
  pub ends : LivesOn command result store old new ⊎ GoesOff command result store old new
  pub follows : ComesAfter store.medium (medium_of new.scene.place)
  pub lives : KeepsLives old.scene.life new.scene.life
  pub policy : new.scene.goes_ahead ≡ old.scene.goes_ahead

-- and one to a disk that does not run
abbrev pub Commands : Command → Outcome → Place → Standing → Standing → Type 0
Commands command result (Runs store) old new = CommandsStore command result store old new
Commands command result place old new = Waits result old new

-- A fuse of so many writes and flushes is armed, but where the power is off.
abbrev pub IsArmed : ℕ → Place → Place → Type 0
IsArmed writes (Runs store) new = (after : StoreValue Sim) × (new ≡ Runs after)
    × IsFused writes store.medium after.medium × (after.cached ≡ store.cached)
    × (after.goes_ahead ≡ store.goes_ahead)
IsArmed writes (Off m) new = new ≡ Off m
IsArmed writes (Between m) new = (after : Sim) × (new ≡ Between after) × IsFused writes m after

-- the unflushed writes outlive the cut whose bits are set
abbrev pub IsCutBy : ℕ → Place → Place → Type 0
IsCutBy mask old new =
    (after : Sim) × (new ≡ Between after) × IsCut (keeps (Mask mask)) (medium_of old) after

-- A start where none runs: it is counted, and one that is refused or cut ends with the power off.
pub record StartsOn (result : Outcome) (m : Sim) (old new : Standing) : Type 0 where
  pub opens : Opens old.book new.book
  pub life : new.scene.life ≡ next_life old.scene.life
  pub policy : new.scene.goes_ahead ≡ old.scene.goes_ahead
  pub ends : EndsStart result old.scene.goes_ahead m new.scene.place

abbrev pub Starts : Outcome → Place → Standing → Standing → Type 0
Starts result (Between m) old new = StartsOn result m old new
Starts result place old new = Waits result old new

abbrev pub Turns : Step → Outcome → Standing → Standing → Type 0
Turns (step.Command command) result old new = Commands command result old.scene.place old new
Turns (step.Fuse writes) result old new = (result ≡ Ok tt) × KeepsOthers old new
    × IsArmed writes old.scene.place new.scene.place
Turns (step.Cut mask) result old new = (result ≡ Ok tt) × KeepsOthers old new
    × IsCutBy mask old.scene.place new.scene.place
Turns step.Start result old new = Starts result old.scene.place old new
