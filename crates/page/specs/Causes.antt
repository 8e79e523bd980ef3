-- Why a command or a start was not good.
use Rattle.std.specs.Prelude.{◌≡◌, ◌⊎◌, ℕ, ◌<◌, true, Bool, ◌&&◌, if◌then◌else◌, Ok, Err, Result}
use Rattle.medium.specs.Sim.{Sim, state_of, ComesAfter}
use Rattle.medium.specs.declared.fault.MediumFault.TheVariants as call
use Rattle.logical_blocks.specs.Book.{Book, StampsOut}
use Rattle.theorems.specs.Ahead.{may_go_by}
use Rattle.recovery.specs.declared.start_fault.StartFault.{StartFault}
use Rattle.blocks.specs.StoreValue.{StoreValue, blocks_of, layout_of, is_dead}
use Rattle.blocks.specs.Started.{IsStartCause}
use Rattle.page.specs.Extents.{LiesWithin}
use Rattle.page.specs.declared.fault.Fault.{Fault}
use Rattle.page.specs.declared.fault.Fault.TheVariants.{Lost, Idle, Refused, Failed, NoMemory}
use Rattle.page.specs.declared.place.Place.{Place}
use Rattle.page.specs.declared.place.Place.TheVariants.{Runs, Off}
use Rattle.page.specs.declared.step.Command.{Command}
use Rattle.page.specs.declared.step.Command.TheVariants.{Write, Force, Sync, Read, Tick, Unknown}

-- how a step went
abbrev pub Outcome : Type 0
Outcome = Result (Unit {0}) Fault

-- ---- a command

-- the command is one, and the blocks that it names are blocks of a disk of so many
abbrev pub CanBeMade : Command → ℕ → Type 0
CanBeMade (Write extent) blocks = LiesWithin extent blocks
CanBeMade (Force extent) blocks = LiesWithin extent blocks
CanBeMade Sync blocks = Unit {0}
CanBeMade (Read extent) blocks = LiesWithin extent blocks
CanBeMade Tick blocks = Unit {0}
CanBeMade Unknown blocks = ⊥

-- it takes memory, for the bytes of its blocks
abbrev pub TakesMemory : Command → Type 0
TakesMemory (Write extent) = Unit {0}
TakesMemory (Force extent) = Unit {0}
TakesMemory (Read extent) = Unit {0}
TakesMemory command = ⊥

abbrev pub IsRead : Command → Type 0
IsRead (Read extent) = Unit {0}
IsRead command = ⊥

-- a read was refused by the medium
abbrev pub HasRefusedRead : Sim → Sim → Type 0
HasRefusedRead old new = (state_of old).refused call.Read < (state_of new).refused call.Read

-- Why a store that has lived on, or died, did not carry a command out. Of want of memory no clause
-- can say when there is any: it is told of commands that take some alone, and nothing has changed.
abbrev pub IsCause : Command → Fault → StoreValue Sim → StoreValue Sim → Type 0
IsCause command Refused old new = (¬ CanBeMade command (blocks_of old.cached)) × (new ≡ old)
IsCause command NoMemory old new =
    CanBeMade command (blocks_of old.cached) × TakesMemory command × (new ≡ old)
IsCause command Failed old new = CanBeMade command (blocks_of old.cached)
    × ((is_dead new.cached ≡ true) ⊎ (IsRead command × HasRefusedRead old.medium new.medium))
IsCause command Lost old new = ⊥
IsCause command Idle old new = ⊥

-- how a command of a store went
abbrev pub Answers : Command → Outcome → StoreValue Sim → StoreValue Sim → Type 0
Answers command (Ok done) old new = CanBeMade command (blocks_of old.cached)
Answers command (Err why) old new = IsCause command why old new

-- A store that dies has a cause: the medium refused a call, or the stamps of its book are out.
abbrev pub HasDied : Sim → Sim → Book → Type 0
HasDied old new book = ((state_of old).failures < (state_of new).failures) ⊎ StampsOut book

-- ---- a start

-- the policy of a store by what was asked for: it goes ahead where its log allows that
abbrev pub HasPolicy : Bool → StoreValue Sim → Type 0
HasPolicy ahead store = store.goes_ahead
    ≡ (ahead && may_go_by (layout_of store.cached).format store.cached.log.ring)

-- a start was refused with this cause, and how it is told: as the power is, off or on
pub record IsRefused (why : Fault) (old new : Sim) : Type 0 where
  pub fault : StartFault
  pub cause : IsStartCause (state_of old) (state_of new) fault
  pub told : why ≡ (if new.power.off then Lost else NoMemory)

-- where a start on this medium has brought it: a disk runs, or the power is off
abbrev pub EndsStart : Outcome → Bool → Sim → Place → Type 0
EndsStart (Ok done) ahead m place = (store : StoreValue Sim) × (place ≡ Runs store)
    × HasPolicy ahead store × ComesAfter m store.medium
EndsStart (Err why) ahead m place = (new : Sim) × (place ≡ Off new)
    × IsRefused why m new × ComesAfter m new
