-- What packets, tokens and requests do to a machine.
use Rattle.std.specs.Prelude.{◌≡◌, ◌⊎◌, ℕ, ◌<◌, ◌≤◌, List, [], ◌∷◌, length}
use Rattle.spec.specs.declared.event.{Event.Event, Answer.Answer}
use Rattle.disk_machine.specs.{Codes.{TOO_LONG, code_of}, Going.GoesOn, Machine.Machine}
use Rattle.disk_machine.specs.{Plays.{PlaysStill, TellsAnswer}, declared.lack.Lack.Lack}
use Rattle.disk_machine.specs.Moves.{played, ticks, KeepsGoing, LeavesNoMore, ServesTurns}
use Rattle.spec.specs.declared.event.Event.TheVariants as event
use Rattle.disk_machine.specs.declared.lack.Lack.TheVariants as lack

-- the packet is no longer than those of the disk
abbrev pub HasSize : Machine → List ℕ → Type 0
HasSize s packet = length packet ≤ s.disk.disk.line.packet_size

-- what a packet leaves of a read that has ended: nothing
abbrev pub lack_after : Lack → Lack
lack_after (lack.Ahead home) = lack.Ahead home
lack_after _ = lack.Nothing

-- A packet is played, once. The command that it begins goes on as far as the device lets it.
pub record PlaysOut (old : Machine) (packet : List ℕ) (new : Machine) (code : ℕ) : Type 0 where
  pub answer : Answer
  pub code_is : code ≡ code_of answer
  pub mid : Machine
  pub plays : PlaysStill old.disk (event.Out (record { items = packet })) answer mid.disk
  pub others : mid ≡ record old { disk = mid.disk; lack = lack_after old.lack }
  pub goes : GoesOn mid new

-- the same, by the rules, and each life that is served is served on
pub record ServesOut (old : Machine) (packet : List ℕ) (new : Machine) (code : ℕ) : Type 0 where
  pub out : PlaysOut old packet new code
  pub serves : ServesTurns
      (played (event.Out (record { items = packet })) out.answer ∷ ticks out.goes.count) old new
  pub goes_on : KeepsGoing old new

-- A packet to Bulk-Out that is too long changes nothing, and each other is played. While a command
-- is pending it is told to come again, by the rules.
abbrev pub TakesOne : Machine → List ℕ → Machine → ℕ → Type 0
TakesOne old packet new code =
    ((old.disk.disk.line.packet_size < length packet) × (code ≡ TOO_LONG) × (new ≡ old))
    ⊎ ((length packet ≤ old.disk.disk.line.packet_size) × ServesOut old packet new code)

pub record TakesOut (old : Machine) (packet : List ℕ) (new : Machine) (code : ℕ) : Type 0 where
  pub one : TakesOne old packet new code

-- ---- tokens and requests

-- An event that asks the device for nothing: each life that is served is served on, by the rules.
pub record ServesStill (old : Machine) (happens : Event) (room : List ℕ) (new : Machine)
    (filled : List ℕ) (size code : ℕ) : Type 0 where
  pub answer : Answer
  pub plays : PlaysStill old.disk happens answer new.disk
  pub tells : TellsAnswer answer room filled size code
  pub others : new ≡ record old { disk = new.disk }
  pub serves : ServesTurns (played happens answer ∷ []) old new
  pub leaves : LeavesNoMore old new
  pub goes_on : KeepsGoing old new

-- a token to Bulk-In
abbrev pub SendsIn : Machine → List ℕ → Machine → List ℕ → ℕ → ℕ → Type 0
SendsIn old room new filled size code = ServesStill old event.In room new filled size code

-- a request, at any time
abbrev pub AnswersSetup : Machine → List ℕ → List ℕ → Machine → List ℕ → ℕ → ℕ → Type 0
AnswersSetup old packet room new filled size code =
    ServesStill old (event.Setup packet) room new filled size code
