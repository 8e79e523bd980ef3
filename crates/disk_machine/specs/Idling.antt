-- What a machine does in the background.
use Rattle.std.specs.Prelude.{◌≡◌, ◌≢◌, ◌⊎◌, ◌↔◌, ℕ, suc, ◌<◌, ◌≤◌, Bool, true, false, [], length}
use Rattle.std.specs.Prelude.{is_some}
use Rattle.std.proofs.Common.{inl, inr}
use Rattle.window.specs.Window.{state_of}
use Rattle.scsi_unit.specs.Background.{Settle, Ahead, WriteBack, IsSettled, IsWritten, steps_left}
use Rattle.bot_machine.specs.Turns.{owes_status}
use Rattle.disk_machine.specs.Plays.{Before, Disk, PlaysWork, StepsWhile, is_faulted, medium_of}
use Rattle.disk_machine.specs.Plays.{unit_of}
use Rattle.disk_machine.specs.{Asking.is_ahead, Machine.Machine}
use Rattle.disk_machine.specs.Moves.{KeepsGoing, ServesTurns, ticks}
use Rattle.window.specs.declared.asked.Asked.TheVariants as asked

-- a command is pending
abbrev pub is_pending : Disk → Bool
is_pending disk = is_some disk.pending

-- no step is made now: a command is pending, which makes its own, or sectors are read ahead
abbrev pub IsHeld : Machine → Type 0
IsHeld s = (is_pending s.disk ≡ true) ⊎ (is_ahead s.lack ≡ true)

-- so few calls wait that a step is made
abbrev pub IsShort : ℕ → Disk → Type 0
IsShort most disk = length (medium_of disk).outbox ≤ most

-- no step is left, as `Disk::is_settled` tells
abbrev pub IsAllDone : Disk → Type 0
IsAllDone disk = (is_faulted disk ≡ false) × (steps_left (unit_of disk).store.cached ≡ 0)

-- a step is left, and few calls wait
pub record MaySettle (most : ℕ) (disk : Disk) : Type 0 where
  pub left : ¬ IsAllDone disk
  pub short : IsShort most disk

-- Steps towards rest, each made while one is left and few calls wait: 32, or all that are.
pub record MakesSteps (most : ℕ) (old new : Disk) : Type 0 where
  pub count : ℕ
  pub few : count ≤ 32
  pub steps : StepsWhile (Before (MaySettle most)) Settle count old new
  pub ends : (count ≡ 32) ⊎ (IsAllDone new ⊎ (¬ IsShort most new))

-- steps are made where none is held back
abbrev pub HasStepped : Machine → Machine → Type 0
HasStepped old new = (IsHeld old × (new ≡ old))
    ⊎ ((¬ IsHeld old) × MakesSteps old.most old.disk new.disk
    × (new ≡ record old { disk = new.disk }))

abbrev pub steps_idle : (old new : Machine) → HasStepped old new → ℕ
steps_idle old new (inl held) = 0
steps_idle old new (inr made) = made.1.count

-- And whether some are left is told: where none is, every accepted write is durable and at home,
-- once the device has carried out what waits.
pub record Idles (old new : Machine) (left : Bool) : Type 0 where
  pub stepped : HasStepped old new
  pub none_left : (left ≡ false) ↔ IsAllDone new.disk
  pub at_home : left ≡ false
      → IsSettled (state_of (medium_of new.disk)) (unit_of new.disk).store.cached
  pub serves : ServesTurns (ticks (steps_idle old new stepped)) old new
  pub goes_on : KeepsGoing old new

-- ---- ahead of the next record

-- a step ahead, made while few calls wait, asked the device for something
pub record AsksAhead (most : ℕ) (old new : Disk) : Type 0 where
  pub short : IsShort most old
  pub asks : length (medium_of new).outbox ≢ length (medium_of old).outbox

-- one more was made, and asked the device for nothing: none was to be made
abbrev pub LastAsksNothing : ℕ → Disk → Disk → Type 0
LastAsksNothing most mid new = IsShort most mid × PlaysWork Ahead mid new
    × (length (medium_of new).outbox ≡ length (medium_of mid).outbox)

-- no more are made, since 241 were or many calls wait, or that one was the last
abbrev pub EndsAhead : ℕ → ℕ → Disk → Disk → Type 0
EndsAhead most count mid new = (((count ≡ 241) ⊎ (¬ IsShort most mid)) × (new ≡ mid))
    ⊎ ((count < 241) × LastAsksNothing most mid new)

-- the steps that were made, with the one that asked for nothing
abbrev pub made_ahead : (most count : ℕ) (mid new : Disk) → EndsAhead most count mid new → ℕ
made_ahead most count mid new (inl all) = count
made_ahead most count mid new (inr one) = suc count

-- Steps ahead, each of which asked for something while few calls waited; the first that asks for
-- nothing is the last one. The head goes past a record, and all blocks of the next, of which a
-- record has at most 240, go home.
pub record MakesAhead (most : ℕ) (old new : Disk) : Type 0 where
  pub count : ℕ
  pub few : count ≤ 241
  pub mid : Disk
  pub steps : StepsWhile (AsksAhead most) Ahead count old mid
  pub ends : EndsAhead most count mid new

-- the record of a frozen batch is left to write, and few calls wait
pub record MayWriteOn (most : ℕ) (disk : Disk) : Type 0 where
  pub frozen : (unit_of disk).store.cached.frozen.numbers ≢ []
  pub short : IsShort most disk

-- Steps that write it, each made while it is left and few calls wait: 256, or all that are.
pub record WritesOn (most : ℕ) (old new : Disk) : Type 0 where
  pub count : ℕ
  pub few : count ≤ 256
  pub steps : StepsWhile (Before (MayWriteOn most)) WriteBack count old new
  pub ends : (count ≡ 256) ⊎ (¬ MayWriteOn most new)

-- The device rests: it is at no call, and none waits for it, nor are sectors to be read. No command
-- is pending, and each has its status.
pub record IsResting (s : Machine) : Type 0 where
  pub at_none : s.asked ≡ asked.Nothing
  pub none_waits : (medium_of s.disk).outbox ≡ []
  pub none_wanted : is_ahead s.lack ≡ false
  pub none_pending : is_pending s.disk ≡ false
  pub none_owed : owes_status s.disk.disk.line.left ≡ false

-- the record of a frozen batch is written, but by a disk that has faulted, which makes no step
abbrev pub WritesAtRest : ℕ → Disk → Disk → Type 0
WritesAtRest most old new =
    ((¬ IsWritten (unit_of old).store.cached) × WritesOn most old new)
    ⊎ (IsWritten (unit_of old).store.cached × (new ≡ old))

-- The record of a frozen batch is written; where none is frozen, steps ahead are made.
abbrev pub WorksAtRest : ℕ → Disk → Disk → Type 0
WorksAtRest most old new =
    (((unit_of old).store.cached.frozen.numbers ≢ []) × WritesAtRest most old new)
    ⊎ (((unit_of old).store.cached.frozen.numbers ≡ []) × MakesAhead most old new)

-- so it does where the device rests
abbrev pub HasGoneAhead : Machine → Machine → Type 0
HasGoneAhead old new = ((¬ IsResting old) × (new ≡ old))
    ⊎ (IsResting old × WorksAtRest old.most old.disk new.disk
    × (new ≡ record old { disk = new.disk }))

abbrev pub steps_at_rest : (most : ℕ) (old new : Disk) → WorksAtRest most old new → ℕ
steps_at_rest most old new (inl (some, inl (left, writes))) = writes.count
steps_at_rest most old new (inl (some, inr stays)) = 0
steps_at_rest most old new (inr (none, makes)) =
    made_ahead most makes.count makes.mid new makes.ends

abbrev pub steps_ahead : (old new : Machine) → HasGoneAhead old new → ℕ
steps_ahead old new (inl busy) = 0
steps_ahead old new (inr (rests, works, others)) =
    steps_at_rest old.most old.disk new.disk works

pub record WorksAhead (old new : Machine) : Type 0 where
  pub gone : HasGoneAhead old new
  pub serves : ServesTurns (ticks (steps_ahead old new gone)) old new
  pub goes_on : KeepsGoing old new
