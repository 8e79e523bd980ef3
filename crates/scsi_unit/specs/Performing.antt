-- What the parts of carrying out a command do, before its sense is kept.
use Rattle.std.specs.Prelude.{◌≡◌, ◌≤◌, ℕ, true, false, List, [], Some, None, Result, Ok, Err}
use Rattle.std.specs.Prelude.{is_ok}
use Rattle.medium.specs.{Medium.State, Moments.LeavesOnly}
use Rattle.logical_blocks.specs.Book.{Book}
use Rattle.scsi.specs.{Sense.Sense, Waiting.{Waiting, after_failure}}
use Rattle.scsi.specs.declared.command.{Command.Command, Transfer.Transfer}
use Rattle.scsi.specs.Rules.{UnitState, write_after, IsOutcome}
use Rattle.blocks.specs.Finding.{FoundWith}
use Rattle.blocks.specs.StoreValue.{layout_of, blocks_of, is_dead, active_of, FitsBeside}
use Rattle.scsi_unit.specs.Costs.{CostsAfter, KeepsHeadroom}
use Rattle.scsi_unit.specs.UnitValue.{UnitValue, unit_limit, state_of, FitsUnit}
use Rattle.scsi_unit.specs.Serving.{has_refused, wants_medium, plain_write, ActiveAfter, LogAfter}

-- what is kept once a command has answered: its sense, if it failed, and none of an earlier one
abbrev pub settled_kept : Result (List ℕ) Sense → Waiting → Waiting
settled_kept (Ok sent) kept = record kept { sense = None }
settled_kept (Err sense) kept = after_failure sense kept

-- the unit then
abbrev pub settled : Result (List ℕ) Sense → UnitState → UnitState
settled answer unit = record unit { kept = settled_kept answer unit.kept }

-- A command, or its refusal, was performed by a unit over its medium; its sense is not yet kept.
pub record Performs {M : Type 0} (before after : State) (told : Result Command Sense)
    (taken : List ℕ) (old : UnitValue M) (answer : Result (List ℕ) Sense) (new : UnitValue M)
    : Type 0 where
  pub line : (book : Book) → FitsUnit before old book
      → (next : Book)
      × IsOutcome (has_refused before after) told taken (state_of old book)
      answer (settled answer (state_of new next))
      × FitsUnit after new next
  pub cuts : (book : Book) → FitsUnit before old book → book.ours ≡ true
      → LeavesOnly (FoundWith before.size book (write_after told taken)) before after
  pub failures_stay : before.failures ≤ after.failures
  pub size_stays : after.size ≡ before.size
  pub layout_stays : layout_of new.store.cached ≡ layout_of old.store.cached
  pub keeps_stays : new.store.cached.log.keeps ≡ old.store.cached.log.keeps
  pub blocks_stay : blocks_of new.store.cached ≡ blocks_of old.store.cached
  pub limit_stays : unit_limit new ≡ unit_limit old
  pub identity_stays : new.identity ≡ old.identity

-- which calls of the medium it made, by the policy of the store, which stays
pub record Spares {M : Type 0} (before after : State) (told : Result Command Sense)
    (taken : List ℕ) (old : UnitValue M) (answer : Result (List ℕ) Sense) (new : UnitValue M)
    : Type 0 where
  pub untouched : wants_medium told taken old.write_cache ≡ false → new.store ≡ old.store
  pub plain : (transfer : Transfer) → plain_write told old.write_cache ≡ Some transfer
      → FitsBeside (unit_limit old) (active_of old.store.cached) transfer.address transfer.count
      → (new.store.medium ≡ old.store.medium) × (is_ok answer ≡ true)
  pub active : is_dead new.store.cached ≡ false
      → ActiveAfter (unit_limit old) told taken old.write_cache
      (active_of old.store.cached) (active_of new.store.cached)
  pub log : is_ok answer ≡ true
      → LogAfter old.store.goes_ahead told taken old.write_cache
      old.store.cached new.store.cached
  pub cost : is_ok answer ≡ true
      → CostsAfter old.store.goes_ahead told taken old.write_cache before after old.store.cached
  pub policy : new.store.goes_ahead ≡ old.store.goes_ahead
  pub headroom : KeepsHeadroom old.store new.store

-- the answer of a command that sends no data
abbrev pub silent : Result (Unit {0}) Sense → Result (List ℕ) Sense
silent (Ok done) = Ok []
silent (Err sense) = Err sense
