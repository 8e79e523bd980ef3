-- The device refused the call that was handed out last, and the store is told so.
use Rattle.std.specs.Prelude.{◌≡◌}
use Rattle.medium.specs.{Moments.IsUnchanged}
use Rattle.window.specs.{Window.state_of}
use Rattle.logical_blocks.specs.Book.{Book}
use Rattle.blocks.specs.{Passing.IsUntouched, Stopping.stopped_store, StoreValue.FitsBook}
use Rattle.store_calls.specs.{Outbox.IsEmptied, Stores.Store}

-- All that waits leaves the outbox, and nothing else of the store changes.
pub record IsDrained (old new : Store) : Type 0 where
  pub emptied : IsEmptied old.medium new.medium
  pub untouched : IsUntouched state_of old new

-- What waited is handed to no device. So the device holds what it was handed before, of which the
-- call that it refused is the last: what a cut may leave of that is in `Appends.parts` of the calls
-- that asked for it. A dead store changes no more, and asks for nothing: see `MayNotMove`,
-- `Syncs` and `CountsBy.dead`.
pub record IsRefused (old new : Store) : Type 0 where
  pub emptied : IsEmptied old.medium new.medium
  -- the store is dead, and nothing else of it changes
  pub others : new ≡ record (stopped_store old) { medium = new.medium }
  -- nor does what the medium stands for, or what a cut of it may leave
  pub unchanged : IsUnchanged (state_of old.medium) (state_of new.medium)
  pub fits : (book : Book) → FitsBook (state_of old.medium) old.cached book
      → FitsBook (state_of new.medium) new.cached book
