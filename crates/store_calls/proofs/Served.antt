-- The room of a store is enough, and what is read is in sight.
use Rattle.std.proofs.{Common.{◌≡◌, ◌<◌, ◌≤◌, ◌+◌, ℕ, true, length, inl, inr, refl, sym, ◌∙◌, ap, false, arith}, lemmas.Bool.false≢true}
use Rattle.journal.specs.{Places.{Shape, first_home}, declared.log_format.LogFormat.TheVariants.Two}
use Rattle.medium.specs.{Medium.LooksOnly, Sent.{sent, SendsUpTo}}
use Rattle.recovery.specs.{Calls.{most_start_sends, IsReadOfFresh}, Recovered.RecoverySends}
use Rattle.window.specs.{Window.{Window, state_of, is_in_sight, ComesAfter, IsServed}, WindowLaws.comes_after_itself}
use Rattle.window.specs.{Looks.{near_in_sight, none_refused, none_missed, none_kept_out}, Sight.AreInSight}
use Rattle.blocks.specs.{Looks.{IsReadBack, IsReadFor, LooksAtLog, LooksAtBlocks}, Started.LeavesMedium, StoreValue.{layout_of, is_dead}}
use Rattle.blocks.specs.{Turns.IsReadCause, declared.fault.StoreFault.StoreFault, declared.fault.StoreFault.TheVariants.{ReadFault, Dead}}
use Rattle.store_calls.specs.{Stores.Store}
use Rattle.store_calls.specs.Rooms.{RefusesNothing, Foresees, TakesCalls, HoldsLog, Appends, HasRoomToStart, SeesStart, StartRefusesNothing}
use Rattle.blocks.proofs.{SectorsRead.none}

fits_in : (waits before after told room : ℕ) → after ≤ before + told → waits + told ≤ room → waits + after ≤ before + room
fits_in waits before after told room calls fits = omega (arith, calls, fits)

-- what a log may read back is in sight, where it holds its log
pub log_in_sight : (s : Store) → HoldsLog s → (sector : ℕ) → IsReadBack s.cached.log sector → is_in_sight s.medium sector ≡ true
log_in_sight s (inl keeps) sector back = absurd (false≢true (sym back.0 ∙ keeps))
log_in_sight s (inr low) sector back = near_in_sight s.medium sector (omega (arith, back.1, low))

-- it holds it as long as the layout and the first sectors stay, and whether the log keeps its blocks
pub holds_on : (old new : Store) → new.cached.log.keeps ≡ old.cached.log.keeps → layout_of new.cached ≡ layout_of old.cached
    → new.medium.near ≡ old.medium.near → HoldsLog old → HoldsLog new
holds_on old new keeps layout near (inl kept) = inl (keeps ∙ kept)
holds_on old new keeps layout near (inr low) = inr (omega (arith, low, near, ap (λ (s : Shape). first_home s) layout))

-- what leaves no write, no flush and no read refused, where each named a sector that was in sight
refuses_nothing : (P : ℕ → Type 0) (Room Sight : Type 0) (old new : Window) → ComesAfter old new → IsServed old new
    → (Room → length old.outbox + sent (state_of new) ≤ sent (state_of old) + old.room) → LooksOnly P (state_of old) (state_of new)
    → (Sight → (s : ℕ) → P s → is_in_sight old s ≡ true) → RefusesNothing Room Sight old new
refuses_nothing P Room Sight old new follows served few named in_sight = record {
  kept = λ room. none_kept_out old new follows (few room);
  seen = λ sight. none_missed P old new follows (in_sight sight) named;
  none = λ room sight. none_refused P old new served (in_sight sight) named (few room);
}

-- a call, with what the medium says of all that may come
appends : (P : ℕ → Type 0) (most : ℕ) (old new : Store) → Foresees old.medium → ComesAfter old.medium new.medium
    → SendsUpTo most (state_of old.medium) (state_of new.medium) → LooksOnly P (state_of old.medium) (state_of new.medium)
    → (HoldsLog old → (s : ℕ) → P s → is_in_sight old.medium s ≡ true) → Appends (TakesCalls most old) old new
appends P most old new sees follows sends named in_sight = record {
  follows = follows;
  covers = sees.covers new.medium follows;
  parts = sees.parts new.medium follows;
  served = sees.served new.medium follows;
  refuses = refuses_nothing P (TakesCalls most old) (HoldsLog old) old.medium new.medium follows (sees.served new.medium follows)
      (λ room. fits_in (length old.medium.outbox) (sent (state_of old.medium)) (sent (state_of new.medium)) most old.medium.room sends
      room)
      named in_sight;
}

-- one that reads the log alone
pub appends_log : (most : ℕ) (old new : Store) → Foresees old.medium → ComesAfter old.medium new.medium
    → SendsUpTo most (state_of old.medium) (state_of new.medium)
    → LooksAtLog (state_of old.medium) (state_of new.medium) old.cached → Appends (TakesCalls most old) old new
appends_log most old new sees follows sends named =
    appends (IsReadBack old.cached.log) most old new sees follows sends named
    (log_in_sight old)

-- one that makes no call of the medium
pub appends_none : (old new : Store) → Foresees old.medium → new.medium ≡ old.medium → Appends (TakesCalls 0 old) old new
appends_none old new sees same = appends_log 0 old new sees
    (rw same (comes_after_itself old.medium)) (rw same (omega arith)) (rw same (none _ _ old.cached refl))

-- a sector of the log, or the home of one of these blocks, is in sight
log_or_home : (old : Store) (address count : ℕ) → AreInSight old.medium (first_home (layout_of old.cached) + address) count
    → HoldsLog old → (s : ℕ) → IsReadFor old.cached address count s → is_in_sight old.medium s ≡ true
log_or_home old address count seen log s (inl back) = log_in_sight old log s back
log_or_home old address count seen log s (inr at) = seen s at.0 at.1

-- one that reads these blocks
pub appends_read : (address count : ℕ) (old new : Store) → Foresees old.medium → ComesAfter old.medium new.medium
    → SendsUpTo 0 (state_of old.medium) (state_of new.medium)
    → LooksAtBlocks (state_of old.medium) (state_of new.medium) old.cached address count
    → AreInSight old.medium (first_home (layout_of old.cached) + address) count → Appends (TakesCalls 0 old) old new
appends_read address count old new sees follows sends named seen =
    appends (IsReadFor old.cached address count) 0 old new sees follows sends named
    (log_or_home old address count seen)

-- a live store refuses a read of blocks in sight only where a sector of the log is not in memory
pub unread : (old new : Store) (why : StoreFault) → IsReadCause (state_of old.medium) (state_of new.medium) old.cached why
    → is_dead old.cached ≡ false → Appends (TakesCalls 0 old) old new → ¬ HoldsLog old
unread old new ReadFault cause live all log = absurd (omega (arith, cause.1, all.refuses.seen log))
unread old new Dead cause live all log = absurd (false≢true (sym live ∙ cause))

-- ---- a start, good or refused, on a medium that was asked nothing yet

pub fits_start : (first after : Window) → length first.outbox ≡ 0 → RecoverySends (state_of first) (state_of after)
    → HasRoomToStart first → length first.outbox + sent (state_of after) ≤ sent (state_of first) + first.room
fits_start first after empty sends (inl (shape, super, within, inl all)) =
    fits_in (length first.outbox) (sent (state_of first)) (sent (state_of after)) (most_start_sends shape.format shape.slots)
    first.room (sends.most shape (record { super = super; fits = within })) (omega (arith, empty, all))
fits_start first after empty sends (inl (shape, super, within, inr (none, some))) =
    let few = sends.clean shape (record { super = super; fits = within }) none in omega (arith, empty, few, some)
fits_start first after empty sends (inr all) =
    fits_in (length first.outbox) (sent (state_of first)) (sent (state_of after)) (most_start_sends Two 64) first.room sends.any
    (omega (arith, empty, all))

-- a start that sees whatever it reads has no read refused
pub start_sees : (first after : Window) → LeavesMedium state_of ComesAfter first after → SeesStart first
    → after.seen.told.refused.reads ≡ first.seen.told.refused.reads
start_sees first after leaves (inl log) =
    none_missed (λ s. s < first.near) first after leaves.follows (near_in_sight first) (leaves.looks first.near log)
start_sees first after leaves (inr fresh) =
    none_missed (IsReadOfFresh fresh.shape fresh.next) first after leaves.follows fresh.sees
    (leaves.fresh_looks fresh.shape fresh.array fresh.next fresh.fresh)

-- and no call, where they have room
start_served : (first after : Window) → LeavesMedium state_of ComesAfter first after → IsServed first after
    → length first.outbox + sent (state_of after) ≤ sent (state_of first) + first.room → SeesStart first
    → (state_of after).failures ≡ (state_of first).failures
start_served first after leaves served few (inl log) =
    none_refused (λ s. s < first.near) first after served (near_in_sight first) (leaves.looks first.near log) few
start_served first after leaves served few (inr fresh) =
    none_refused (IsReadOfFresh fresh.shape fresh.next) first after served fresh.sees
    (leaves.fresh_looks fresh.shape fresh.array fresh.next fresh.fresh) few

module _ (first after : Window) (empty : length first.outbox ≡ 0) (leaves : LeavesMedium state_of ComesAfter first after) where
  fits : HasRoomToStart first → length first.outbox + sent (state_of after) ≤ sent (state_of first) + first.room
  fits = fits_start first after empty leaves.moments.sends

  pub start_refuses : IsServed first after → StartRefusesNothing first after
  start_refuses served = record {
    kept = λ room. none_kept_out first after leaves.follows (fits room);
    seen = start_sees first after leaves;
    none = λ room. start_served first after leaves served (fits room);
  }
