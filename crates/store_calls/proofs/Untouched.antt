-- Calls that are none of the medium follow one another.
use Rattle.std.proofs.{Common.{◌≡◌, inl, inr, ℕ, Bool, List, refl, sym, ◌∙◌, ap}, lemmas.Bool.cases_Bool}
use Rattle.medium.proofs.Moments.{unchanged, unchanged_through}
use Rattle.window.specs.{Window.{Window, state_of, AreOnDevice, IsShown}, WindowLaws.is_sound}
use Rattle.logical_blocks.specs.Book.{Book}
use Rattle.blocks.specs.{Passing.IsUntouched, Stopping.{stopped, stopped_store}, StoreValue.FitsBook}
use Rattle.blocks.proofs.TurnsJoined.{stays, turns}
use Rattle.store_calls.specs.{Refused.{IsDrained, IsRefused}, Stores.Store}

pub none_yet : (store : Store) → IsUntouched state_of store store
none_yet store = record {
  unchanged = unchanged (state_of store.medium);
  cached = refl;
  policy = refl;
  turn = stays (state_of store.medium) store.cached (is_sound store.medium);
}

pub one_more : (old mid new : Store) → IsUntouched state_of old mid → IsUntouched state_of mid new → IsUntouched state_of old new
one_more old mid new first second = record {
  unchanged = unchanged_through (state_of old.medium) (state_of mid.medium) (state_of new.medium) first.unchanged second.unchanged;
  cached = second.cached ∙ first.cached;
  policy = second.policy ∙ first.policy;
  turn = turns (state_of old.medium) (state_of mid.medium) (state_of new.medium) old.cached mid.cached new.cached first.turn second.turn;
}

-- a store whose outbox was emptied, and then stopped
pub is_refused : (old mid new : Store) → IsDrained old mid → new ≡ stopped_store mid
    → ((book : Book) → FitsBook (state_of mid.medium) mid.cached book → FitsBook (state_of new.medium) new.cached book)
    → IsRefused old new
is_refused old mid new drained is fits =
    let same : new.medium ≡ mid.medium = rw is in
    let stops : stopped_store mid ≡ record (stopped_store old) { medium = new.medium } = (λ i. record {
      medium = sym same i;
      cached = stopped (drained.untouched.cached i);
      goes_ahead = drained.untouched.policy i;
    }) in
    record {
      emptied = rw same drained.emptied;
      others = is ∙ stops;
      unchanged = rw same drained.untouched.unchanged;
      fits = λ book f. fits book (drained.untouched.turn.fits book f);
    }

-- a store to whose medium sectors were shown as the device holds them
pub shown_untouched : (old new : Store) (first : ℕ) (bytes : List ℕ) (taken : Bool) → IsShown first bytes taken old.medium new.medium
    → new.cached ≡ old.cached → new.goes_ahead ≡ old.goes_ahead → AreOnDevice first bytes old.medium → IsUntouched state_of old new
shown_untouched old new first bytes taken shown cached policy on =
    let same : state_of new.medium ≡ state_of old.medium = elim (cases_Bool taken) [
      | inl took ↦ ap (λ (w : Window). state_of w) (shown.honest took on)
      | inr not ↦ ap (λ (w : Window). state_of w) (shown.refused not)
    ] in
    record {
      unchanged = rw same (none_yet old).unchanged;
      cached = cached;
      policy = policy;
      turn = rw (same, cached) (none_yet old).turn;
    }
