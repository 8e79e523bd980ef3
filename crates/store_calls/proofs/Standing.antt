-- A machine over a device that leaves no more, and a store that fits what it fitted.
use Rattle.std.proofs.{Common.{◌≡◌, ◌≤◌, ◌++◌, ℕ, List, length, refl, ap, arith, length-append}, lemmas.List.take-append-le}
use Rattle.std.specs.{Prelude.Option}
use Rattle.medium.specs.{Medium.Image}
use Rattle.window.specs.{OutboxMedium.{sent, LeftSince}, Story.Told, declared.call.DeviceCall.DeviceCall, Window.{Window, mirror_of}}
use Rattle.window.specs.{declared.asked.Asked.Asked}
use Rattle.journal.specs.{Places.Shape}
use Rattle.logical_blocks.specs.Book.{Book}
use Rattle.blocks.specs.StoreValue.{FitsBook, layout_of}
use Rattle.store_calls.specs.{Rooms.room_for, Serving.{StaysSafe, KeepsGoing, LeavesNoMore, LeavesSince, ServesOn}}
use Rattle.store_calls.specs.{StoreMachine.{Machine, carried, under_way}, Stores.Store}
use Rattle.store_calls.proofs.{Served.holds_on}
use Rattle.window.specs.Window as window

-- what was sent stays, however much of it has left the outbox
pub record IsSentStill (old new : Window) : Type 0 where
  pub opening : new.seen.told.opening ≡ old.seen.told.opening
  pub sent : sent (mirror_of new) ≡ sent (mirror_of old)
  pub size : (window.state_of new).size ≡ (window.state_of old).size
  pub left : (t : ℕ) (image : Image) → (window.state_of old).left_since t image → (window.state_of new).left_since t image
  pub room : new.room ≡ old.room
  pub near : new.near ≡ old.near

pub same_sent : (w : Window) → IsSentStill w w
same_sent w = record { opening = refl; sent = refl; size = refl; left = λ t image left. left; room = refl; near = refl }

-- what could be left could be left still behind more calls
pub left_on : (old new : Told) (since : List (Option DeviceCall)) → new.opening ≡ old.opening → new.asked ≡ old.asked ++ since
    → (t : ℕ) (image : Image) → LeftSince old t image → LeftSince new t image
left_on old new since opening asked t image left = record {
  at = left.at;
  later = left.later;
  past = omega (arith, left.past, ap (λ (l : List (Option DeviceCall)). length l) asked, length-append old.asked since);
  cut = λ s. rw (opening, asked, take-append-le left.at old.asked since left.past) (left.cut s);
}

pub record Stands (old new : Machine) : Type 0 where
  pub sent : IsSentStill old.store.medium new.store.medium
  pub reaches : carried old ≤ carried new
  pub fits : (book : Book) → FitsBook (window.state_of old.store.medium) old.store.cached book
      → FitsBook (window.state_of new.store.medium) new.store.cached book
  pub layout : layout_of new.store.cached ≡ layout_of old.store.cached
  pub keeps : new.store.cached.log.keeps ≡ old.store.cached.log.keeps

-- the outbox has room as before, and the log lies in memory as before
pub keeps_going : (old new : Machine) → layout_of new.store.cached ≡ layout_of old.store.cached
    → new.store.cached.log.keeps ≡ old.store.cached.log.keeps → new.store.medium.room ≡ old.store.medium.room
    → new.store.medium.near ≡ old.store.medium.near → KeepsGoing old new
keeps_going old new layout keeps room near = record {
  roomy = λ fits. omega (arith, fits, room, ap (λ (s : Shape). room_for s) layout);
  log = holds_on old.store new.store keeps layout near;
}

module _ (old new : Machine) (stands : Stands old new) where
  pub leaves_no_more : LeavesNoMore old new
  leaves_no_more image left =
      let was = rw (stands.sent.opening, stands.sent.sent) at left in record {
        count = was.count;
        done = was.done;
        reaches = omega (arith, was.reaches, stands.reaches);
        are = was.are;
        cut = was.cut;
      }

  pub since_still : (first : Window) → LeavesSince first old → LeavesSince first new
  since_still first since image left =
      stands.sent.left (window.state_of first).calls image (since image (leaves_no_more image left))

  pub serves_still : ServesOn old new
  serves_still book serves = record {
    fits = stands.fits book serves.fits;
    keeps = λ ours image left. rw stands.sent.size (serves.keeps ours image (leaves_no_more image left));
  }

  pub stays_safe : StaysSafe old new
  stays_safe = record {
    serves = serves_still;
    leaves = leaves_no_more;
    since = since_still;
    goes_on = keeps_going old new stands.layout stands.keeps stands.sent.room stands.sent.near;
  }

-- the store stays, and the device told no fewer done
pub store_stays : (old new : Machine) → new.store ≡ old.store → carried old ≤ carried new → Stands old new
store_stays old new same reaches = record {
  sent = rw same (same_sent old.store.medium);
  reaches = reaches;
  fits = λ book fits. rw same fits;
  layout = ap (λ (s : Store). layout_of s.cached) same;
  keeps = ap (λ (s : Store). s.cached.log.keeps) same;
}

-- only the wish changes
pub wishes : (old new : Machine) → new.store ≡ old.store → new.asked ≡ old.asked → StaysSafe old new
wishes old new store asked = stays_safe old new (store_stays old new store
    (omega (arith, ap (λ (a : Asked). under_way a) asked, ap (λ (s : Store). length s.medium.seen.told.taken) store)))

pub nothing_changes : (old new : Machine) → new ≡ old → StaysSafe old new
nothing_changes old new same = rw same (wishes old old refl refl)
