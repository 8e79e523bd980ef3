-- What is done to a store whose device has carried out all.
use Rattle.std.proofs.Common.{◌≡◌, ◌++◌, ℕ, true, false, List, [], ◌∷◌, length, inl, inr, refl, ◌∙◌, ap, arith, length-append}
use Rattle.std.proofs.lemmas.List.{take-append-le, append-nil}
use Rattle.medium.specs.{Medium.Image}
use Rattle.window.specs.{Story.given, declared.call.DeviceCall.DeviceCall, Window.{Window, mirror_of, ComesAfter, kept_out}}
use Rattle.window.specs.{declared.ask.DeviceRead.DeviceRead, declared.asked.Asked.Asked}
use Rattle.logical_blocks.specs.{Blocks.Write, Book.{Book, with_write, promised}}
use Rattle.blocks.specs.{Finding.MayFind, StoreValue.{Cached, is_dead, layout_of, unwritten, FitsBook}, Turns.IsTurn}
use Rattle.blocks.proofs.{BookTurns.settles, EmptyBatches.none_of}
use Rattle.store_calls.specs.{Calls.{IsWritten, KeepsAll}, Idling.IsShort, Rooms.{Appends, Foresees}, WritingBack.{IsLeft, WritesBack}}
use Rattle.store_calls.specs.{declared.writing_back.Aim.Aim}
use Rattle.store_calls.specs.Serving.{StaysSafe, LeavesNoMore, LeavesSince, ServesAtRest, ServesOn}
use Rattle.store_calls.specs.{StoreMachine.{Machine, IsCaughtUp, under_way}, Stores.Store}
use Rattle.store_calls.specs.{Transfers.{IsDoneFree, Accepts, Waits, Promises, PutsOff}, declared.store_fault.StoreFault.StoreFault}
use Rattle.store_calls.proofs.{Served.appends_none, WrittenBack.some_made, Standing.{IsSentStill, stays_safe, left_on, keeps_going, wishes}}
use Rattle.window.specs.Window as window

-- ---- where nothing waits

module _ {Room : Type 0} (old new : Machine) (free : IsCaughtUp old)
    (others : new ≡ record old { store = new.store; put_off = new.put_off })
    (appends : Appends Room old.store new.store) where
  since : LeavesSince old.store.medium new
  since image left = appends.parts left.count left.done image (omega (
    arith,
    left.reaches,
    ap (λ (s : Machine). under_way s.asked) others,
    ap (λ (a : Asked). under_way a) free.at_none,
    ap (λ (l : List DeviceCall). length l) appends.follows.taken_stays,
    length-append old.store.medium.seen.told.taken old.store.medium.outbox,
    ap (λ (l : List DeviceCall). length l) free.none_waits,
  )) left.are left.cut

  pub done_free : layout_of new.store.cached ≡ layout_of old.store.cached
      → new.store.cached.log.keeps ≡ old.store.cached.log.keeps → IsDoneFree old new
  done_free layout keeps = record {
    free = free;
    others = others;
    since = since;
    goes_on = keeps_going old new layout keeps appends.follows.room_stays appends.follows.near_stays;
  }

  pub turn_serves : IsTurn (window.state_of old.store.medium) (window.state_of new.store.medium) old.store.cached new.store.cached
      → ServesOn old new
  turn_serves turn book serves = record {
    fits = turn.fits book serves.fits;
    keeps = λ ours image left. rw turn.goes_on.size_stays ((turn.cuts book serves.fits ours).each image (since image left));
  }

-- ---- a write

-- what may be found of a book may be found of it with one write more
more_found : (size : ℕ) (book : Book) (write : Write) (image : Image) → MayFind size book image → MayFind size (with_write book write) image
more_found size book write image found = record {
  count = found.count;
  next = found.next;
  promises = found.promises;
  accepted = omega (arith, found.accepted, length-append book.writes (write ∷ []));
  stands = rw (take-append-le found.count book.writes (write ∷ []) found.accepted) found.stands;
  bound = omega (arith, found.bound, length-append book.writes (write ∷ []));
}

module _ (write : Write) (old new : Machine) (others : new ≡ record old { store = new.store; put_off = false })
    (written : IsWritten write old.store new.store) (same : new.store.medium ≡ old.store.medium) where
  asked_stays : new.asked ≡ old.asked
  asked_stays = ap (λ (s : Machine). s.asked) others

  no_more : LeavesNoMore old new
  no_more image left = rw (asked_stays, same) at left

  pub accepts : Accepts write old new
  accepts =
      let turn = written.keeps.turn in record {
        others = others;
        written = written;
        leaves = no_more;
        since = λ first since image left. rw same (since image (no_more image left));
        goes_on = keeps_going old new turn.goes_on.layout_stays turn.goes_on.keeps_stays (ap (λ (w : Window). w.room) same)
            (ap (λ (w : Window). w.near) same);
        serves = λ book serves. record {
          fits = turn.fits book serves.fits;
          keeps = λ ours image left. rw turn.goes_on.size_stays
              (more_found (window.state_of old.store.medium).size book write image (serves.keeps ours image (no_more image left)));
        };
      }

-- ---- a read

module _ (old new : Store) (address count : ℕ) (all : KeepsAll address count old new) where
  follows : ComesAfter old.medium new.medium
  follows = all.keeps.follows

  none : given follows.since ≡ []
  none = none_of (given follows.since) (omega (arith, follows.sent, all.none_sent))

  pub outbox_stays : new.medium.outbox ≡ old.medium.outbox
  outbox_stays = follows.outbox ∙ ap (λ (l : List DeviceCall). old.medium.outbox ++ l) none ∙ append-nil old.medium.outbox

  pub read_sent : IsSentStill old.medium new.medium
  read_sent = record {
    opening = follows.opening_stays;
    sent = λ i. follows.taken_stays i ++ outbox_stays i;
    size = all.keeps.quiet.size_stays;
    left = left_on old.medium.seen.told new.medium.seen.told follows.since follows.opening_stays follows.asked;
    room = follows.room_stays;
    near = follows.near_stays;
  }

-- the device is where it was
pub read_safe : (old new : Machine) (address count : ℕ) → new ≡ record old { store = new.store }
    → KeepsAll address count old.store new.store → StaysSafe old new
read_safe old new address count others all =
    let same : new.asked ≡ old.asked = ap (λ (s : Machine). s.asked) others in stays_safe old new (record {
      sent = read_sent old.store new.store address count all;
      reaches = omega (
        arith,
        ap (λ (a : Asked). under_way a) same,
        ap (λ (l : List DeviceCall). length l) all.keeps.follows.taken_stays,
      );
      fits = all.turn.fits;
      layout = ap (λ (s : Cached). layout_of s) all.keeps.stays;
      keeps = ap (λ (s : Cached). s.log.keeps) all.keeps.stays;
    })

-- only the wish changes
pub wait_safe : (old new : Machine) (missing : DeviceRead) (why : StoreFault) → Waits old missing new why → StaysSafe old new
wait_safe old new missing why (inl told) = wishes old new (rw told.2) (rw told.2)
wait_safe old new missing why (inr busy) = wishes old new (rw busy.2) (rw busy.2)

-- ---- a sync

pub promises : (s : Machine) → IsCaughtUp s → is_dead s.store.cached ≡ false → unwritten s.store.cached ≡ 0
    → Foresees s.store.medium → ServesAtRest (record s { put_off = false }) → Promises s (record s { put_off = false })
promises s free live none sees rest =
    let caught : IsCaughtUp (record s { put_off = false }) = record { at_none = free.at_none; none_waits = free.none_waits } in
    let fits : (book : Book) → FitsBook (window.state_of s.store.medium) s.store.cached book
    → FitsBook (window.state_of s.store.medium) s.store.cached (promised book) = λ book fits. settles
    (none_of s.store.cached.frozen.numbers (omega (arith, none)))
    (none_of s.store.cached.active.numbers (omega (arith, none))) fits in record {
      done = done_free s _ free refl (appends_none s.store s.store sees refl) refl refl;
      live = live;
      written = none;
      same = refl;
      free = caught;
      fits = fits;
      serves = λ book serves. rest caught (promised book) (fits book serves.fits);
    }

-- ---- where either is put off

pub puts_off : (aim : Aim) (old new : Machine) → IsCaughtUp old → new ≡ record old { store = new.store; put_off = true }
    → IsLeft aim old.store → WritesBack aim old.store new.store → PutsOff aim old new
puts_off aim old new free noted left writes =
    let turn = writes.made.passes.turn in
    let note : new.put_off ≡ true = ap (λ (s : Machine). s.put_off) noted in
    let others : new ≡ record old { store = new.store; put_off = new.put_off } = rw (← note) at noted in
    let short : IsShort old.store = omega (arith, ap (λ (l : List DeviceCall). length l) free.none_waits) in record {
      left = left;
      noted = note;
      done = done_free old new free others writes.appends turn.goes_on.layout_stays turn.goes_on.keeps_stays;
      writes = writes;
      some = some_made aim old.store new.store writes (record { left = left; short = short });
      serves = turn_serves old new free others writes.appends turn;
    }
