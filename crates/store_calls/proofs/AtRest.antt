-- A device that has carried out all, or none.
use Rattle.std.proofs.Common.{◌≡◌, ◌≤◌, true, length, arith, ap, length-append, List}
use Rattle.medium.specs.{Medium.Image, Moments.EachCut}
use Rattle.window.specs.{OutboxMedium.sent, declared.call.DeviceCall.DeviceCall, Window.{Window, state_of, mirror_of, ComesAfter}}
use Rattle.window.specs.{WindowLaws.{is_sound, comes_after_itself}, declared.asked.Asked.Asked}
use Rattle.logical_blocks.specs.Book.{Book}
use Rattle.blocks.specs.{Finding.MayFind, StoreValue.FitsBook}
use Rattle.store_calls.specs.{Rooms.CoversParts, Serving.{ServesAtRest, BeginsBehind}}
use Rattle.store_calls.specs.StoreMachine.{Machine, IsCaughtUp, MayLeave, under_way}

module _ (s : Machine) (parts : (new : Window) → ComesAfter s.store.medium new → CoversParts s.store.medium new)
    (at_rest : (book : Book) → FitsBook (state_of s.store.medium) s.store.cached book → book.ours ≡ true
    → EachCut (MayFind (state_of s.store.medium).size book) (state_of s.store.medium)) where
  -- it was sent no more than it has carried out
  no_more : IsCaughtUp s → (image : Image) → (left : MayLeave s image) → length (sent (mirror_of s.store.medium)) ≤ left.count
  no_more free image left = omega (
    arith,
    left.reaches,
    ap (λ (a : Asked). under_way a) free.at_none,
    length-append s.store.medium.seen.told.taken s.store.medium.outbox,
    ap (λ (l : List DeviceCall). length l) free.none_waits,
  )

  pub serves_at_rest : ServesAtRest s
  serves_at_rest free book fits = record {
    fits = fits;
    keeps = λ ours image left. at_rest book fits ours image ((is_sound s.store.medium).only_now image
        (parts s.store.medium (comes_after_itself s.store.medium) left.count left.done image (no_more free image left) left.are
        left.cut));
  }

-- where none was sent before, all that may be left is of the start
pub begins_behind : (s : Machine) → BeginsBehind s
begins_behind s first none covers image left =
    covers left.count left.done image (omega (arith, ap (λ (l : List DeviceCall). length l) none)) left.are left.cut
