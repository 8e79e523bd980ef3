-- How a machine starts on a device whose image was recovered.
use Rattle.std.proofs.Common.{◌≡◌, ◌≤◌, ◌*◌, ℕ, List, [], length, true, inl, refl, ap, arith}
use Rattle.window.specs.{OutboxMedium.sent, Window.{Window, mirror_of, state_of, fresh}}
use Rattle.window.proofs.{Kept.opened_length}
use Rattle.recovery.specs.{Recovered.FitsRecovered, declared.recovered.Recovered.Recovered}
use Rattle.blocks.specs.{Started.StartFromPost, declared.start.Keeping.TheVariants.Kept}
use Rattle.store_calls.specs.{MachineBehind.{IsMediumBehind, BeginBehindPost}, Rooms.{room_of, CoversParts}, Serving.BeginsOver}
use Rattle.store_calls.specs.{StoreMachine.Machine, Stores.Store, declared.recovered_device.RecoveredDevice.RecoveredDevice}

-- the medium has as many sectors as the device
pub size_is : (sectors : ℕ) (near holds : List ℕ) (span room : ℕ) → length near ≤ 512 * sectors
    → (state_of (fresh sectors near holds span room)).size ≡ sectors
size_is sectors near holds span room within = omega (arith, opened_length sectors near holds within)

pub fits_on : (sectors size : ℕ) (found : Recovered) → size ≡ sectors → FitsRecovered sectors found → FitsRecovered size found
fits_on sectors size found is fits = rw is fits

module _ (on : RecoveredDevice) (holds : List ℕ) (room : ℕ) (m : Window) (behind : IsMediumBehind on holds room m) where
  none_sent : sent (mirror_of m) ≡ []
  none_sent = rw behind.is refl

  room_is : m.room ≡ room
  room_is = rw behind.is refl

pub begins : (on : RecoveredDevice) (holds : List ℕ) (kept : ℕ) (m : Window) (store : Store) (new : Machine)
    → IsMediumBehind on holds (room_of on.found.sizes.format) m → StartFromPost (Kept kept) true state_of on.found m store
    → BeginsOver store new → CoversParts m m → BeginBehindPost on holds kept new
begins on holds kept m store new behind post over parts =
    let at : new.store ≡ store = ap (λ (s : Machine). s.store) over.is in
    record {
      first = m;
      medium = behind;
      store = rw at post;
      begun = rw (← at) at over;
      leaves = over.rests.starts m (none_sent on holds _ m behind) (rw (at, post.medium_stays) parts);
      holds_log = inl (rw at post.keeps);
      roomy = rw (at, post.medium_stays) (omega (arith, room_is on holds _ m behind));
    }
