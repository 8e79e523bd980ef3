-- A disk that begins behind a recovery of its device.
use Rattle.std.proofs.Common.{◌≡◌, ◌≤◌, ◌-◌, ◌∙◌, ℕ, List, [], inl, refl, sym, ap, arith}
use Rattle.window.specs.{OutboxMedium.sent, Window.{Window, mirror_of, state_of}}
use Rattle.journal.specs.declared.log_format.LogFormat.{LogFormat}
use Rattle.store_calls.specs.{MachineBehind.IsMediumBehind, declared.recovered_device.RecoveredDevice.RecoveredDevice}
use Rattle.bot_machine.specs.{Device.{Device, Kept}, Opening.DiskStartFromPost}
use Rattle.disk_machine.specs.{Machine.Machine, Parts.CoversParts, Seen.{Prompt, medium_of}}
use Rattle.disk_machine.specs.{Room.room_of, Moves.{begun, ServesAtRest, BeginsBehind}}
use Rattle.calls.specs.Behind.{DiskBehindPost}

module _ (on : RecoveredDevice) (content : List ℕ) (device : Device) (m : Window)
    (behind : IsMediumBehind on content (room_of on.found.sizes.format) m) (disk : Prompt)
    (starts : DiskStartFromPost state_of on.found m device disk) (keeps : (count : ℕ) × (device.retiring ≡ Kept count)) where
  none_sent : sent (mirror_of m) ≡ []
  none_sent = rw behind.is refl

  room_is : m.room ≡ room_of on.found.sizes.format
  room_is = rw behind.is refl

  stays : disk.unit.store.medium ≡ m
  stays = starts.unit.store.medium_stays

  least : (format : LogFormat) → 2 ≤ room_of format
  least format = grind arith

  pub disk_begins : (new : Machine) → new ≡ begun disk (room_of on.found.sizes.format - 2) → ServesAtRest new → BeginsBehind new
      → CoversParts m m → DiskBehindPost on content device new
  disk_begins new is serves begins parts =
      let same : new.disk.disk ≡ disk = ap (λ (s : Machine). s.disk.disk) is in
      let most : new.most ≡ room_of on.found.sizes.format - 2 = ap (λ (s : Machine). s.most) is in
      record {
        first = m;
        medium = behind;
        starts = rw same starts;
        is = is ∙ ap (λ (d : Prompt). begun d (room_of on.found.sizes.format - 2)) (sym same)
            ∙ ap (λ (room : ℕ). begun new.disk.disk (room - 2)) (sym room_is);
        serves = serves;
        leaves = begins m none_sent (rw (same, stays) parts);
        beside = record {
          steps = rw (same, stays) (omega (arith, most, room_is, least on.found.sizes.format));
        };
        holds = rw same (inl (rw keeps.1 at starts.unit.retires.keeps));
      }
