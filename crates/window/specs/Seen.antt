-- What a medium that reads on demand was asked since the beginning.
use Rattle.std.specs.Prelude.{◌+◌, ◌-◌, ◌*◌, ◌/◌, ℕ, zero, suc, Bool, true, List, [], ◌∷◌}
use Rattle.std.specs.Prelude.{◌++◌}
use Rattle.std.specs.Prelude.{length, take, replicate, Option, Some, None, if◌then◌else◌}
use Rattle.std.specs.Prelude.{◌&&◌}
use Rattle.std.specs.Prelude.{nat_lt, nat_le}
use Rattle.std.specs.Str.{bytes_eq}
use Rattle.medium.specs.Medium.{Image}
use Rattle.medium.specs.Tally.{one_more}
use Rattle.medium.specs.Writes.{sector_of}
use Rattle.medium.specs.declared.fault.MediumFault.TheVariants as fault
use Rattle.window.specs.Story as story
use Rattle.window.specs.Story.{Told}
use Rattle.window.specs.OutboxMedium.{device_of}
use Rattle.window.specs.declared.call.DeviceCall.{DeviceCall}

pub record Seen : Type 0 where
  -- as a medium that has all bytes in memory tells it
  pub told : Told
  -- the sectors that reads named, in order
  pub looked : List ℕ

-- whether a sector lies among count sectors from `first` on
abbrev pub lies_in : ℕ → ℕ → ℕ → Bool
lies_in first count s = nat_le first s && nat_lt s (first + count)

-- the first count bytes of the list, and zeros where it ends
abbrev pub filled : ℕ → List ℕ → List ℕ
filled count bytes = take count (bytes ++ replicate count 0)

-- the bytes of a device of `size` sectors: the first as they were read, the rest as it holds them
abbrev pub opened : ℕ → List ℕ → List ℕ → List ℕ
opened size near holds = near ++ filled (512 * size - length near) holds

abbrev pub begun : ℕ → List ℕ → List ℕ → Seen
begun size near holds = record { told = story.begun (opened size near holds); looked = [] }

abbrev pub read : Seen → ℕ → Seen
read t s = record { told = story.read t.told; looked = t.looked ++ s ∷ [] }

-- neighbouring sectors were read, from the first on
abbrev pub read_from : Seen → ℕ → ℕ → Seen
read_from t first zero = t
read_from t first (suc count) = read_from (read t first) (first + 1) count

abbrev pub missed : Seen → ℕ → Seen
missed t s = record {
  told = record (story.read t.told) { refused = one_more t.told.refused fault.Read };
  looked = t.looked ++ s ∷ [];
}

abbrev pub gave : Seen → DeviceCall → Seen
gave t call = record t { told = story.gave t.told call }

abbrev pub refused : Seen → DeviceCall → Seen
refused t call = record t { told = story.refused t.told call }

abbrev pub took : Seen → DeviceCall → Seen
took t call = record t { told = story.took t.told call }

-- the first of these calls was taken, where there is one
abbrev pub took_first : Seen → List DeviceCall → Seen
took_first t [] = t
took_first t (call ∷ calls) = took t call

-- whether each of a number of sectors from the first on is in the image as it is shown
abbrev pub agrees : Image → ℕ → ℕ → List ℕ → Bool
agrees image first zero bytes = true
agrees image first (suc count) bytes =
    bytes_eq (sector_of bytes count) (image (first + count)) && agrees image first count bytes

-- the image with these sectors as they are shown
abbrev pub overlaid : Image → ℕ → ℕ → List ℕ → Image
overlaid image first count bytes s =
    if lies_in first count s then sector_of bytes (s - first) else image s

-- the bytes of a given number of first sectors
abbrev pub bytes_of : ℕ → Image → List ℕ
bytes_of zero image = []
bytes_of (suc count) image = bytes_of count image ++ image count

-- these calls, of which so many that gave something to the device gave nothing
abbrev pub with_less : ℕ → List (Option DeviceCall) → List (Option DeviceCall)
with_less count [] = []
with_less count (None ∷ calls) = None ∷ with_less count calls
with_less zero (Some call ∷ calls) = Some call ∷ with_less zero calls
with_less (suc count) (Some call ∷ calls) = None ∷ with_less count calls

-- A device that holds these bytes, and else what was thought: it begins anew, and is still to carry
-- out what waits. The bytes are those that were shown with what waits laid over, so that it holds
-- the same when it has. Of a device that keeps what it holds it is never made.
abbrev pub reborn : Told → ℕ → ℕ → List ℕ → Told
reborn t first count bytes = record t {
  opening = bytes_of (length t.opening / 512) (overlaid (device_of t).content first count bytes);
  asked = with_less (length t.taken) t.asked;
  taken = [];
}

-- Sectors that were shown change nothing, where they hold, with what waits laid over, what was
-- thought.
abbrev pub shown : Seen → ℕ → ℕ → List ℕ → Seen
shown t first count bytes =
    if agrees (device_of t.told).content first count bytes then t
    else record t { told = reborn t.told first count bytes }
