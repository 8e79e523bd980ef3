-- What an opening keeps, and what is seen of it.
use Rattle.std.specs.Prelude.{◌≡◌, ◌+◌, ◌*◌, ◌<◌, ◌≤◌, length, take}
use Rattle.image_calls.specs.{Reading.{Reading, IsUntil}}
use Rattle.image_calls.specs.{declared.opening.Opening.TheInside.Inside}

-- what was read lies at the front of the room for it
abbrev pub reading_of : Inside → Reading
reading_of a = record {
  near = take (512 * a.read) a.bytes.items;
  sectors = a.sectors;
  reach = a.reach;
  until = a.until;
  asked = a.asked;
}

-- There is room for all that is read, once that is known.
pub record Invariant (a : Inside) : Type 0 where
  pub until_is : IsUntil a.reach a.sectors (take (512 * a.read) a.bytes.items) a.until
  pub few : a.until ≤ 16384
  pub asked_few : a.read + a.asked ≤ a.until
  pub room : 512 * a.read ≤ length a.bytes.items
  pub all : 0 < a.read → length a.bytes.items ≡ 512 * a.until
