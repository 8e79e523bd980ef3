-- What is kept of the first sectors, as more of them are read.
use Rattle.std.proofs.Common.{◌≡◌, ◌+◌, ◌*◌, ◌/◌, ◌≤◌, ◌<◌, ◌++◌, ◌∙◌, ℕ, true, List, length, take, inl, inr, refl, sym, ap}
use Rattle.std.proofs.{Common.{arith, length-take, length-append}, lemmas.List.with_items_is}
use Rattle.std.specs.{Vec.with_items}
use Rattle.image_calls.specs.{Inside.{reading_of, Invariant}, Reading.{IsSound, IsUntil, Takes}}
use Rattle.image_calls.specs.{Room.MakesRoom, declared.opening.Opening.TheInside.Inside}

-- how many bytes were read
pub near_length : (a : Inside) → Invariant a → length (take (512 * a.read) a.bytes.items) ≡ 512 * a.read
near_length a kept = omega (arith, kept.room, length-take (512 * a.read) a.bytes.items)

pub sound_of : (a : Inside) → Invariant a → IsSound (reading_of a)
sound_of a kept = record {
  until_is = kept.until_is;
  few = kept.few;
  whole = omega (arith, near_length a kept);
  within = omega (arith, near_length a kept, kept.asked_few);
  asked_few = omega (arith, near_length a kept, kept.asked_few);
}

-- what was read lies at the front of the room that is made
stays : (read until : ℕ) (old mid : List ℕ) → MakesRoom read until old mid true → take (512 * read) mid ≡ take (512 * read) old
stays read until old mid (inl made) = rw made.0 refl
stays read until old mid (inr stay) = rw stay.1 refl

-- and these bytes behind it
pub put_behind : (read until asked size at : ℕ) (old mid new bytes : List ℕ) → MakesRoom read until old mid true
    → take (at + size) new ≡ take at mid ++ bytes → at ≡ 512 * read → size ≡ 512 * asked
    → take (512 * (read + asked)) new ≡ take (512 * read) old ++ bytes
put_behind read until asked size at old mid new bytes makes put at_is size_is =
    let same : 512 * (read + asked) ≡ at + size = omega (arith, at_is, size_is) in
    ap (λ (n : ℕ). take n new) same ∙ put ∙ ap (λ (n : ℕ). take n mid ++ bytes) at_is
    ∙ ap (λ (l : List ℕ). l ++ bytes) (stays read until old mid makes)

-- there is room for all
pub has_room : (read until : ℕ) (old mid : List ℕ) → MakesRoom read until old mid true → (0 < read → length old ≡ 512 * until)
    → length mid ≡ 512 * until
has_room read until old mid (inl made) all = made.1
has_room read until old mid (inr stay) all =
    let some : 0 < read = grind (arith, stay.0) in ap (λ (l : List ℕ). length l) stay.1 ∙ all some

abbrev pub behind : Inside → Inside → List ℕ → ℕ → Inside
behind a mid filled count =
    record a { bytes = with_items mid.bytes filled; read = a.read + count; until = mid.until; asked = 0 }

-- behind a good read: what was read lies behind what was read before
module _ (a mid : Inside) (kept : Invariant a) (bytes filled : List ℕ) (count : ℕ)
    (makes : MakesRoom a.read mid.until a.bytes.items mid.bytes.items true)
    (put : take (a.read * 512 + length bytes) filled ≡ take (a.read * 512) mid.bytes.items ++ bytes)
    (long : length filled ≡ length mid.bytes.items) (sized : length bytes ≡ 512 * a.asked)
    (is : IsUntil a.reach a.sectors (take (512 * a.read) a.bytes.items ++ bytes) mid.until) (few : mid.until ≤ 16384)
    (within : length (take (512 * a.read) a.bytes.items ++ bytes) / 512 ≤ mid.until)
    (goes_on : 0 < length (take (512 * a.read) a.bytes.items) → mid.until ≡ a.until) (count_is : count ≡ a.asked) where
  items : (with_items mid.bytes filled).items ≡ filled
  items = with_items_is mid.bytes filled (long ∙ sym mid.bytes.ok.0)

  read_is : a.read + count ≡ a.read + a.asked
  read_is = omega (arith, count_is)

  laid : take (512 * (a.read + count)) filled ≡ take (512 * a.read) a.bytes.items ++ bytes
  laid = ap (λ (n : ℕ). take (512 * n) filled) read_is
      ∙ put_behind a.read mid.until a.asked (length bytes) (a.read * 512) a.bytes.items mid.bytes.items filled bytes makes put (omega arith)
      sized

  front : take (512 * (a.read + count)) (with_items mid.bytes filled).items ≡ take (512 * a.read) a.bytes.items ++ bytes
  front = ap (λ (l : List ℕ). take (512 * (a.read + count)) l) items ∙ laid

  enough : a.read + count ≤ mid.until
  enough = omega (arith, within, length-append (take (512 * a.read) a.bytes.items) bytes, near_length a kept, sized, read_is)

  room : length (with_items mid.bytes filled).items ≡ 512 * mid.until
  room = ap (λ (l : List ℕ). length l) items ∙ long
      ∙ has_room a.read mid.until a.bytes.items mid.bytes.items makes (λ some. kept.all some
      ∙ ap (λ (n : ℕ). 512 * n) (sym (goes_on (omega (arith, some, near_length a kept)))))

  pub taken : Invariant (behind a mid filled count) × Takes (reading_of a) bytes (reading_of (behind a mid filled count))
  taken = (
    record {
      until_is = rw front is;
      few = few;
      asked_few = omega (arith, enough);
      room = omega (arith, room, enough);
      all = λ _. room;
    },
    record { until_is = is; is = rw front refl },
  )
