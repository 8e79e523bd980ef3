-- A store that goes ahead, and whose ring was not full when it started, never finds it full: each
-- record makes one flush, which is its own, whatever background steps come between.
use Rattle.std.specs.Prelude.{◌≡◌, ◌+◌, ℕ, [], ◌∷◌, true, false, Bool, List}
use Rattle.medium.specs.{Medium.State, declared.fault.MediumFault.TheVariants.Flush}
use Rattle.theorems.specs.{Headroom.next_durable, Retiring.wants}
use Rattle.blocks.specs.StoreValue.{Cached, StoreValue, is_dead}
-- handed on to the layers above
pub use Rattle.theorems.specs.Headroom.{HasHeadroom}

-- a call of a store that goes ahead leaves headroom where there was some
abbrev pub KeepsHeadroom : {M : Type 0} → StoreValue M → StoreValue M → Type 0
KeepsHeadroom old new = old.goes_ahead ≡ true → HasHeadroom old.cached.log
    → is_dead new.cached ≡ false → HasHeadroom new.cached.log

-- how many records both batches make: one for each that holds blocks
abbrev pub records_of : Cached → ℕ
records_of s = wants s.frozen.numbers + wants s.active.numbers

-- Where the store goes ahead, had headroom and lives, a flush is made for each durable record.
abbrev pub FlushesOnce : Bool → State → State → Cached → Cached → Type 0
FlushesOnce ahead before after old new = ahead ≡ true → HasHeadroom old.log → is_dead new ≡ false
    → after.made Flush + next_durable old.log ≡ before.made Flush + next_durable new.log

-- A call of a store: where the store goes ahead and has headroom, it makes one flush for each
-- record that became durable, and leaves headroom. No call changes the policy, or revives a store.
pub record IsSparing {M : Type 0} (state : M → State) (old new : StoreValue M) : Type 0 where
  pub policy : new.goes_ahead ≡ old.goes_ahead
  pub dead_stays : is_dead old.cached ≡ true → is_dead new.cached ≡ true
  pub headroom : KeepsHeadroom old new
  pub once : FlushesOnce old.goes_ahead (state old.medium) (state new.medium) old.cached new.cached

-- one call after another, with these stores between
abbrev pub AreSparing : {M : Type 0} → (M → State) → StoreValue M → List (StoreValue M)
    → StoreValue M → Type 0
AreSparing state old [] new = IsSparing state old new
AreSparing state old (mid ∷ rest) new = IsSparing state old mid × AreSparing state mid rest new

-- So do any such calls together: they make one flush for each record that became durable.
abbrev pub CallsFlushOnce : {M : Type 0} → (M → State) → Type 0
CallsFlushOnce {M} state = (old new : StoreValue M) → (between : List (StoreValue M))
    → AreSparing state old between new → IsSparing state old new
