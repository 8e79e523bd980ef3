-- Calls that a file is asked in runs.
use Rattle.std.proofs.Common.{◌≡◌, ◌≢◌, ◌<◌, ℕ, ◌+◌, List, [], ◌∷◌, ◌++◌, length, length-append, Some, None, refl}
use Rattle.std.proofs.Common.{sym, ◌∙◌, ap, subst, arith, inl, inr, ◌≤◌}
use Rattle.window.specs.OutboxMedium.{first_of}
use Rattle.window.specs.declared.call.DeviceCall.{DeviceCall}
use Rattle.window.specs.declared.call.DeviceCall.TheVariants.{Write, Flush}
use Rattle.window.specs.declared.call.SectorWrite.{SectorWrite}
use Rattle.device_file.specs.Asked.{writes_of}
use Rattle.device_file.specs.declared.run.Run.{Run}
use Rattle.device_file.specs.Outbox.{LetsGo}
use Rattle.device_file.proofs.FirstParts.{lets_first, through}
use Rattle.device_file.proofs.Puts.{first_is}
use Rattle.window.specs.Window.{Window, without_first}
use Rattle.device_file.specs.InRuns.{IsLongest, IsLongestRun, IsNext, IsNoMore}

pub count_of : (first : ℕ) (blocks : List (List ℕ)) → length (writes_of first blocks) ≡ length blocks
count_of first [] = refl
count_of first (block ∷ blocks) = omega (arith, count_of (first + 1) blocks)

-- a write behind the others is a block more
one_more : (old new : Run) (w : SectorWrite)
    → writes_of new.first new.blocks.items ≡ writes_of old.first old.blocks.items ++ Write w ∷ []
    → length new.blocks.items ≡ length old.blocks.items + 1
one_more old new w is = omega (
  arith,
  count_of old.first old.blocks.items,
  count_of new.first new.blocks.items,
  ap (λ (l : List DeviceCall). length l) is,
  length-append (writes_of old.first old.blocks.items) (Write w ∷ []),
)

pub none_next : (sector : ℕ) (calls : List DeviceCall) → first_of calls ≡ None → ¬ IsNext sector calls
none_next sector [] none = λ next. next
none_next sector (call ∷ calls) none = absurd (cc)

pub flush_next : (sector : ℕ) (calls : List DeviceCall) → first_of calls ≡ Some Flush → ¬ IsNext sector calls
flush_next sector [] is = absurd (cc)
flush_next sector (Write w ∷ calls) is = absurd (cc)
flush_next sector (Flush ∷ calls) is = λ next. next

other_next : (sector : ℕ) (calls : List DeviceCall) (w : SectorWrite) → first_of calls ≡ Some (Write w) → w.sector ≢ sector
    → ¬ IsNext sector calls
other_next sector [] w is other = absurd (cc)
other_next sector (Write v ∷ calls) w is other = λ next. other (cc (is, next))
other_next sector (Flush ∷ calls) w is other = absurd (cc)

module _ (run : Run) (count : ℕ) (are : length run.blocks.items ≡ count) (few : count < 256) (calls : List DeviceCall) where
  pub all_waited : first_of calls ≡ None → IsLongest run.first run.blocks.items calls
  all_waited none = record {
    most = omega (arith, are, few);
    ends = inr (none_next (run.first + length run.blocks.items) calls none);
  }

  pub flush_waits : first_of calls ≡ Some Flush → IsLongest run.first run.blocks.items calls
  flush_waits is = record {
    most = omega (arith, are, few);
    ends = inr (flush_next (run.first + length run.blocks.items) calls is);
  }

  -- a write that waits does not go with these
  no_more : (w : SectorWrite) → first_of calls ≡ Some (Write w) → IsNoMore run.first run.blocks.items w.sector
      → IsLongest run.first run.blocks.items calls
  no_more w is (inl full) = record { most = omega (arith, are, few); ends = inl full }
  no_more w is (inr other) = record {
    most = omega (arith, are, few);
    ends = inr (other_next (run.first + length run.blocks.items) calls w is other);
  }

  pub write_waits : (w : SectorWrite) (new : Run) → first_of calls ≡ Some (Write w) → IsNoMore run.first run.blocks.items w.sector
      → new ≡ run → IsLongest new.first new.blocks.items calls
  write_waits w new is none same =
      subst (λ (r : Run). IsLongest r.first r.blocks.items calls) (sym same) (no_more w is none)

-- it is full
pub is_full : (run : Run) (count : ℕ) (calls : List DeviceCall) → length run.blocks.items ≡ count → count ≤ 256 → 256 ≤ count
    → IsLongest run.first run.blocks.items calls
is_full run count calls are most full = record { most = omega (arith, are, most); ends = inl (omega (arith, are, most, full)) }

-- a write more was taken out of what waits
pub one_taken : (old new : Run) (u v w : Window) (write : SectorWrite) (count : ℕ)
    → LetsGo (writes_of old.first old.blocks.items) u v → length old.blocks.items ≡ count
    → first_of v.outbox ≡ Some (Write write) → w ≡ without_first v
    → writes_of new.first new.blocks.items ≡ writes_of old.first old.blocks.items ++ Write write ∷ []
    → LetsGo (writes_of new.first new.blocks.items) u w × (length new.blocks.items ≡ count + 1)
    × (length w.outbox < length u.outbox)
one_taken old new u v w write count lets are waits is more =
    let (rest, out) = first_is v.outbox (Write write) waits in
    let one = lets_first v w (Write write) rest out is in (
      subst (λ (l : List DeviceCall). LetsGo l u w) (sym more)
          (through (writes_of old.first old.blocks.items) (Write write ∷ []) u v w lets one),
      one_more old new write more ∙ ap (λ (n : ℕ). n + 1) are,
      omega (
        arith,
        ap (λ (l : List DeviceCall). length l) lets.waited,
        length-append (writes_of old.first old.blocks.items) v.outbox,
        ap (λ (l : List DeviceCall). length l) one.waited,
      ),
    )

-- what was taken out of what waited is a run
pub run_of : (first : ℕ) (blocks : List (List ℕ)) (waited waits : List DeviceCall) → waited ≡ writes_of first blocks ++ waits
    → length waits < length waited → IsLongest first blocks waits → IsLongestRun (writes_of first blocks) waits
run_of first blocks waited waits parts fewer longest = record {
  first = first;
  blocks = blocks;
  calls_are = refl;
  some = omega (
    arith,
    fewer,
    count_of first blocks,
    ap (λ (l : List DeviceCall). length l) parts,
    length-append (writes_of first blocks) waits,
  );
  longest = longest;
}
