-- Calls leave the outbox, and are under way.
use Rattle.std.proofs.Common.{◌≡◌, ◌≤◌, ◌<◌, ◌+◌, ◌++◌, ◌∷◌, [], ℕ, zero, suc, length, List, refl, sym, ◌∙◌, ap, arith, append_assoc}
use Rattle.std.proofs.{Common.length-append}
use Rattle.std.specs.Prelude.{Some, None}
use Rattle.medium.specs.{Writes.sector_of}
use Rattle.window.specs.{OutboxMedium.first_of, declared.call.DeviceCall.DeviceCall, declared.call.DeviceCall.TheVariants.{Write, Flush}}
use Rattle.window.specs.{Window.{Window, take_first}, declared.ask.DeviceAsk.DeviceAsk, declared.ask.DeviceRead.DeviceRead}
use Rattle.window.specs.{declared.asked.Asked.Asked}
use Rattle.blocks.specs.StoreValue.{Cached, layout_of}
use Rattle.window.specs.Runs.{writes_of}
use Rattle.store_calls.specs.{Asking.{AsksFor, HandsOut}, Outbox.{without, IsRun}, Serving.StaysSafe}
use Rattle.store_calls.specs.StoreMachine.{Machine, under_way}
use Rattle.store_calls.proofs.Standing.{IsSentStill, Stands, same_sent, stays_safe, store_stays, nothing_changes}
use Rattle.window.specs.declared.ask.DeviceAsk.TheVariants as ask
use Rattle.window.specs.declared.asked.Asked.TheVariants as asked

one_goes : (calls : List DeviceCall) (w : Window) → w.outbox ≡ calls → IsSentStill w (take_first calls w)
one_goes [] w is = same_sent w
one_goes (call ∷ calls) w is = record {
  opening = refl;
  sent = append_assoc w.seen.told.taken (call ∷ []) calls ∙ ap (λ (l : List DeviceCall). w.seen.told.taken ++ l) (sym is);
  size = refl;
  left = λ t image left. record { at = left.at; later = left.later; past = left.past; cut = left.cut };
  room = refl;
  near = refl;
}

-- so many calls leave the outbox
pub some_go : (count : ℕ) (w : Window) → IsSentStill w (without count w)
some_go zero w = same_sent w
some_go (suc count) w =
    let before = some_go count w in
    let last = one_goes (without count w).outbox (without count w) refl in record {
      opening = cc;
      sent = cc;
      size = cc;
      left = λ t image left. last.left t image (before.left t image left);
      room = cc;
      near = cc;
    }

one_fewer : (calls : List DeviceCall) (w : Window) → w.outbox ≡ calls → 0 < length calls
    → length (take_first calls w).outbox + 1 ≡ length w.outbox
one_fewer [] w is some = absurd (omega (arith, some))
one_fewer (call ∷ calls) w is some = omega (arith, ap (λ (l : List DeviceCall). length l) is)

fewer_wait : (count : ℕ) (w : Window) → count ≤ length w.outbox → length (without count w).outbox + count ≡ length w.outbox
fewer_wait zero w le = omega arith
fewer_wait (suc count) w le =
    let before = fewer_wait count w (omega (arith, le)) in
    omega (arith, before, one_fewer (without count w).outbox (without count w) refl (omega (arith, before, le)))

-- so many have left it
pub taken_by : (count : ℕ) (w : Window) → count ≤ length w.outbox
    → length (without count w).seen.told.taken ≡ length w.seen.told.taken + count
taken_by count w le = omega (
  arith,
  fewer_wait count w le,
  ap (λ (l : List DeviceCall). length l) (some_go count w).sent,
  length-append (without count w).seen.told.taken (without count w).outbox,
  length-append w.seen.told.taken w.outbox,
)

-- calls that left the outbox are under way
handed_stands : (old new : Machine) (count : ℕ) → HandsOut old count new → count ≤ length old.store.medium.outbox → Stands old new
handed_stands old new count hands le = record {
  sent = rw hands.gone (some_go count old.store.medium);
  reaches = omega (
    arith,
    ap (λ (a : Asked). under_way a) hands.free,
    ap (λ (s : Machine). under_way s.asked) hands.others,
    taken_by count old.store.medium le,
    ap (λ (w : Window). length w.seen.told.taken) hands.gone,
  );
  fits = hands.untouched.turn.fits;
  layout = ap (λ (s : Cached). layout_of s) hands.untouched.cached;
  keeps = ap (λ (s : Cached). s.log.keeps) hands.untouched.cached;
}

pub some_first : (calls : List DeviceCall) (call : DeviceCall) → first_of calls ≡ Some call → 1 ≤ length calls
some_first calls call is = grind (arith, is)

pub none_first : (calls : List DeviceCall) → first_of calls ≡ None → calls ≡ []
none_first [] is = refl
none_first (call ∷ calls) is = cc

length_of_writes : (count sector : ℕ) (bytes : List ℕ) → length (writes_of count sector bytes) ≡ count
length_of_writes zero sector bytes = refl
length_of_writes (suc count) sector bytes = omega (
  arith,
  length_of_writes count sector bytes,
  length-append (writes_of count sector bytes) (Write (record { sector = sector + count; block = sector_of bytes count }) ∷ []),
)

pub run_waits : (old new : Window) (sector count : ℕ) (room filled : List ℕ) → IsRun old new sector count room filled
    → count ≤ length old.outbox
run_waits old new sector count room filled run = omega (
  arith,
  ap (λ (l : List DeviceCall). length l) run.writes,
  length-append (writes_of count sector filled) new.outbox,
  length_of_writes count sector filled,
)

-- the device is asked to read
reads_stand : (old new : Machine) (home : DeviceRead) → old.asked ≡ asked.Nothing → new ≡ record old { asked = asked.Read home }
    → Stands old new
reads_stand old new home free is = rw is (store_stays old (record old { asked = asked.Read home }) refl
    (omega (arith, ap (λ (a : Asked). under_way a) free)))

-- the device is asked for the next
pub asks_safe : (old new : Machine) (room : List ℕ) (what : DeviceAsk) (filled : List ℕ) → AsksFor old room what new filled
    → StaysSafe old new
asks_safe old new room ask.Nothing filled asks = nothing_changes old new asks.1
asks_safe old new room (ask.Write first count) filled asks =
    stays_safe old new (handed_stands old new count asks.0
    (run_waits old.store.medium new.store.medium first count room filled asks.2.run))
asks_safe old new room ask.Flush filled asks =
    stays_safe old new (handed_stands old new 1 asks.0 (some_first old.store.medium.outbox Flush asks.1))
asks_safe old new room (ask.Read home) filled asks = stays_safe old new (reads_stand old new home asks.0 asks.2)
