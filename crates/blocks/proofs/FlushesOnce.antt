-- A store that goes ahead keeps headroom, and each record makes one flush, whatever calls come between.
use Rattle.std.proofs.{Common.{◌≡◌, ◌⊎◌, ◌<◌, inl, inr, refl, arith, ◌+◌}, lemmas.Bool.{Decides.nat_tests, cases_Bool, cases_lt}}
use Rattle.std.{proofs.lemmas.List.nil_from_length, specs.Prelude.{List, [], ◌∷◌, length, true, false, Bool}}
use Rattle.medium.specs.{Medium.State, declared.fault.MediumFault.TheVariants.Flush}
use Rattle.redo_log.specs.Value.{IsRetireStepped}
use Rattle.theorems.specs.{Headroom.{RestsWithRoom, HasHeadroom, next_durable}, Retiring.firsts_in, Ahead.counted}
use Rattle.theorems.proofs.Headroom.{ready_more, rests_stepped, landed_stepped, landed_begun, may_or_goes, rests_counted, step_once}
use Rattle.blocks.specs.{Background.{IsBackgroundStep, MayBegin, with_counted}, Written.IsWritten, declared.work.Work.TheVariants.Settle}
use Rattle.blocks.specs.{declared.work.Work.Work, Headroom.{IsSparing, AreSparing}, StoreValue.{Cached, is_dead, steps_left, unwritten}}
use Rattle.blocks.specs.{StoreValue.StoreValue, Work.{GoesOnAhead, IsAheadStep, IsWriteBackStep, RetiresNone, WorksBy, DoesWork}}
use Rattle.blocks.proofs.EmptyBatches.{written_live, steps_to_write}

pub to_write : (s : Cached) → ¬ IsWritten s → (is_dead s ≡ false) × (0 < steps_left s) × (0 < unwritten s)
to_write s left = grind (arith, cases_Bool (is_dead s), cases_lt 0 (unwritten s), left, steps_to_write s)

-- one step ahead
rests_ahead : (before after : State) (old new : Cached) → GoesOnAhead before after old new → is_dead new ≡ false
    → IsRetireStepped old.log new.log ⊎ (new.log ≡ old.log)
rests_ahead before after old new goes live = grind (arith, nat_tests, goes)

-- it leaves headroom, and its flushes are those of the records that became durable
abbrev Spared : State → State → Cached → Cached → Type 0
Spared before after old new = HasHeadroom new.log × (after.made Flush + next_durable old.log ≡ before.made Flush + next_durable new.log)

steps_ahead : (before after : State) (old new : Cached) → IsAheadStep true before after old new → RestsWithRoom old.log
    → is_dead new ≡ false → RestsWithRoom new.log × (new.log.next ≡ old.log.next)
steps_ahead before after old new step r live =
    let goes = λ (alive : is_dead old ≡ false).
    rests_ahead before after (with_counted old) new (step.goes refl alive r.order.idle) live in
    grind (arith, cases_Bool (is_dead old), step.dead, r, rests_counted old.log r, goes, rests_stepped (counted old.log) new.log)

spared_ahead : (before after : State) (old new : Cached) → IsAheadStep true before after old new → HasHeadroom old.log
    → is_dead new ≡ false → Spared before after old new
spared_ahead before after old new step head live = grind (arith, nat_tests, steps_ahead)

pub headroom_stepped : (before after : State) (old new : Cached) → IsBackgroundStep true before after old new → HasHeadroom old.log
    → is_dead new ≡ false → HasHeadroom new.log
headroom_stepped before after old new order head live =
    let may : MayBegin true old ⊎ (MayBegin true old → ⊥) = grind (arith, nat_tests) in
    let idles : old.log.steps_left ≡ 0 → RestsWithRoom old.log = λ (idle : old.log.steps_left ≡ 0). grind (arith, head) in
    let alive : is_dead old ≡ false = grind (arith, cases_Bool (is_dead old), order.dead, live) in
    elim (cases_lt 0 old.log.steps_left) [
      | inl some ↦ grind (arith, order.goes_on alive some, live, head, landed_stepped)
      | inr few ↦ elim may [
        | inl begins ↦
            let b = order.begins alive begins in
            let some : 0 < length new.frozen.numbers = grind (arith, b.next, begins, nil_from_length old.frozen.numbers) in
            let order = (idles (omega (arith, few))).order in
            rw ((b.live live).1, landed_begun new.frozen.numbers (firsts_in new.frozen) new.frozen.bytes old.log)
            (ready_more new.frozen.numbers (firsts_in new.frozen) new.frozen.bytes old.log (order, inl begins.0.1) some)
        | inr not ↦
            let r = order.retires alive (omega (arith, few)) not in
            let empty = nil_from_length old.log.waiting in
            grind (arith, cases_lt 0 (length old.log.waiting), empty, r.live, r.none_waits, idles, rests_stepped old.log new.log, head)
      ]
    ]

settles_once : (ahead : Bool) (before after : State) (old new : Cached) → IsBackgroundStep ahead before after old new
    → RetiresNone Settle ahead old → HasHeadroom old.log → is_dead new ≡ false
    → after.made Flush + next_durable old.log ≡ before.made Flush + next_durable new.log
settles_once ahead before after old new order kind head live = grind (arith, nat_tests, cases_Bool, step_once)

spared_back : (before after : State) (old new : Cached) → IsWriteBackStep true before after old new → HasHeadroom old.log
    → is_dead new ≡ false → Spared before after old new
spared_back before after old new step head live =
    let written : IsWritten old ⊎ (IsWritten old → ⊥) = grind (arith, cases_Bool (is_dead old), written_live old) in
    elim written [
      | inl done ↦ grind (arith, step.written done, head)
      | inr left ↦ elim (cases_lt 0 old.log.steps_left) [
        | inl some ↦ grind (arith, step.goes_on left some, live, head, step_once, landed_stepped)
        | inr few ↦
            let r : RestsWithRoom old.log = grind (arith, head) in
            let more = to_write old left in
            elim (may_or_goes old.log r) [
              | inl may ↦
                  let b = step.begins left may.0 in
                  let some : 0 < length new.frozen.numbers = grind (arith, b.next, more, nil_from_length old.frozen.numbers) in
                  let rests = ready_more new.frozen.numbers (firsts_in new.frozen) new.frozen.bytes old.log (r.order, may.1) some in
                  grind (arith, b, live, rests, landed_begun new.frozen.numbers (firsts_in new.frozen) new.frozen.bytes old.log)
              | inr not ↦
                  let goes = (step.makes_way left (omega (arith, few)) not.0).goes not.1 in
                  spared_ahead before after old new (grind (arith, more, few, goes)) head live
            ]
      ]
    ]

-- a step of the work leaves headroom
pub does_work : {M : Type 0} {state : M → State} {Follows : M → M → Type 0} {work : Work} {old new : StoreValue M}
    → WorksBy state Follows work old new → DoesWork state Follows work old new
does_work {state = state} {work = Settle} {old = old} {new = new} made =
    grind (arith, made, settles_once true (state old.medium) (state new.medium) old.cached new.cached, headroom_stepped)
does_work {old = old} {new = new} made = grind (arith, made, spared_ahead, spared_back)

-- one call after another
pub sparing_all : {M : Type 0} (state : M → State) (old new : StoreValue M) (between : List (StoreValue M))
    → AreSparing state old between new → IsSparing state old new
sparing_all state old new [] one = one
sparing_all state old new (mid ∷ rest) calls =
    let last = sparing_all state mid new rest calls.1 in grind (arith, calls, last, cases_Bool (is_dead mid.cached))
