-- From the turns of a store to the events of a unit.
use Rattle.std.proofs.{Common.{◌≡◌, ◌<◌, Bool, true, arith, refl, ap}, lemmas.Bool.Decides.nat_tests}
use Rattle.medium.specs.{Medium.State, Moments.IsUnchanged}
use Rattle.blocks.specs.{Limit.{Shape, limit_of}, Work.IsWork, declared.work.Work.Work}
use Rattle.blocks.specs.{StoreValue.{Cached, StoreValue, FitsBook, layout_of, transfer_limit, is_dead}, Turns.{GoesOn, HasCause}}
use Rattle.logical_blocks.specs.Book.{Book}
use Rattle.scsi.specs.Rules.{MayFault, Ticks, intention_by, command_by}
use Rattle.scsi_unit.specs.{UnitValue.{UnitValue, state_of}, Serving.{has_refused, TicksOver}, StoreCalls.StepsBehind, Faulting.IsSteady}

-- the failures grew
pub refused_so : (before after : State) → before.failures < after.failures → has_refused before after ≡ true
refused_so before after grew = grind (arith, nat_tests)

-- the cause of a death, for a book that the store fitted
pub may_fault : (before after : State) (old : Cached) (book : Book) → HasCause before after old
    → FitsBook before old book → MayFault (has_refused before after) book
may_fault before after old book cause fits = grind (arith, nat_tests, cause, fits)

-- where the shape of the log stays, the most blocks of a transfer stay too
pub limit_stays : (old new : Cached) → layout_of new ≡ layout_of old → transfer_limit new ≡ transfer_limit old
limit_stays old new same = ap (λ (s : Shape). limit_of s.format) same

-- a step in the background
ticks_line : {M : Type 0} (before after : State) (old : UnitValue M) (store : StoreValue M)
    (book : Book) → GoesOn before after old.store.cached store.cached → FitsBook before old.store.cached book
    → Ticks (has_refused before after) (state_of old book) (state_of (record old { store = store }) book)
ticks_line before after old store book on fits =
    let limit = limit_stays old.store.cached store.cached on.layout_stays in
    grind (arith, nat_tests, limit, on.dead_stays, on.cause, fits)

-- what a command comes to move it moved before the step
steady_through : {M : Type 0} {before after : State} (old : UnitValue M) (store : StoreValue M)
    → GoesOn before after old.store.cached store.cached → IsSteady old (record old { store = store })
unfolding intention_by command_by
steady_through old store on =
    let layout = on.layout_stays in
    record { takes = λ block n is. grind (arith, layout, on.dead_stays); sends = λ block n is. grind (arith, layout, on.dead_stays) }

-- a dead store makes no step, whatever it works towards
dead_stays : (work : Work) (ahead : Bool) (before after : State) (old new : Cached) → IsWork work ahead before after old new
    → is_dead old ≡ true → (new ≡ old) × IsUnchanged before after
dead_stays work ahead before after old new step dead = grind (arith, dead, step)

-- a unit over a store that made a step in the background
pub ticks_over : {M : Type 0} {Comes : StoreValue M → StoreValue M → Type 0} (work : Work) (before after : State) (old : UnitValue M)
    (store : StoreValue M) → StepsBehind Comes work before after old.store store
    → TicksOver work before after old (record old { store = store })
ticks_over work before after old store steps =
    let on = steps.turn.goes_on in
    let steady = steady_through old store on in
    record {
      step = steps.order;
      faulted = dead_stays work old.store.goes_ahead before after old.store.cached store.cached steps.order;
      headroom = steps.follows.headroom;
      line = λ book fits. (ticks_line before after old store book on fits, steps.turn.fits book fits);
      cuts = steps.turn.cuts;
      failures_stay = on.failures_stay;
      size_stays = on.size_stays;
      layout_stays = on.layout_stays;
      keeps_stays = on.keeps_stays;
      blocks_stay = on.blocks_stay;
      limit_stays = limit_stays old.store.cached store.cached on.layout_stays;
      policy_stays = steps.follows.policy;
      others_stay = refl;
      steady = steady.takes;
      steady_in = steady.sends;
      few = steps.calls;
      sent = steps.sent;
      looks = steps.looks;
      left = steps.left;
      active = steps.active;
    }
