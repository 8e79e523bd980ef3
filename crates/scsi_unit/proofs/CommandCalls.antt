-- The calls that a command makes: how many, which sectors they name, how many batches they make durable, and what a record costs.
use Rattle.std.proofs.Common.{◌≡◌, ◌≢◌, ◌≤◌, ◌<◌, ◌+◌, ℕ, Bool, false, List, [], None, Option, Some, Result, Ok, Err, arith, ap, refl, inl}
use Rattle.std.{proofs.{Common.{true, length, ◌∙◌, ◌*◌}, lemmas.Bool.Decides.nat_tests}, specs.Prelude.{◌||◌, not, if◌then◌else◌}}
use Rattle.medium.specs.{Medium.State, Sent.{sent, SendsUpTo}}
use Rattle.medium.proofs.SectorsRead.{no_looks, looks_joined, looks_wider}
use Rattle.scsi.specs.{Sense.Sense, declared.command.{Transfer.Transfer, Command.Command}, Rules.moves_blocks}
use Rattle.theorems.{specs.Retiring.{firsts_in, wants}, proofs.{Headroom.{one_each, both_each, headroom_finished}, Steady.steady_sync}}
use Rattle.blocks.specs.{Limit.Shape, Looks.{LooksAtLog, IsReadFor}, OneBatch.SendsOneBatch, Sent.most_sent, StoreValue.StoreValue}
use Rattle.blocks.specs.StoreValue.{is_dead, transfer_limit, active_of, Cached, HasLimits, blocks_of, slots_of, batch_steps}
use Rattle.blocks.{specs.StoreValue.{steps_left, FitsBeside}, proofs.EmptyBatches.{both_empty, fits_alone, frozen_as, step_sent}}
use Rattle.blocks.proofs.{OneBatchSent.none_sent, ReadCalls.reads_few, SectorsRead.looks_on, Limits.few_batch_steps}
use Rattle.scsi_unit.specs.{UnitValue.{UnitValue, unit_limit}, Calls.{calls_of_sync, calls_of_read, calls_of_write, MakesAtMost}}
use Rattle.scsi_unit.specs.Calls.{calls_of, most_calls_of, most_calls, IsWritten}
use Rattle.scsi_unit.specs.Reading.{ReadsBack, ReadsBackOr, LooksToRead, first_home_of, home_sectors_of, some_read}
use Rattle.scsi_unit.specs.{StoreCalls.{MakesDurable, ReadsBlocks, WritesBlocks}, Costs.{CostsFinishing, CostsWriting}}
use Rattle.scsi_unit.specs.{Costs.{SteadyIsCheap, RecordsFlushOnce}, Performing.{Spares, silent}}
use Rattle.scsi_commands.specs.Supported.{IsSupported}
use Rattle.scsi.specs.declared.command.Command.TheVariants as command

-- no call was made
pub no_calls : {M : Type 0} (count : ℕ) (read : Option Transfer) (m : State) (unit : UnitValue M) → MakesAtMost count read m m unit
no_calls count read m unit =
    let looks = no_looks (ReadsBackOr unit (home_sectors_of (first_home_of unit) read)) m m refl in grind (arith, looks)

-- the log alone was read
pub log_looked : {M : Type 0} (before after : State) (unit : UnitValue M) (read : Option Transfer)
    → LooksAtLog before after unit.store.cached → LooksToRead before after unit read
log_looked before after unit read looks = looks_wider (ReadsBack unit) _ before after (λ x low. inl low) looks

-- writes are made durable where no record is left to write, and then no more is sent
synced_few : {M : Type 0} (before mid after : State) (unit : UnitValue M) → is_dead unit.store.cached ≡ false
    → (unit.store.cached.frozen.numbers ≡ [] → SendsOneBatch unit.store.goes_ahead before mid unit.store.cached.log)
    → sent after ≤ sent mid + 0 → IsWritten unit.store.cached → SendsOneBatch unit.store.goes_ahead before after unit.store.cached.log
synced_few before mid after unit live one none all = grind (arith, one, none, both_empty unit.store.cached live all)

module _ {M : Type 0} {Comes : StoreValue M → StoreValue M → Type 0} {before after : State} {old : UnitValue M} {last : StoreValue M}
    {done : Result (Unit {0}) Sense} (live : is_dead old.store.cached ≡ false) where
  -- writes are made durable, if that is wanted
  pub synced : {wanted : Bool} {count : ℕ} {read : Option Transfer} → MakesDurable Comes wanted before after old.store last done
      → (if wanted then calls_of_sync old.store.cached else 0) ≤ count → MakesAtMost count read before after old
  synced {read = read} makes few = record {
    calls = omega (arith, makes.calls, few);
    sent = omega (arith, makes.sent);
    one_batch = synced_few before after after old live makes.one_batch (omega arith);
    looks = log_looked before after old read makes.looks;
  }

  module _ {half : StoreValue M} {mid : State} {transfer : Transfer} (some : transfer.count ≢ 0) where
    -- and blocks are read behind that
    pub read_on : {result : Result ℕ Sense} {out : List ℕ} → MakesDurable Comes transfer.fua before mid old.store half done
        → ReadsBlocks Comes transfer mid after half last out result
        → MakesAtMost (calls_of_read transfer old.store.cached) (some_read transfer) before after old
    read_on makes reads =
        let is : some_read transfer ≡ Some transfer = grind (arith, nat_tests) in
        record {
          calls = grind (arith, nat_tests, makes.calls, makes.unwanted, reads.calls, reads_few half.cached transfer.address transfer.count);
          sent = omega (arith, makes.sent, reads.sent);
          one_batch = synced_few before mid after old live makes.one_batch reads.sent;
          looks = rw is (looks_joined _ before mid after (log_looked before mid old (Some transfer) makes.looks)
              (looks_wider (IsReadFor half.cached transfer.address transfer.count) _ mid after
              (λ x named. rw (makes.turn.goes_on.layout_stays, makes.turn.goes_on.keeps_stays) at named) reads.looks));
        }

    -- they are accepted, and are made durable, if that is wanted
    pub write_on : {value : Unit {0}} {taken : List ℕ} → WritesBlocks Comes transfer taken before mid old.store half (Ok value)
        → MakesDurable Comes (transfer.fua || not old.write_cache) mid after half last done
        → transfer.count ≤ transfer_limit old.store.cached
        → MakesAtMost (calls_of_write transfer old.write_cache old.store.cached) None before after old
    write_on writes makes few =
        let layout = writes.turn.goes_on.layout_stays in
        record {
          calls = grind (arith, nat_tests, writes.calls, writes.paid, makes.calls);
          sent = omega (arith, writes.sent, makes.sent, ap (λ (s : Shape). most_sent s.format) layout);
          one_batch = λ all.
              let none = both_empty old.store.cached live all in
              let fits = fits_alone old.store.cached transfer.address transfer.count none.1 few in
              let beside = writes.batches.beside fits in
              let one = makes.one_batch (frozen_as old.store.cached half.cached beside.0 none.0) in
              grind (arith, one, writes.follows.policy, writes.quiet (inl fits), beside);
          looks = log_looked before after old None
              (looks_on before mid after old.store.cached half.cached writes.turn.goes_on writes.looks makes.looks);
        }

-- blocks are not accepted
pub write_stops : {M : Type 0} {Comes : StoreValue M → StoreValue M → Type 0} {before after : State} {old : UnitValue M}
    {last : StoreValue M}
    {transfer : Transfer} {taken : List ℕ} {sense : Sense} → transfer.count ≢ 0
    → WritesBlocks Comes transfer taken before after old.store last (Err sense)
    → MakesAtMost (calls_of_write transfer old.write_cache old.store.cached) None before after old
write_stops {before = before} {after = after} {old = old} some writes =
    let looks = log_looked before after old None writes.looks in grind (arith, nat_tests, writes, looks)

-- ---- for the layers above: no call, or a step in the background

pub none_made : {M : Type 0} (m : State) (unit : UnitValue M) → SendsOneBatch unit.store.goes_ahead m m unit.store.cached.log
none_made m unit = none_sent unit.store.goes_ahead m unit.store.cached.log m refl

pub step_made : {M : Type 0} (before after : State) (unit : UnitValue M) → SendsUpTo 2 before after
    → SendsOneBatch unit.store.goes_ahead before after unit.store.cached.log
step_made before after unit two = step_sent unit.store.goes_ahead before after unit.store.cached.log two

-- a WRITE that was accepted, and made durable if that was wanted
module _ {M : Type 0} {Comes : StoreValue M → StoreValue M → Type 0} {before mid : State} {transfer : Transfer} {taken : List ℕ}
    {value : Unit {0}} where
  -- the calls and the flushes of it
  costs_by : {old half : StoreValue M} → WritesBlocks Comes transfer taken before mid old half (Ok value)
      → (durable : Bool) (after : State) → CostsFinishing old.goes_ahead durable mid after half.cached
      → CostsWriting old.goes_ahead true durable transfer before after old.cached
  costs_by writes false after costs = λ not. let alone = writes.alone not in grind (arith, costs, alone)
  costs_by {half = half} writes true after costs = record {
    beside = λ fits.
        let quiet = writes.quiet (inl fits) in
        let turned = writes.batches.beside fits in
        record { active = active_of half.cached; takes = writes.active; both = grind (arith, costs, quiet, turned) };
    alone = λ not.
        let alone = writes.alone not in
        let turned = writes.batches.alone not in
        record {
          active = active_of half.cached;
          takes = writes.active;
          calls = grind (arith, costs, alone, turned);
          flushes = grind (arith, costs, alone, turned);
        };
  }

  pub spares_writing : {after : State} {old : UnitValue M} {half last : StoreValue M} {done : Result (Unit {0}) Sense}
      → WritesBlocks Comes transfer taken before mid old.store half (Ok value)
      → MakesDurable Comes (transfer.fua || not old.write_cache) mid after half last done → transfer.count ≢ 0
      → Spares before after (Ok (command.Write10 transfer)) taken old (silent done) (record old { store = last })
  spares_writing {after = after} {old = old} {half = half} writes makes some =
      let moves : moves_blocks transfer ≡ true = grind (arith, nat_tests) in
      let policy = writes.follows.policy in
      record {
        untouched = λ none. grind (arith, nat_tests);
        plain = λ t is fits. grind (arith, nat_tests, (λ (beside : FitsBeside _ _ _ _). writes.quiet (inl beside)), makes.unwanted);
        active = λ lives. grind (arith, nat_tests, writes.active, makes.active, makes.answer);
        log = λ good. rw moves (record {
          mid = half.cached;
          turns = writes.batches;
          takes = writes.active;
          finishes = grind (arith, makes.log, policy, good);
        });
        cost = λ good. rw moves (costs_by writes (transfer.fua || not old.write_cache) after (grind (arith, makes.cost, policy, good)));
        policy = makes.follows.policy ∙ policy;
        headroom = λ on head. makes.follows.headroom (policy ∙ on) (writes.follows.headroom on head writes.answer);
      }

some_wanted : (numbers : List ℕ) → wants numbers ≡ 1 → 0 < length numbers
some_wanted numbers one = grind (arith, nat_tests)

pub records_flush_once : RecordsFlushOnce
records_flush_once active old head under_way =
    let some = λ (begun : 0 < old.log.steps_left). some_wanted old.frozen.numbers (under_way begun) in (
      both_each old.frozen.numbers active old.log head some,
      one_each old.frozen.numbers old.log head some,
      headroom_finished old.frozen.numbers (firsts_in old.frozen) old.frozen.bytes old.log head,
    )

pub steady_is_cheap : SteadyIsCheap
steady_is_cheap active old still none some = steady_sync old.frozen.numbers active old.log still none some

-- the steps that are left, and those of one batch more
one_more : (slots width steps : ℕ) → steps ≤ (slots + 4) * width → 2 * steps + 2 * width ≤ 2 * (slots + 5) * width
one_more slots width steps few = omega (arith, few)

-- two calls for each step that is left, and `more` besides
with_more : (slots limit steps more : ℕ) → steps ≤ (slots + 4) * (2 * limit + 16) → more ≤ 6 * limit + 32
    → 2 * steps + more ≤ most_calls_of slots limit
with_more slots limit steps more few few_more = omega (arith, few_more, one_more slots (2 * limit + 16) steps few)

module _ (cached : Cached) (limits : HasLimits cached) where
  abbrev most : ℕ
  most = most_calls_of (slots_of cached) (transfer_limit cached)

  sync_and : (more : ℕ) → more ≤ 6 * transfer_limit cached + 32 → calls_of_sync cached + more ≤ most
  sync_and more few = with_more (slots_of cached) (transfer_limit cached) (steps_left cached) more limits.few_steps few

  few_read : (transfer : Transfer) → transfer.count ≤ transfer_limit cached → calls_of_read transfer cached ≤ most
  few_read transfer within =
      let sum = sync_and transfer.count (omega (arith, within)) in
      grind (arith, nat_tests, sum, reads_few cached transfer.address transfer.count)

  few_write : (transfer : Transfer) (write_cache : Bool) → calls_of_write transfer write_cache cached ≤ most
  few_write transfer write_cache =
      let sum = sync_and (2 * batch_steps cached) (omega (arith, few_batch_steps cached)) in grind (arith, nat_tests, sum)

  -- the calls of a command that is supported
  pub calls_few : (told : Command) → IsSupported (blocks_of cached) (transfer_limit cached) told → (taken : List ℕ) (write_cache : Bool)
      → calls_of told taken write_cache cached ≤ most
  calls_few told supported taken write_cache =
      let none = sync_and 0 (omega arith) in grind (arith, few_read, few_write, none)

-- nor does a step in the background
pub few_ticks : {M : Type 0} (before after : ℕ) (unit : UnitValue M) → after ≤ before + 2 → after ≤ before + most_calls unit
few_ticks before after unit few = omega (arith, few, one_more (slots_of unit.store.cached) (2 * unit_limit unit + 16) 0 (omega arith))
