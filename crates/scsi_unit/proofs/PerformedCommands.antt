-- Commands performed by a unit: what its store did, as a line of the rules.
use Rattle.std.proofs.Common.{◌≡◌, ◌≢◌, ◌⊎◌, ◌≤◌, inl, inr, ℕ, Bool, true, false, List, [], ◌∷◌, Some, None, Result, Ok, Err, arith, refl}
use Rattle.std.{proofs.{Common.length-append, lemmas.Bool.Decides.nat_tests}, specs.Prelude.{◌||◌, ◌&&◌, not, if◌then◌else◌, take}}
use Rattle.medium.{proofs.Moments.{weaker, joined_same}, specs.{Medium.{State, IsSound}, Moments.LeavesOnly}}
use Rattle.logical_blocks.specs.Book.{Book, promised, with_write, with_progress}
use Rattle.scsi.specs.{Sense.Sense, declared.command.{Command.Command, Transfer.Transfer, BlockRange.BlockRange}, Rules.effect_of}
use Rattle.scsi.specs.Rules.{write_of_command, write_after, wants_writing, write_by, some_write, moves_blocks, MayFault, IsOutcome}
use Rattle.scsi.specs.{Rules.{IsByTable, selected_by}, Capacity.capacity_10}
use Rattle.blocks.{proofs.TurnsJoined.{stays, turns}, specs.{Finding.{MayFind, Found, FoundWith}, StoreValue.{Cached, StoreValue}}}
use Rattle.blocks.specs.{StoreValue.{FitsBook, is_dead, layout_of, blocks_of}, Turns.IsTurn}
use Rattle.scsi_unit.{proofs.UnitTurns.{may_fault, refused_so, limit_stays}, specs.UnitValue.{UnitValue, state_of, answer_of}}
use Rattle.scsi_unit.specs.{Serving.{has_refused, command_for, Serves}, Performing.{settled, silent, Performs, settled_kept}}
use Rattle.scsi_unit.specs.StoreCalls.{TellsDeath, MakesDurable, ReadsBlocks, WritesBlocks}
use Rattle.scsi.specs.declared.command.Command.TheVariants as command

-- what a unit answers behind a turn of its store, for each book
abbrev Lines : {M : Type 0} → State → State → Result Command Sense → List ℕ → UnitValue M → Result (List ℕ) Sense → UnitValue M → Type 0
Lines before after told taken old answer new = (book : Book) → FitsBook before old.store.cached book
    → (next : Book)
    × IsOutcome (has_refused before after) told taken (state_of old book) answer (settled answer (state_of new next))
    × FitsBook after new.store.cached next

-- what stays, whatever a command does
record Stays (before after : State) (old new : Cached) : Type 0 where
  pub failures : before.failures ≤ after.failures
  pub size : after.size ≡ before.size
  pub layout : layout_of new ≡ layout_of old
  pub keeps : new.log.keeps ≡ old.log.keeps
  pub blocks : blocks_of new ≡ blocks_of old

module _ {M : Type 0} {before after : State} {old new : UnitValue M} {told : Result Command Sense} {taken : List ℕ}
    {answer : Result (List ℕ) Sense} where
  -- what it answers for each book, and what a cut leaves
  performs_so : Stays before after old.store.cached new.store.cached → new.identity ≡ old.identity
      → ((book : Book) → FitsBook before old.store.cached book → book.ours ≡ true
      → LeavesOnly (FoundWith before.size book (write_after told taken)) before after)
      → Lines before after told taken old answer new → Performs before after told taken old answer new
  performs_so stay identity cuts line =
      let limit = limit_stays old.store.cached new.store.cached stay.layout in grind (arith, stay, identity, cuts, line, limit)

  -- a turn of the store that accepts no write
  performs_by : IsTurn before after old.store.cached new.store.cached → new.identity ≡ old.identity → write_after told taken ≡ None
      → Lines before after told taken old answer new → Performs before after told taken old answer new
  performs_by turn identity none line =
      performs_so (grind (arith, turn.goes_on)) identity (λ book fits ours. rw none (turn.cuts book fits ours)) line

-- ---- commands that use no blocks

-- a command that makes no call of the store
performs_none : {M : Type 0} {m : State} {old new : UnitValue M} {told : Result Command Sense} {taken : List ℕ}
    {answer : Result (List ℕ) Sense} → IsSound m → new.store ≡ old.store → new.identity ≡ old.identity → write_after told taken ≡ None
    → ((book : Book) → FitsBook m old.store.cached book
    → IsOutcome (has_refused m m) told taken (state_of old book) answer (settled answer (state_of new book)))
    → Performs m m told taken old answer new
performs_none {m = m} {old = old} sound store identity none outcome =
    performs_by (rw store (stays m old.store.cached sound)) identity none (λ book fits. (book, outcome book fits, rw store fits))

-- one that does what the table says, and one that is refused
pub by_table : {M : Type 0} {m : State} {old new : UnitValue M} {command : Command} {taken : List ℕ} {answer : Result (List ℕ) Sense}
    → IsSound m → new.store ≡ old.store → new.identity ≡ old.identity → write_of_command command taken ≡ None
    → ((book : Book) → FitsBook m old.store.cached book
    → IsByTable (effect_of command taken (state_of old book)) answer (settled answer (state_of new book)))
    → Performs m m (Ok command) taken old answer new
by_table sound store identity none line = performs_none sound store identity none (λ book fits. inl (line book fits))

pub refuses : {M : Type 0} {m : State} {old : UnitValue M} {taken : List ℕ} {sense : Sense} → IsSound m
    → Performs m m (Err sense) taken old (Err sense) old
refuses sound = performs_none sound refl refl refl (λ book fits. record { answered = refl; after = refl })

-- READ CAPACITY data are not cut by their own length
pub take-capacity_10 : (n : ℕ) → take 8 (capacity_10 n) ≡ capacity_10 n
unfolding capacity_10
take-capacity_10 n = refl

-- ---- commands that make accepted writes durable

-- the write of a WRITE of some blocks
pub some_is : (transfer : Transfer) (taken : List ℕ) → transfer.count ≢ 0 → some_write transfer taken ≡ Some (write_by transfer taken)
some_is transfer taken some = grind (arith, nat_tests)

some_wanted : (transfer : Transfer) → transfer.count ≢ 0 → moves_blocks transfer ≡ true
some_wanted transfer some = grind (arith, nat_tests)

-- a command that faulted the unit
pub faults : {M : Type 0} (before after : State) (old : UnitValue M) (last : StoreValue M) (command : Command) (taken : List ℕ)
    {sense : Sense} (book next : Book) → layout_of last.cached ≡ layout_of old.store.cached
    → MayFault (has_refused before after) (with_progress book (write_of_command command taken))
    → wants_writing command taken old.write_cache ≡ true → TellsDeath (Err sense) last.cached
    → (next ≡ book) ⊎ (next ≡ with_progress book (write_of_command command taken))
    → IsOutcome (has_refused before after) (Ok command) taken (state_of old book) (Err sense)
    (settled (Err sense) (state_of (record old { store = last }) next))
faults before after old last command taken book next layout cause writes dead accepted =
    let limit = limit_stays old.store.cached last.cached layout in
    inr (inr (record {
      cause = cause;
      writes = writes;
      answered = grind (arith, dead);
      book = next;
      accepted = accepted;
      after = grind (arith, limit, dead);
    }))

module _ {M : Type 0} {Comes : StoreValue M → StoreValue M → Type 0} {before after : State} {old : UnitValue M} {last : StoreValue M}
    {taken : List ℕ}
    (live : is_dead old.store.cached ≡ false) where
  -- they were to be, and were not
  pub dies_writing : {wanted : Bool} {sense : Sense} (command : Command)
      → MakesDurable Comes wanted before after old.store last (Err sense) → write_of_command command taken ≡ None
      → wants_writing command taken old.write_cache ≡ true
      → Performs before after (Ok command) taken old (Err sense) (record old { store = last })
  dies_writing command makes none writes =
      let on = makes.turn.goes_on in
      performs_by makes.turn refl none
      (λ book fits.
      let cause = may_fault before after old.store.cached book (on.cause live makes.answer.1) fits in (
        book,
        faults before after old last command taken book book on.layout_stays (rw none cause) writes makes.answer (inl refl),
        makes.turn.fits book fits,
      ))

  pub synchronizes : {range : BlockRange} (done : Result (Unit {0}) Sense) → MakesDurable Comes true before after old.store last done
      → Performs before after (Ok (command.SynchronizeCache10 range)) taken old (silent done) (record old { store = last })
  synchronizes (Ok value) makes =
      let limit = limit_stays old.store.cached last.cached makes.turn.goes_on.layout_stays in
      performs_by makes.turn refl refl (λ book fits. (promised book, inl (grind (arith, limit, live, makes.answer)), makes.ok book fits))
  synchronizes (Err sense) makes = dies_writing _ makes refl refl

  -- WCE changes, and they are, if that is wanted
  pub selects_bit : {value : Unit {0}} {size : ℕ} {enabled : Bool}
      → MakesDurable Comes (old.write_cache && not enabled) before after old.store last (Ok value)
      → selected_by size taken old.write_cache ≡ Ok enabled
      → Performs before after (Ok (command.ModeSelect size)) taken old (Ok []) (record old { store = last; write_cache = enabled })
  selects_bit {enabled = enabled} makes chosen =
      let limit = limit_stays old.store.cached last.cached makes.turn.goes_on.layout_stays in
      performs_by makes.turn refl refl
      (λ book fits. (
        if old.write_cache && not enabled then promised book else book,
        inl (grind (arith, limit, live, makes.answer, chosen)),
        makes.ok book fits,
      ))

  -- a write is not accepted: the store died
  pub write_refused : {sense : Sense} {transfer : Transfer} → WritesBlocks Comes transfer taken before after old.store last (Err sense)
      → transfer.count ≢ 0 → Performs before after (Ok (command.Write10 transfer)) taken old (Err sense) (record old { store = last })
  write_refused {transfer = transfer} writes some =
      let write = write_by transfer taken in
      let is = some_is transfer taken some in
      let on = writes.turn.goes_on in
      performs_so (grind (arith, on)) refl (λ book fits ours. rw is (writes.turn.cuts book fits ours))
      (λ book fits.
      let out = may_fault before after old.store.cached book (on.cause live writes.answer.1) fits in
      let cause : MayFault (has_refused before after) (with_write book write) =
      grind (arith, out, length-append book.writes (write ∷ [])) in (
        book,
        faults before after old last (command.Write10 transfer) taken book book on.layout_stays (rw is cause) (some_wanted transfer some)
            writes.answer (inl refl),
        writes.turn.fits book fits,
      ))

-- ---- commands that move blocks: a call of the store behind another

module _ {M : Type 0} {Comes : StoreValue M → StoreValue M → Type 0} {before mid after : State} {old : UnitValue M}
    {half last : StoreValue M} {taken : List ℕ}
    {value : Unit {0}} {transfer : Transfer} (live : is_dead old.store.cached ≡ false) (some : transfer.count ≢ 0) where
  -- READ: accepted writes are durable, if that is wanted, and blocks are read
  pub reads_blocks_of : (result : Result ℕ Sense) (out : List ℕ)
      → MakesDurable Comes transfer.fua before mid old.store half (Ok value) → ReadsBlocks Comes transfer mid after half last out result
      → Performs before after (Ok (command.Read10 transfer)) taken old (answer_of result out) (record old { store = last })
  reads_blocks_of (Ok sent) out makes reads =
      let turn = turns before mid after old.store.cached half.cached last.cached makes.turn reads.turn in
      let limit = limit_stays old.store.cached last.cached turn.goes_on.layout_stays in
      performs_by turn refl refl
      (λ book fits.
      let next = if transfer.fua then promised book else book in
      let read = reads.ok next (makes.ok book fits) in (
        next,
        inl (grind (arith, nat_tests, limit, read, reads.sent_all, live, some, makes.answer, reads.stays)),
        reads.turn.fits next (makes.ok book fits),
      ))
  reads_blocks_of (Err sense) out makes reads =
      let turn = turns before mid after old.store.cached half.cached last.cached makes.turn reads.turn in
      let limit = limit_stays old.store.cached last.cached turn.goes_on.layout_stays in
      let grew = makes.turn.goes_on.failures_stay in
      performs_by turn refl refl
      (λ book fits. (
        book,
        inr (inl (grind (arith, nat_tests, limit, live, some, makes.answer, reads.stays, reads.err, grew, refused_so before after))),
        turn.fits book fits,
      ))

  -- WRITE: the write is accepted, and all accepted writes are made durable, if that is wanted
  module _ (writes : WritesBlocks Comes transfer taken before mid old.store half (Ok value)) where
    accepted_line : (done : Result (Unit {0}) Sense) → MakesDurable Comes (transfer.fua || not old.write_cache) mid after half last done
        → Stays before after old.store.cached last.cached
        → Lines before after (Ok (command.Write10 transfer)) taken old (silent done) (record old { store = last })
    accepted_line (Ok v) makes stay book fits =
        let next = with_write book (write_by transfer taken) in
        let limit = limit_stays old.store.cached last.cached stay.layout in (
          if transfer.fua || not old.write_cache then promised next else next,
          inl (grind (arith, nat_tests, limit, live, some, makes.answer)),
          makes.ok next (writes.turn.fits book fits),
        )
    accepted_line (Err sense) makes stay book fits =
        let next = with_write book (write_by transfer taken) in
        let is = some_is transfer taken some in
        let fitted = writes.turn.fits book fits in
        let cause = may_fault mid after half.cached next (makes.turn.goes_on.cause writes.answer makes.answer.1) fitted in (
          next,
          faults before after old last (command.Write10 transfer) taken book next stay.layout
              (rw is (grind (arith, nat_tests, cause, writes.turn.goes_on.failures_stay))) (some_wanted transfer some) makes.answer
              (inr (rw is refl)),
          makes.turn.fits next fitted,
        )

    pub writes_blocks : (done : Result (Unit {0}) Sense)
        → MakesDurable Comes (transfer.fua || not old.write_cache) mid after half last done
        → Performs before after (Ok (command.Write10 transfer)) taken old (silent done) (record old { store = last })
    writes_blocks done makes =
        let write = write_by transfer taken in
        let on = writes.turn.goes_on in
        let further = makes.turn.goes_on in
        let stay : Stays before after old.store.cached last.cached = grind (arith, on, further) in
        performs_so stay refl
        (λ book fits ours. rw (some_is transfer taken some)
        (joined_same (Found before.size book write) before mid after (writes.turn.cuts book fits ours)
        (weaker (MayFind mid.size (with_write book write)) (Found before.size book write) mid after
        (λ image found. inr (rw on.size_stays at found))
        (makes.turn.cuts (with_write book write) (writes.turn.fits book fits) ours))))
        (accepted_line done makes stay)

-- ---- a command that was performed, and whose sense is kept

pub serves : {M : Type 0} {before after : State} {block taken : List ℕ} {old mid : UnitValue M} {answer : Result (List ℕ) Sense}
    → Performs before after (command_for old block) taken old answer mid → mid.store.goes_ahead ≡ old.store.goes_ahead
    → Serves before after block taken old answer (record mid { kept = settled_kept answer mid.kept })
serves done policy = record {
  line = λ book fits. let found = done.line book fits in (found.0, rw fits.blocks at found.1, found.2);
  cuts = λ book fits ours. rw fits.blocks at (done.cuts book fits ours);
  failures_stay = done.failures_stay;
  size_stays = done.size_stays;
  layout_stays = done.layout_stays;
  keeps_stays = done.keeps_stays;
  blocks_stay = done.blocks_stay;
  limit_stays = done.limit_stays;
  policy_stays = policy;
  identity_stays = done.identity_stays;
}
