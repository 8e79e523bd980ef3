-- The blocks of a READ, as a line of the rules.
use Rattle.std.proofs.{Common.{◌≡◌, inl, inr, ℕ, false, List, Ok, Err, Result, arith, refl, ◌*◌}, lemmas.Bool.Decides.nat_tests}
use Rattle.std.proofs.lemmas.Bool.{cases_Bool}
use Rattle.medium.{proofs.SectorsRead.looks_wider, specs.Medium.State}
use Rattle.logical_blocks.specs.Book.{Book, promised}
use Rattle.scsi.specs.{Sense.Sense, declared.command.Command.Command}
use Rattle.blocks.{proofs.{BookTurns.settles, EmptyBatches.both_empty, ReadCalls.reads_few}, specs.{Looks.IsReadFor, Running.ComesBy}}
use Rattle.blocks.specs.StoreValue.{StoreValue, is_dead}
use Rattle.scsi_unit.proofs.{UnitTurns.{refused_so, limit_stays}, Intentions.meant_to_send, PendingSteps.over, WantedCommands.read_effect}
use Rattle.scsi_unit.proofs.WantedCommands.{read_some, read_within, read_moves, read_commits, read_forces, read_is}
use Rattle.scsi_unit.specs.{UnitValue.{UnitValue, state_of, answer_of, unit_limit}, Performing.settled_kept, StoreCalls.ReadsBlocks}
use Rattle.scsi_unit.specs.Pending.{FitsRead, HasEnded, GoOnPost, CanWant, commits, transfer_of}
use Rattle.scsi_unit.specs.declared.progress.Progress.TheVariants.{Done}
use Rattle.scsi_unit.specs.declared.progress.Want.TheVariants as want

-- the unit over this store, behind an answer
abbrev answered : {M : Type 0} → UnitValue M → StoreValue M → List ℕ → Result ℕ Sense → UnitValue M
answered old store out result = record old { store = store; kept = settled_kept (answer_of result out) old.kept }

module _ {M : Type 0} {state : M → State} {Follows : M → M → Type 0} (old : UnitValue M) (store : StoreValue M) (command : Command)
    (taken out : List ℕ) (live : is_dead old.store.cached ≡ false) (can : CanWant old command want.Read taken) where
  line : (result : Result ℕ Sense)
      → ReadsBlocks (ComesBy state Follows) (transfer_of command) (state old.store.medium) (state store.medium) old.store store out result
      → (book : Book) → FitsRead (state old.store.medium) old command taken book
      → HasEnded (state old.store.medium) (state store.medium) (Ok command) taken old (answer_of result out)
      (answered old store out result) book
  line (Ok sent) reads book f =
      let limit = limit_stays old.store.cached store.cached reads.turn.goes_on.layout_stays in
      let effect = read_effect command taken can.wanted (state_of old book) in
      let commits_by = read_commits command taken can.wanted old.write_cache in
      let some = read_some command taken can.wanted in
      let blocks = reads.ok book f.fits in
      elim (cases_Bool (commits command taken old.write_cache)) [
        | inl promises ↦
            let both = both_empty old.store.cached live (f.written promises) in
            over (state old.store.medium) (state store.medium) old store live command taken (answer_of (Ok sent) out)
            (answered old store out (Ok sent))
            book (promised book)
            (inl (grind (arith, nat_tests, limit, effect, commits_by, promises, some, blocks, reads.sent_all, live, reads.stays)))
            (reads.turn.fits (promised book) (settles both.0 both.1 f.fits))
        | inr plain ↦
            over (state old.store.medium) (state store.medium) old store live command taken (answer_of (Ok sent) out)
            (answered old store out (Ok sent))
            book book
            (inl (grind (arith, nat_tests, limit, effect, commits_by, plain, some, blocks, reads.sent_all, live, reads.stays)))
            (reads.turn.fits book f.fits)
      ]
  line (Err sense) reads book f =
      let limit = limit_stays old.store.cached store.cached reads.turn.goes_on.layout_stays in
      over (state old.store.medium) (state store.medium) old store live command taken (Err sense)
      (answered old store out (Err sense)) book book
      (inr (inl (grind (
        arith,
        nat_tests,
        limit,
        live,
        can.wanted,
        reads.stays,
        reads.err,
        refused_so (state old.store.medium) (state store.medium),
      ))))
      (reads.turn.fits book f.fits)

  pub reads_now : (result : Result ℕ Sense)
      → ReadsBlocks (ComesBy state Follows) (transfer_of command) (state old.store.medium) (state store.medium) old.store store out result
      → GoOnPost state Follows command want.Read taken old (Done result) out (answered old store out result)
  reads_now result reads =
      let t = transfer_of command in
      let few = (read_within command taken can.wanted _ _ can.supported).few in
      record {
        line = line result reads;
        cuts = λ book f. reads.turn.cuts book f.fits;
        promises = λ sent same is. rw (read_forces command taken can.wanted old.write_cache) at is;
        dead = λ dead. absurd (let none = live in cc);
        onward = refl;
        fewer = λ same. absurd (let e = same in cc);
        at_once = λ had. absurd had;
        not_again = λ had. absurd had;
        waits = λ next same. absurd (let e = same in cc);
        makes = record {
          calls = omega (arith, reads.calls, reads_few old.store.cached t.address t.count);
          sent = reads.sent;
          looks = rw (read_is command taken can.wanted)
              (looks_wider (IsReadFor old.store.cached t.address t.count) _ (state old.store.medium) (state store.medium) (λ x named. named)
              reads.looks);
        };
        sends = rw (read_moves command taken can.wanted)
            (meant_to_send (512 * t.count) (unit_limit old) result reads.sent_all (omega (arith, few)));
        keeps = record {
          goes_on = reads.turn.goes_on;
          identity = refl;
          policy = reads.follows.policy;
          follows = reads.follows.comes;
        };
      }
