-- A device that has carried out all.
use Rattle.std.{proofs.Common.{◌≡◌, ◌≤◌, inl, true, length, arith, ap, length-append}, specs.Prelude.List}
use Rattle.medium.specs.Moments.{EachCut}
use Rattle.logical_blocks.specs.Book.{Book}
use Rattle.scsi.specs.Rules.{UnitState}
use Rattle.spec.specs.Lagging.{Lagging}
use Rattle.window.specs.{OutboxMedium.sent, declared.call.DeviceCall.DeviceCall, Window.{Window, state_of, mirror_of, ComesAfter}}
use Rattle.window.specs.WindowLaws.{is_sound, comes_after_itself}
use Rattle.scsi_unit.specs.Books.{MayFind}
use Rattle.bot_machine.specs.LaggingDisk.{StandsFor, held_book}
use Rattle.disk_machine.specs.{Parts.CoversParts, Plays.medium_of, Machine.{Machine}, Moves.{ServesAtRest, BeginsBehind}}
use Rattle.disk_machine.proofs.machine.DiskMachine.rest.Goals as goal

module _ (s : Machine) (parts : (new : Window) → ComesAfter (medium_of s.disk) new → CoversParts (medium_of s.disk) new)
    (at_rest : (book : Book) (c : Lagging UnitState) → StandsFor (state_of (medium_of s.disk)) s.disk book c → book.ours ≡ true
    → EachCut (MayFind (state_of (medium_of s.disk)).size (held_book s.disk book)) (state_of (medium_of s.disk))) where
  serves_at_rest : ServesAtRest s
  serves_at_rest up book c stands = record {
    stands = stands;
    keeps = λ ours image left.
        let m = medium_of s.disk in
        -- it was sent no more than it has carried out
        let no_more : length (sent (mirror_of m)) ≤ left.count = omega (
          arith,
          left.reaches,
          up.none_under_way,
          length-append m.seen.told.taken m.outbox,
          ap (λ (l : List DeviceCall). length l) up.none_waits,
        ) in
        inl (at_rest book c stands ours image ((is_sound m).only_now image
        (parts m (comes_after_itself m) left.count left.done image no_more left.are left.cut)));
    faulted = λ refused. absurd (cc (up.none_refused, refused));
  }

-- ---- at the start

-- where none was sent before, all that may be left is of the start
begins_behind : (s : Machine) → BeginsBehind s
begins_behind s first none covers image left =
    covers left.count left.done image (omega (arith, ap (λ (l : List DeviceCall). length l) none)) left.are left.cut

pub returns-clause-starts : goal.returns-clause-starts
returns-clause-starts c = begins_behind c.args.self.now

pub returns-clause-serves : goal.returns-clause-serves
returns-clause-serves c = serves_at_rest c.args.self.now c.foresee.ensures.parts c.medium.ensures.at_rest
