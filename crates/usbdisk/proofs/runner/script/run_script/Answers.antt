use Rattle.std.proofs.{Common.{◌≡◌, ℕ, Bool, List, Option, ap, ap₂, ◌∙◌, refl, subst, arith}, KnownBytes.Keeps-refl}
use Rattle.std.{proofs.lemmas.Result.err_from_is_err_and, specs.Prelude.All}
use Rattle.medium.specs.Medium.{State}
use Rattle.logical_blocks.specs.Book.{opened}
use Rattle.scsi.specs.Rules.{UnitState}
use Rattle.spec.specs.{Conversation.Conversation, Exchange.Line, Packets.bytes_of}
use Rattle.spec.specs.{UnitConversation.{UnitRun, on_line}, declared.event.Event.Event, declared.event.Answer.Answer}
use Rattle.bot_machine.specs.{Starting.{blocks_of, layout_of}, Disk.{DiskValue, StepsThrough, over}, Opening.{IsOpened, StartLeaves}}
use Rattle.bot_machine.{specs.UnitValue.unit_limit, proofs.UnitLaws.between_calls}
use Rattle.usbdisk.specs.{declared.runner.line.ScriptKind.TheVariants.OneLife, declared.runner.player.ServeFault.ServeFault}
use Rattle.usbdisk.specs.runner.Line.{IsScriptLine}
use Rattle.usbdisk.specs.{runner.Lines.lines_of, runner.Outcome.{IsRead, IsPlayed, IsCutShort}}
use Rattle.usbdisk.specs.runner.Played.{StepsOn, HasNoAnswer, packets_of}
use Rattle.usbdisk.specs.{runner.Script.{IsLife, IsLeftBy, device, started}, runner.Served.{AreAnswered, StopsIn}}
use Rattle.usbdisk.proofs.{InTurn.of_all, NoScript.unplayed, Runs.answers_of}
use Rattle.usbdisk.specs.declared.runner.player.ServeFault.TheVariants as serve
use Rattle.usbdisk.proofs.runner.script.run_script.Goals as goal

-- a disk that has started, and then played events, lived a life
module _ {M : Type 0} (state : M → State) (Follows : M → M → Type 0) (most : ℕ) (medium : M) (disk : DiskValue M)
    (opens : IsOpened (state medium) (state disk.unit.store.medium) (device most) disk)
    (leaves : StartLeaves (state medium) (state disk.unit.store.medium)) where
  stays : packets_of disk ≡ most
  stays = ap (λ (l : Line). l.packet_size) opens.line

  module _ (events : List Event) (answers : List Answer) (refusals : List Bool) (new : DiskValue M)
      (steps : StepsThrough state disk events answers refusals new) where
    abbrev lived : IsLife most (state medium) (state new.unit.store.medium) events answers
    lived =
        let so = answers_of state events answers refusals disk new steps in
        let store = opens.store in record {
          shape = layout_of disk.unit.store.cached;
          array = store.array;
          next = store.next;
          stood = store.stood;
          refusals = refusals;
          refused = omega (arith, so.refused, leaves.bounded.moments.failures_stay);
          runs = λ ours each.
              let book = opened (blocks_of disk.unit.store.cached) store.array store.next ours in
              let ran = so.runs book (store.fits ours each) in
              let start : over disk book ≡ started most (unit_limit disk.unit) book = ap₂ on_line opens.line (opens.unit book) in (
                over new ran.0,
                subst (λ (c : Conversation UnitState). UnitRun c events answers refusals (over new ran.0)) start ran.1,
                λ is_ours. between_calls (state new.unit.store.medium) new.unit ran.0 ran.2 (ran.3 ∙ is_ours),
              );
        }

    left : IsLeftBy state most medium events answers refusals new.unit.store.medium
    left = record { first = disk; opens = opens; leaves = leaves; last = new; steps = steps; left = refl }

  module _ (left_of was now : Option (List ℕ)) (script : List ℕ) (read : IsRead left_of script) (new : DiskValue M) where
    played : AreAnswered (StepsOn state Follows) HasNoAnswer (packets_of disk) was now disk new (lines_of script)
        → IsPlayed state most left_of was now medium new.unit.store.medium
    played so =
        let tells = so.tells in
        let goes = tells.goes in record {
          script = script;
          read = read;
          events = so.events;
          plays = rw stays at so.plays;
          answers = tells.answers;
          life = lived so.events tells.answers goes.0 new goes.1;
          left_by = left so.events tells.answers goes.0 new goes.1;
          written = tells.written;
        }

    -- each line is one of a script, and each event has an answer
    cut_short : All (IsScriptLine OneLife most) (lines_of script) → (fault : ServeFault)
        → StopsIn (StepsOn state Follows) HasNoAnswer (packets_of disk) was now disk new script fault
        → IsCutShort state most left_of was now medium new.unit.store.medium
        × Follows disk.unit.store.medium new.unit.store.medium
    cut_short good serve.Writer so =
        let ends = so.ends in
        let goes = ends.goes in (
          record {
            script = script;
            read = read;
            good = good;
            first = so.first;
            part = so.part;
            event = so.event;
            stops = rw stays at so.stops;
            answers = ends.answers;
            answer = ends.answer;
            life = lived _ _ goes.0 new goes.1;
            left_by = left _ _ goes.0 new goes.1;
            written = ends.written;
          },
          goes.2,
        )
    cut_short good (serve.Line number) so =
        absurd (so.bad (rw (← stays) at (of_all (IsScriptLine OneLife most) so.before so.after so.line (rw so.parts at good))))
    cut_short good serve.Player so = absurd so.ends.stops
    cut_short good serve.Reader so = absurd so.ends

pub returns-in-Ok-served : goal.returns-in-Ok-served
returns-in-Ok-served g c =
    let m = g.M.Medium in
    let disk = c.in_ok-disk.disk in
    let opens = rw c.disk_identity.ensures at c.in_ok-disk.ensures.ok in
    let read = rw (← c.as_slice.ensures.value) at c.in-Ok.ensures.read in
    let so = c.in-Ok-served.ensures.answered in
    rw c.into_medium-medium.ensures (record {
      played = played m.state m.follows (bytes_of c.args.size) c.args.medium disk opens c.in_ok-disk.ensures.leaves _ _ _ _ read _ so;
      refused = tt;
      taken = c.in-Ok.ensures.taken;
      follows = g.met.M.Medium.follows_through _ _ _ c.in_ok-disk.ensures.medium.follows so.tells.goes.2;
    })

pub returns : goal.returns
returns g c =
    let m = g.M.Medium in
    let disk = c.in_ok-disk.disk in
    let opens = rw c.disk_identity.ensures at c.in_ok-disk.ensures.ok in
    let read = rw (← c.as_slice.ensures.value) at c.in-Ok.ensures.read in
    let good = rw (← c.as_slice.ensures.value) at c.in-Ok.ensures.good in
    let so = cut_short m.state m.follows (bytes_of c.args.size) c.args.medium disk opens c.in_ok-disk.ensures.leaves _ _ _ _ read _ good
    c.in-Err-served.field-0 c.in-Err-served.ensures.stopped in
    rw c.into_medium-medium.ensures (record {
      played = tt;
      refused = so.0;
      taken = c.in-Ok.ensures.taken;
      follows = g.met.M.Medium.follows_through _ _ _ c.in_ok-disk.ensures.medium.follows so.1;
    })

pub returns-in_err-disk : goal.returns-in_err-disk
returns-in_err-disk g c =
    let p = err_from_is_err_and c.from_residual.result c.from_residual.ensures.1 in
    rw (p.1, p.2) (record {
      played = tt;
      refused = record {
        script = c.in-Ok.script.items;
        read = c.in-Ok.ensures.read;
        good = c.in-Ok.ensures.good;
        refused = c.in_err-disk.ensures.err;
        leaves = c.in_err-disk.ensures.leaves;
        kept = Keeps-refl (g.W.Write.contents c.args.out.now);
      };
      taken = c.in-Ok.ensures.taken;
      follows = c.in_err-disk.ensures.medium.follows;
    })

pub returns-in-Err-clause-refused : goal.returns-in-Err-clause-refused
returns-in-Err-clause-refused g c = unplayed OneLife (bytes_of c.args.size) _ _ c.args.medium _ _ c.in-Err.fault c.in-Err.ensures.refused

pub returns-in-Err-clause-follows : goal.returns-in-Err-clause-follows
returns-in-Err-clause-follows g c = g.met.M.Medium.follows_itself c.args.medium
