-- Lives of a disk over a medium in memory, from the first on.
use Rattle.std.proofs.Common.{◌≡◌, ℕ, Bool, false, List, [], ◌∷◌, ◌++◌, Option, refl, ap, ◌∙◌, arith}
use Rattle.std.specs.{Prelude.All, Io.KnownBytes.IsAtEnd}
use Rattle.medium.specs.{Medium.CutLeaves, Sim.{Sim, state_of}}
use Rattle.bot_machine.specs.{StartFaults.StartFault, Device.{presented, Device}, Books.StandsAs, Starting.StandsForSome}
use Rattle.bot_machine.specs.{declared.lives.disk_state.DiskState.DiskState, declared.lives.disk_state.DiskState.TheVariants.Stopped}
use Rattle.bot_machine.specs.Lifetimes.{KeepsPromise, KeepsPromiseUpTo, IsRefusedFor}
use Rattle.bot_machine.specs.LivesValue.{LivesValue, LivesRefuseStart, HasLimit, FitsLives, OpensOn, faults_armed}
use Rattle.bot_machine.specs.Moving.{medium_in, has_refused, MovesBy}
use Rattle.bot_machine.proofs.{LifeRuns.{first_fits, more_refused}, Moved.few_causes, Runs.refused_events-append}
use Rattle.logical_blocks.specs.Book.{Book}
use Rattle.spec.specs.{declared.event.Answer.Answer, Promise.{first_standing, AreKept, AreKeptUpTo}}
use Rattle.spec.specs.{Disks.prompt_disk, Lives.{Action, plays, Standing, LivesRun}}
use Rattle.usbdisk.specs.{declared.runner.fault.ScriptFault.ScriptFault, declared.runner.fault.ScriptFault.TheVariants.{Start, Writer}}
use Rattle.usbdisk.specs.{runner.Lifetimes.{LineActs, AreMoved, AreStopped, AwaitsLife}, declared.runner.line.ScriptKind.TheVariants.Lives}
use Rattle.usbdisk.specs.{runner.Line.IsScriptLine, runner.Lines.lines_of, runner.Outcome.{IsRead, HasTaken}}
use Rattle.usbdisk.specs.runner.OutcomeOfLives.{ArePlayed, AreRefused}
use Rattle.usbdisk.specs.{runner.PlayedLives.{Acted, EndsBy, PlaysAll, PlaysUpTo}, runner.Script.{StopsAt, device}}
use Rattle.usbdisk.specs.declared.runner.fault.ScriptError.{ScriptError as ErrorOf}

-- no life has been yet
abbrev pub first_over : ℕ → Sim → LivesValue
first_over most medium = record { device = device most; state = Stopped medium }

-- where nothing is done, nothing moves, and lives stand where they stood
not_moved : (disk : Device) (refusals : List Bool) (old new : DiskState) → MovesBy disk old [] [] refusals new → new ≡ old
not_moved disk [] old new moves = moves.1
not_moved disk (refused ∷ refusals) old new moves = absurd moves

stays : (disk : Device) (refusals : List Bool) (old new : Standing prompt_disk) → LivesRun (presented disk) old [] [] refusals new
    → new ≡ old
stays disk [] old new run = run.1
stays disk (refused ∷ refusals) old new run = absurd run

module _ (most : ℕ) (medium : Sim) (awaits : AwaitsLife medium) where
  fits : (limit : ℕ) (book : Book) → OpensOn (state_of medium) book → HasLimit (state_of medium).size limit (state_of medium).content
      → FitsLives (first_over most medium) (first_standing limit book)
  fits limit book opens has = first_fits medium (device most) limit book awaits.rests awaits.unfused opens has

  module _ (actions : List Action) (answers : List Answer) (new : LivesValue)
      (acted : Acted (first_over most medium) actions answers new) where
    kept_from : (limit : ℕ) (book : Book) → OpensOn (state_of medium) book → HasLimit (state_of medium).size limit (state_of medium).content
        → AreKept prompt_disk (StandsForSome (state_of medium).size) (StandsAs (state_of medium).size) (HasLimit (state_of medium).size)
        (presented (device most)) limit book actions answers acted.goes_on.refusals
        (CutLeaves (state_of (medium_in new.state)).may_leave)
    kept_from limit book opens has =
        let on = acted.goes_on in
        let g = on.goes (first_standing limit book) (fits limit book opens has) in
        record {
          last = g.there;
          run = rw on.device_stays at g.run;
          limited = λ ours image cut. rw (← on.size_stays, ← g.limit_stays ours) (g.fits.limited (g.ours ∙ ours) image cut);
          found = λ ours image cut. rw (← on.size_stays) (g.fits.found (g.ours ∙ ours) image cut);
        }

    keep : KeepsPromise medium (device most) actions answers (medium_in new.state)
    keep = record {
      refusals = acted.goes_on.refusals;
      few = acted.goes_on.refused;
      caused = few_causes medium (medium_in new.state) actions acted.goes_on.refusals acted.goes_on.caused;
      lives = kept_from;
    }

    moved : AreMoved most medium (medium_in new.state) actions answers keep.refusals
    unfolding keep
    moved = record {
      fits = acted.fits false (λ _. (awaits.unfused, awaits.rests.on));
      state = new.state;
      moves = acted.goes_on.moves;
      left = refl;
      size_stays = acted.goes_on.size_stays;
    }

  module _ (actions : List Action) (answers : List Answer) (mid new : LivesValue) (fault : StartFault)
      (acted : Acted (first_over most medium) actions answers mid) (refused : LivesRefuseStart mid fault new) where
    abbrev size : ℕ
    size = (state_of medium).size

    size_stays : (state_of (medium_in new.state)).size ≡ size
    size_stays = refused.stops.size_stays ∙ acted.goes_on.size_stays

    stopped_at : (limit : ℕ) (book : Book) → OpensOn (state_of medium) book → HasLimit size limit (state_of medium).content
        → AreKeptUpTo prompt_disk (StandsForSome size) (StandsAs size) (HasLimit size) (presented (device most)) limit book actions answers
        acted.goes_on.refusals (CutLeaves (state_of (medium_in new.state)).may_leave)
    stopped_at limit book opens has =
        let on = acted.goes_on in
        let g = on.goes (first_standing limit book) (fits limit book opens has) in
        let l = refused.stops.goes g.there g.fits in
        record {
          last = g.there;
          run = rw on.device_stays at g.run;
          next = l.book;
          opens = rw (stays new.device refused.stops.refusals g.there l.there l.run) at l.opens;
          limited = λ ours image cut. rw (← size_stays, ← g.limit_stays ours) (l.limited (l.ours ∙ g.ours ∙ ours) image cut);
          found = λ ours image cut. rw (← size_stays) (l.found (l.ours ∙ g.ours ∙ ours) image cut);
        }

    keeps : KeepsPromiseUpTo medium (device most) actions answers (medium_in new.state)
    keeps =
        let on = acted.goes_on in
        let stop = refused.stops in
        let first = on.refused in
        let then = stop.refused in
        let cause = on.caused in
        let last = stop.caused in
        let none : faults_armed [] ≡ 0 = refl in
        let joined = refused_events-append on.refusals (stop.in_start ∷ []) in
        let more = refused_events-append stop.refusals (stop.in_start ∷ []) in
        record {
          refusals = on.refusals;
          in_start = stop.in_start;
          few = omega (arith, first, then, joined, more);
          caused = omega (arith, cause, last, none, joined, more);
          lives = stopped_at;
        }

    refused_for : IsRefusedFor medium (device most) actions answers fault (medium_in new.state) keeps
    unfolding keeps stopped_at
    refused_for limit book opens has ours =
        let on = acted.goes_on in
        let g = on.goes (first_standing limit book) (fits limit book opens has) in
        let l = refused.stops.goes g.there g.fits in
        let fewer = on.refused in
        more_refused l.book fault _ _ _ (omega (arith, fewer)) (l.cause (l.ours ∙ g.ours ∙ ours))

    are_stopped : AreStopped most medium (medium_in new.state) actions answers fault keeps
    unfolding keep moved keeps
    are_stopped =
        let stop = refused.stops in
        let same = not_moved mid.device stop.refusals mid.state (Stopped stop.at) stop.moves in
        record {
          mid = medium_in mid.state;
          were_kept = keep actions answers mid acted;
          same = refl;
          in_start_is = stop.counted ∙ ap (λ (s : DiskState). has_refused (state_of (medium_in s)) (state_of (medium_in new.state))) same;
          moved = moved actions answers mid acted;
          rests = rw (← same) refl;
          start = rw (← same) stop.start;
          refused = refused_for;
          size_stays = size_stays;
        }

  module _ (left was now : Option (List ℕ)) (script : List ℕ) (read : IsRead left script)
      (good : All (IsScriptLine Lives most) (lines_of script)) where
    pub are_played : (after : Sim) → PlaysAll was now (first_over most medium) most (lines_of script) after
        → ArePlayed most left was now medium after
    are_played after all = rw (← all.left) (record {
      promise = record {
        script = script;
        read = read;
        actions = all.actions;
        acts = all.acts;
        answers = all.tells.answers;
        written = all.tells.written;
        kept = keep all.actions all.tells.answers all.new all.tells.acted;
      };
      moved = moved all.actions all.tells.answers all.new all.tells.acted;
    })

    ended : (first part : List Action) (last : Action) (answers : List Answer) (new : LivesValue) (fault : ScriptFault)
        → StopsAt (LineActs most) (lines_of script) first part last
        → EndsBy was now (first_over most medium) (first ++ part) answers last new fault
        → AreRefused most left was now medium fault (medium_in new.state)
    ended first part last answers new (Start fault) stops ends = record {
      promise = record {
        script = script;
        read = read;
        good = good;
        first = first;
        part = part;
        stops = rw ends.is at stops;
        answers = answers;
        written = ends.written;
        kept = keeps (first ++ part) answers ends.mid new fault ends.acted ends.refused;
      };
      stopped = are_stopped (first ++ part) answers ends.mid new fault ends.acted ends.refused;
    }
    ended first part last answers new Writer stops ends = record {
      promise = record {
        script = script;
        read = read;
        good = good;
        first = first;
        part = part;
        event = ends.event;
        stops = rw ends.is at stops;
        answers = answers;
        answer = ends.answer;
        written = ends.written;
        kept = keep ((first ++ part) ++ plays ends.event ∷ []) (answers ++ ends.answer ∷ []) new ends.acted;
      };
      moved = moved ((first ++ part) ++ plays ends.event ∷ []) (answers ++ ends.answer ∷ []) new ends.acted;
    }
    ended first part last answers new _ stops ends = absurd ends

    pub are_refused : (fault : ScriptFault) (back : Sim) → PlaysUpTo was now (first_over most medium) most (lines_of script) fault back
        → AreRefused most left was now medium fault back
    are_refused fault back up_to = rw (← up_to.left)
        (ended up_to.first up_to.part up_to.last up_to.answers up_to.new fault up_to.stops up_to.ends)

-- a script that was played up to a fault was read to its end
pub taken_up_to : (most : ℕ) (was now : Option (List ℕ)) (lives : LivesValue) (lines : List (List ℕ)) (error : ErrorOf Sim)
    (all rest : Option (List ℕ)) → PlaysUpTo was now lives most lines error.fault error.medium → IsAtEnd rest
    → HasTaken error.fault all rest
taken_up_to most was now lives lines error all rest up_to ended =
    by_fault error.fault (up_to.first ++ up_to.part) up_to.answers up_to.last up_to.new up_to.ends
  where
    by_fault : (fault : ScriptFault) (actions : List Action) (answers : List Answer) (last : Action) (new : LivesValue)
        → EndsBy was now lives actions answers last new fault → HasTaken fault all rest
    by_fault (Start fault) actions answers last new ends = ended
    by_fault Writer actions answers last new ends = ended
    by_fault _ actions answers last new ends = absurd ends
