-- Events that are played and told, one after another.
use Rattle.std.proofs.Common.{◌≡◌, ℕ, Option, List, [], ◌∷◌, ◌++◌, append_assoc, append-nil}
use Rattle.std.{proofs.KnownBytes.{Appends-kept, Appends-nil, Appends-trans}, specs.Io.KnownBytes.Appends}
use Rattle.spec.specs.{declared.event.Event.Event, declared.event.Answer.Answer}
use Rattle.usbdisk.specs.{runner.Text.{line_for, text_of}, runner.Players.IsPlayer, runner.Played.TellsBy}
use Rattle.usbdisk.specs.runner.Served.{EndsBy, IsPlayedInPart, IsUnanswered}
use Rattle.usbdisk.specs.{declared.runner.player.ServeFault.ServeFault, declared.runner.player.ServeFault.TheVariants.{Writer, Player}}
use Rattle.usbdisk.proofs.{Known.{AppendsUpTo-more, AppendsSome-more}, Runs.text_of-append}

module _ {D : Type 0} {Goes : D → List Event → List Answer → D → Type 0} {most : D → ℕ} (laws : IsPlayer Goes most) where
  pub tells-none : (was : Option (List ℕ)) (d : D) → TellsBy Goes was was d [] d
  tells-none was d = record { answers = []; goes = laws.none d; written = Appends-nil was }

  pub tells-one : (was now : Option (List ℕ)) (old new : D) (event : Event) (answer : Answer)
      → Goes old (event ∷ []) (answer ∷ []) new → Appends was now (line_for event answer) → TellsBy Goes was now old (event ∷ []) new
  tells-one was now old new event answer goes written = record {
    answers = answer ∷ [];
    goes = goes;
    written = rw (append-nil (line_for event answer)) written;
  }

  -- events were played and told
  module _ {was mid : Option (List ℕ)} {old between : D} {first : List Event} (done : TellsBy Goes was mid old first between) where
    -- the size of packets stays
    pub most_stays : most between ≡ most old
    most_stays = laws.most_stays old between first done.answers done.goes

    joined : (rest : List Event) (more : List Answer)
        → text_of (first ++ rest) (done.answers ++ more) ≡ text_of first done.answers ++ text_of rest more
    joined rest more = text_of-append first rest done.answers more (laws.one_each old between first done.answers done.goes)

    -- and so were others
    pub tells-more : {now : Option (List ℕ)} {new : D} {rest : List Event} → TellsBy Goes mid now between rest new
        → TellsBy Goes was now old (first ++ rest) new
    tells-more {now} {new} {rest} next = record {
      answers = done.answers ++ next.answers;
      goes = laws.through old between new first rest done.answers next.answers done.goes next.goes;
      written = rw (joined rest next.answers)
          (Appends-trans was mid now (text_of first done.answers) (text_of rest next.answers) done.written next.written);
    }

    module _ (Stops : D → Event → D → Type 0) (count : ℕ) (now : Option (List ℕ)) (new : D) where
      -- others were played in part
      pub ends-more : (fault : ServeFault) (events : List Event) (event : Event)
          → EndsBy Goes Stops count mid now between new fault events event
          → EndsBy Goes Stops count was now old new fault (first ++ events) event
      ends-more Writer events event ends = record {
        answers = done.answers ++ ends.answers;
        answer = ends.answer;
        goes = rw (append_assoc first events (event ∷ []), append_assoc done.answers ends.answers (ends.answer ∷ []))
            (laws.through old between new first (events ++ event ∷ []) done.answers (ends.answers ++ ends.answer ∷ []) done.goes
            ends.goes);
        written = rw (joined events ends.answers)
            (AppendsUpTo-more was mid now (text_of first done.answers) (text_of events ends.answers) (line_for event ends.answer)
            done.written ends.written);
      }
      ends-more Player events event ends = record { mid = ends.mid; tells = tells-more ends.tells; stops = ends.stops }
      ends-more _ events event ends = absurd ends

      -- the next one was not answered, or its answer not written whole
      pub ends-here : (fault : ServeFault) (event : Event) → IsUnanswered Goes Stops count mid now between new event fault
          → EndsBy Goes Stops count was now old new fault first event
      ends-here Writer event (answer, goes, some) = record {
        answers = done.answers;
        answer = answer;
        goes = laws.through old between new first (event ∷ []) done.answers (answer ∷ []) done.goes goes;
        written = AppendsSome-more was mid now (text_of first done.answers) (line_for event answer) done.written some;
      }
      ends-here Player event (stops, kept) = record {
        mid = between;
        tells = record {
          answers = done.answers;
          goes = done.goes;
          written = Appends-kept was mid now (text_of first done.answers) done.written kept;
        };
        stops = stops;
      }
      ends-here _ event stopped = absurd stopped

    pub ends-behind : {Stops : D → Event → D → Type 0} {count : ℕ} {now : Option (List ℕ)} {new : D} {asked : List Event}
        {fault : ServeFault} (part : IsPlayedInPart Goes Stops count mid now between new asked fault)
        → EndsBy Goes Stops count was now old new fault (first ++ part.part) part.event
    ends-behind {Stops} {count} {now} {new} {asked} {fault} part = ends-more Stops count now new fault part.part part.event part.ends
