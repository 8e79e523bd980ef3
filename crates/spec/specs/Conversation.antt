-- The conversation of a host and a disk:
-- the events matched in order against the exchanges that the wrappers begin.
use Rattle.std.specs.Prelude.{◌≡◌, ◌≢◌, ◌⊎◌, ◌<◌, ◌≤◌, ℕ, ◌+◌, ◌-◌, min, Bool, true, false, List}
use Rattle.std.specs.Prelude.{[], ◌∷◌, ◌++◌, length, take, None, Result, IfOk}
use Rattle.spec.specs.declared.wrapper.Cbw.{Cbw}
use Rattle.spec.specs.declared.way.Way.{Way}
use Rattle.spec.specs.declared.case.Case.{Case}
use Rattle.spec.specs.declared.status.Status.TheVariants.{PhaseError}
use Rattle.spec.specs.CommandWrapper.{SpellsCommand, SpellsNone}
use Rattle.spec.specs.StatusWrapper.{status_wrapper}
use Rattle.spec.specs.Cases.{IsCase, size_of_way}
use Rattle.spec.specs.declared.event.Event.{Event}
use Rattle.spec.specs.declared.event.Answer.{Answer}
use Rattle.spec.specs.declared.event.Answer.TheVariants.{Ack, Nak, Stall, Ticked}
use Rattle.spec.specs.Requests.{Request, setup_packet}
use Rattle.spec.specs.Exchange.{Script, finished, taking, sending, Line, laid_out, in_answer}
use Rattle.spec.specs.Exchange.{after_in, request_answer, after_request, Moment, at_once}
use Rattle.spec.specs.Exchange.{after_data, never, moment_of, told, told_at_once}
use Rattle.spec.specs.declared.way.Way.TheVariants as ways
use Rattle.spec.specs.declared.event.Event.TheVariants as event

-- the line to the host, and the state of the unit behind it
pub record Conversation (S : Type 0) : Type 0 where
  pub line : Line
  pub unit : S

-- a setup packet that asks for a request
pub record IsAsked (request : Request) (packet : List ℕ) (old : Line) (answer : Answer) (new : Line)
    : Type 0 where
  pub spelled : packet ≡ setup_packet request
  pub answered : answer ≡ request_answer request old
  pub after : new ≡ after_request request old

-- a setup packet that spells no request
pub record IsRefusedRequest (packet : List ℕ) (old : Line) (answer : Answer) (new : Line)
    : Type 0 where
  pub unknown : (request : Request) → packet ≢ setup_packet request
  pub answered : answer ≡ Stall
  pub after : new ≡ old

-- a setup packet
abbrev pub SetupStep : List ℕ → Line → Answer → Line → Type 0
SetupStep packet old answer new =
    ((request : Request) × IsAsked request packet old answer new)
    ⊎ IsRefusedRequest packet old answer new

-- What a unit in some state intends for a command block; how it carries one out, over the bytes
-- taken, where its medium refused a call or refused none; and what its steps in the background do.
module _ {S F : Type 0} (Intends : S → List ℕ → Way → Type 0)
    (CarriesOut : Bool → List ℕ → List ℕ → S → Result (List ℕ) F → S → Type 0)
    (Ticks : Bool → S → S → Type 0) (refused : Bool) where
  -- the command is carried out over these bytes; a good one gives as many as it intended to send
  pub record IsCarriedOut (case : Case) (command : Cbw) (intended : Way) (bytes : List ℕ)
      (old new : Conversation S) : Type 0 where
    pub answer : Result (List ℕ) F
    pub effect : CarriesOut refused command.block.items bytes old.unit answer new.unit
    pub moved : (n : ℕ) → intended ≡ ways.In n → IfOk answer (λ sent. length sent ≡ n)
    pub after : new.line ≡ told case command intended answer old.line

  -- the exchange that a case begins
  abbrev pub Begins : Moment → Case → Cbw → Way → Conversation S → Conversation S → Type 0
  Begins at_once case command intended old new = IsCarriedOut case command intended [] old new
  Begins after_data case command intended old new =
      (new.unit ≡ old.unit)
      × (new.line ≡ record old.line {
        left = taking case command intended [] (size_of_way command.host);
      })
  Begins never case command intended old new =
      (new.unit ≡ old.unit)
      × (new.line ≡ told_at_once case command intended PhaseError old.line)

  -- a packet that spells a command wrapper
  pub record OpensExchange (packet : List ℕ) (old new : Conversation S) : Type 0 where
    pub command : Cbw
    pub intended : Way
    pub case : Case
    pub spelled : SpellsCommand packet command
    pub intends : Intends old.unit command.block.items intended
    pub is_case : IsCase case command.host intended
    pub begins : Begins (moment_of case) case command intended old new

  -- a packet that spells none
  pub record Locks (packet : List ℕ) (old new : Conversation S) : Type 0 where
    pub unknown : SpellsNone packet
    pub unit : new.unit ≡ old.unit
    pub after : new.line ≡ record old.line { in_halted = true; out_halted = true; locked = true }

  -- a packet of the data that is not the last one
  pub record TakesMore (case : Case) (command : Cbw) (intended : Way) (bytes : List ℕ) (due : ℕ)
      (packet : List ℕ) (old new : Conversation S) : Type 0 where
    pub size : length packet ≡ old.line.packet_size
    pub more : old.line.packet_size < due
    pub unit : new.unit ≡ old.unit
    pub after : new.line ≡ record old.line {
      left = taking case command intended (take (size_of_way intended) (bytes ++ packet))
          (due - old.line.packet_size);
    }

  -- the last packet of the data
  pub record TakesLast (case : Case) (command : Cbw) (intended : Way) (bytes : List ℕ) (due : ℕ)
      (packet : List ℕ) (old new : Conversation S) : Type 0 where
    pub size : length packet ≡ due
    pub last : due ≤ old.line.packet_size
    pub carried_out :
        IsCarriedOut case command intended (take (size_of_way intended) (bytes ++ packet)) old new

  -- a packet of another length than is due
  pub record BreaksOff (command : Cbw) (due : ℕ) (packet : List ℕ) (old new : Conversation S)
      : Type 0 where
    pub size : length packet ≢ min old.line.packet_size due
    pub unit : new.unit ≡ old.unit
    pub after : new.line ≡ laid_out [] None (status_wrapper command.tag due PhaseError) old.line

  -- a packet where data is expected
  abbrev pub Takes : Case → Cbw → Way → List ℕ → ℕ → List ℕ → Conversation S → Conversation S
      → Type 0
  Takes case command intended bytes due packet old new =
      TakesMore case command intended bytes due packet old new
      ⊎ (TakesLast case command intended bytes due packet old new
      ⊎ BreaksOff command due packet old new)

  -- a packet to Bulk-Out, which is halted or not
  abbrev pub OutStep : Bool → Script → List ℕ → Conversation S → Answer → Conversation S → Type 0
  OutStep true left packet old answer new = (answer ≡ Stall) × (new ≡ old)
  OutStep false finished packet old answer new =
      (answer ≡ Ack) × (OpensExchange packet old new ⊎ Locks packet old new)
  OutStep false (taking case command intended bytes due) packet old answer new =
      (answer ≡ Ack) × Takes case command intended bytes due packet old new
  OutStep false (sending packets halt status) packet old answer new = (answer ≡ Nak) × (new ≡ old)

  -- one event, its answer, and the state after it; a step in the background leaves the line
  abbrev pub Step : Conversation S → Event → Answer → Conversation S → Type 0
  Step old (event.Out packet) answer new =
      OutStep old.line.out_halted old.line.left packet.items old answer new
  Step old event.In answer new =
      (answer ≡ in_answer old.line) × (new ≡ record old { line = after_in old.line })
  Step old (event.Setup packet) answer new =
      SetupStep packet old.line answer new.line × (new.unit ≡ old.unit)
  Step old event.Tick answer new =
      (answer ≡ Ticked) × Ticks refused old.unit new.unit × (new.line ≡ old.line)

module _ {S F : Type 0} (Intends : S → List ℕ → Way → Type 0)
    (CarriesOut : Bool → List ℕ → List ℕ → S → Result (List ℕ) F → S → Type 0)
    (Ticks : Bool → S → S → Type 0) where
  -- events and their answers, in order; the truth values say in which the medium refused a call
  abbrev pub Run : Conversation S → List Event → List Answer → List Bool → Conversation S → Type 0
  Run old [] [] [] new = new ≡ old
  Run old (event ∷ events) (answer ∷ answers) (refused ∷ refusals) new =
      (mid : Conversation S) × Step Intends CarriesOut Ticks refused old event answer mid
      × Run mid events answers refusals new
  Run _ _ _ _ _ = ⊥

-- how many of the events have a refused call
abbrev pub refused_events : List Bool → ℕ
refused_events [] = 0
refused_events (true ∷ refusals) = refused_events refusals + 1
refused_events (false ∷ refusals) = refused_events refusals
