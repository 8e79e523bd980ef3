-- Hosts and units have conversations of which the laws speak.
use Rattle.std.proofs.Common.{◌≡◌, ◌⊎◌, inl, inr, ⊎_elim, ℕ, Bool, true, false, List, [], ◌∷◌, refl, sym}
use Rattle.std.proofs.Common.{rules, Result, Ok, Err}
use Rattle.std.specs.Prelude.{replicate, None, Some}
use Rattle.logical_blocks.specs.Book.{StampsOut}
use Rattle.scsi.specs.{Sense.Sense, Commands.{command_of, form_tests}, Rules.{UnitState, CarriesOut, Ticks, command_by, intention_by}}
use Rattle.scsi.specs.Rules.{gives, fails_with, Effect}
use Rattle.spec.specs.{CommandWrapper.SpellsCommand, declared.{wrapper.Cbw.Cbw, way.Way.TheVariants.Nothing, case.Case.TheVariants.C1}}
use Rattle.spec.specs.{Exchange.{at_rest, sending, told}, Conversation.{Conversation, IsCarriedOut, OpensExchange}}
use Rattle.spec.specs.{UnitConversation.{on_line, UnitRun, UnitStep, Intends, way_of}, declared.event.Event.{Event, TheVariants.In}}
use Rattle.spec.specs.declared.event.Event.TheVariants as event
use Rattle.scsi.specs.declared.command.Command.TheVariants.{TestUnitReady}
use Rattle.spec.specs.declared.event.Answer.{Answer, TheVariants.{Ack, Data}}
use Rattle.transport_laws.specs.{Striking.IsUntroubled, Transfers.{Transfer, packet_out, events_of, heard_in}}
use Rattle.spec.specs.Lagging.{settled}
use Rattle.transport_laws.{specs.{HiddenLag.UndroppedRun, Witnesses.ConversationWitness}, proofs.Packets.packets_of-none}

-- ---- a conversation: TEST UNIT READY of the unit 0, with tag 1, which announces no data

abbrev wrapper : List ℕ
wrapper = 0x55 ∷ 0x53 ∷ 0x42 ∷ 0x43 ∷ 1 ∷ 0 ∷ 0 ∷ 0 ∷ 0 ∷ 0 ∷ 0 ∷ 0 ∷ 0 ∷ 0 ∷ 6 ∷ replicate 16 0

abbrev block : List ℕ
block = replicate 6 0

abbrev command : Cbw
command = record { tag = 1; host = Nothing; block = record { items = block } }

spelled : SpellsCommand wrapper command
spelled = search rules

-- it passes the checks, or it is refused
ready_or_not : (blocks limit : ℕ) (attention faulted : Bool) → (command_by blocks limit attention faulted block ≡ Ok TestUnitReady)
    ⊎ ((sense : Sense) × (command_by blocks limit attention faulted block ≡ Err sense))
unfolding command_by command_of form_tests
ready_or_not blocks limit true faulted = inr (_, refl)
ready_or_not blocks limit false true = inr (_, refl)
ready_or_not blocks limit false false = inl refl

moves_nothing : (blocks limit : ℕ) (attention faulted : Bool) → Nothing ≡ way_of (intention_by blocks limit attention faulted block)
unfolding intention_by
moves_nothing blocks limit attention faulted =
    ⊎_elim (λ is. rw is refl) (λ is. rw is.1 refl) (ready_or_not blocks limit attention faulted)

carried_out : (unit : UnitState) → (answer : Result (List ℕ) Sense) × (after : UnitState) × CarriesOut false block [] unit answer after
    × (after.book ≡ unit.book)
carried_out unit = elim (ready_or_not unit.book.blocks unit.limit unit.kept.attention unit.faulted) [
  | inl is ↦
      let done : Effect = gives [] unit in (done.answer, done.after, rw is (inl (record { answered = refl; after = refl })), refl)
  | inr is ↦
      let done : Effect = fails_with is.0 unit in (done.answer, done.after, rw is.1 (record { answered = refl; after = refl }), refl)
]

status_alone : (size : ℕ) (answer : Result (List ℕ) Sense) → (status : List ℕ)
    × (told C1 command Nothing answer (at_rest size) ≡ record (at_rest size) { left = sending [] None status })
status_alone size (Ok bytes) = (_, refl)
status_alone size (Err sense) = (_, refl)

-- the wrapper begins the exchange, and the status wrapper ends it
exchange : (size : ℕ) (unit : UnitState) → ¬ StampsOut unit.book → (events : List Event) → events ≡ packet_out wrapper ∷ In ∷ []
    → (after : UnitState) × (answers : List Answer) × (run : UnitRun (on_line (at_rest size) unit) events answers (false ∷ false ∷ [])
    (on_line (at_rest size) after)) × IsUntroubled (on_line (at_rest size) unit) events answers (false ∷ false ∷ [])
    (on_line (at_rest size) after) run
exchange size unit stamps events are =
    let c = carried_out unit in
    let intends = moves_nothing unit.book.blocks unit.limit unit.kept.attention unit.faulted in
    let s = status_alone size c.0 in
    let mid : Conversation UnitState = on_line (record (at_rest size) { left = sending [] None s.0 }) c.1 in
    let carried : IsCarriedOut Intends CarriesOut Ticks false C1 command Nothing [] (on_line (at_rest size) unit) mid =
    record { answer = c.0; effect = c.2; moved = λ n is. absurd (cc is); after = sym s.1 } in
    let opens : OpensExchange Intends CarriesOut Ticks false wrapper (on_line (at_rest size) unit) mid = record {
      command = command;
      intended = Nothing;
      case = C1;
      spelled = spelled;
      intends = intends;
      is_case = tt;
      begins = carried;
    } in
    rw are (
      c.1,
      Ack ∷ Data (record { items = s.0 }) ∷ [],
      (mid, (refl, inl opens), (on_line (at_rest size) c.1, (refl, refl), refl)),
      (refl, stamps, (refl, rw c.3 stamps, tt)),
    )

plain : (refused : Bool) (old new : Conversation UnitState) (happens : Event) (answer : Answer) → UnitStep refused old happens answer new
    → UndroppedRun (settled old) (happens ∷ []) (answer ∷ []) (refused ∷ []) (settled new)
plain refused old new (event.Out packet) answer step = (settled new, inl (record { step = step; pending = refl }), refl)
plain refused old new happens answer step = (settled new, record { step = step; pending = refl }, refl)

pub conversation_met : ConversationWitness
conversation_met =
    let transfer : Transfer = record { wrapper = wrapper; command = command; spelled = spelled; sent = []; announced = inl refl } in
    record {
      transfer = (
        transfer,
        λ size unit some stamps.
            let are : events_of size transfer (In ∷ []) ≡ packet_out wrapper ∷ In ∷ [] = rw (packets_of-none size some) refl in
            let e = exchange size unit stamps (events_of size transfer (In ∷ [])) are in (
              e.0,
              heard_in e.1,
              record {
                asks = In ∷ [];
                only = search rules;
                answers = e.1;
                refusals = false ∷ false ∷ [];
                run = e.2;
                untroubled = e.3;
                heard_is = refl;
              },
            ),
      );
      tick = λ s stamps. ((s, (refl, inl refl, refl), refl), (refl, stamps, tt));
      plain = plain;
      deferred = λ refused old new packet any step. (
        record { now = old; pending = Some packet },
        inr (record { acknowledged = any; answered = refl; after = refl }),
        (settled new, inr (record { answered = refl; step = step; after = refl }), refl),
      );
      dropped = λ old packet any. (
        record { now = old; pending = Some packet },
        inr (record { acknowledged = any; answered = refl; after = refl }),
        (_, inr (record { spelled = refl; answered = refl; line = refl; unit = inl refl; after = refl }), refl),
      );
    }
