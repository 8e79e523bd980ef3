-- Hosts and units have conversations of which the laws speak.
use Rattle.std.specs.Prelude.{ℕ, ◌<◌, List, [], ◌∷◌, false}
use Rattle.std.specs.Prelude.{Bool}
use Rattle.logical_blocks.specs.Book.{StampsOut}
use Rattle.scsi.specs.Rules.{UnitState}
use Rattle.spec.specs.Conversation.{Conversation}
use Rattle.spec.specs.UnitConversation.{UnitRun, UnitStep}
use Rattle.spec.specs.declared.event.{Event.Event, Event.TheVariants.{Setup, Tick}}
use Rattle.spec.specs.declared.event.{Answer.Answer, Answer.TheVariants.{Ack, Ticked}}
use Rattle.spec.specs.{Exchange.after_request, Requests.{setup_packet, mass_storage_reset}}
use Rattle.transport_laws.specs.Striking.{IsUntroubled}
use Rattle.transport_laws.specs.Transfers.{Transfer, Heard, IsTransferred, packet_out}
use Rattle.spec.specs.Lagging.{settled, AcknowledgesAny, UnitLagRun}
use Rattle.transport_laws.specs.HiddenLag.{UndroppedRun}

-- hosts and units have conversations that nothing troubles
pub record ConversationWitness : Type 0 where
  -- each unit with stamps left works some transfer, in packets of any size
  pub transfer : (transfer : Transfer) × ((size : ℕ) (unit : UnitState) → 0 < size
      → ¬ StampsOut unit.book
      → (new : UnitState) × (heard : Heard) × IsTransferred size transfer unit new heard)
  -- a step in the background alone is a conversation
  pub tick : (s : Conversation UnitState) → ¬ StampsOut s.unit.book
      → (run : UnitRun s (Tick ∷ []) (Ticked ∷ []) (false ∷ []) s)
      × IsUntroubled s (Tick ∷ []) (Ticked ∷ []) (false ∷ []) s run
  -- A disk whose device may be behind does each step of one that acts at once, and the same for a
  -- packet that it acknowledged before. A class reset may drop that.
  pub plain : (refused : Bool) (old new : Conversation UnitState) (happens : Event)
      (answer : Answer) → UnitStep refused old happens answer new
      → UndroppedRun (settled old) (happens ∷ []) (answer ∷ []) (refused ∷ []) (settled new)
  pub deferred : (refused : Bool) (old new : Conversation UnitState) (packet : List ℕ)
      → AcknowledgesAny old.line.out_halted old.line.left
      → UnitStep refused old (packet_out packet) Ack new
      → UndroppedRun (settled old) (packet_out packet ∷ Tick ∷ []) (Ack ∷ Ticked ∷ [])
      (false ∷ refused ∷ []) (settled new)
  pub dropped : (old : Conversation UnitState) (packet : List ℕ)
      → AcknowledgesAny old.line.out_halted old.line.left
      → UnitLagRun (settled old) (packet_out packet ∷ Setup (setup_packet mass_storage_reset) ∷ [])
      (Ack ∷ Ack ∷ []) (false ∷ false ∷ [])
      (settled (record old { line = after_request mass_storage_reset old.line }))
