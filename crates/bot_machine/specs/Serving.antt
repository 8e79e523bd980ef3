-- What the parts of an event do to the unit and to the line.
use Rattle.std.specs.Prelude.{◌≡◌, ◌<◌, ◌≤◌, ◌*◌, ℕ, Bool, false, List, length, Result}
use Rattle.spec.specs.{declared.wrapper.Cbw.Cbw, declared.case.Case.Case}
use Rattle.logical_blocks.specs.Book.{Book}
use Rattle.scsi.specs.{Sense.Sense, Rules.{CarriesOut, Ticks, write_in_progress}}
use Rattle.spec.specs.{CommandWrapper.SpellsCommand, Cases.{IsCase, size_of_way}, Packets.bytes_of}
use Rattle.spec.specs.declared.event.Answer.TheVariants.{Ack}
use Rattle.spec.specs.Exchange.{Line, Script}
use Rattle.spec.specs.Conversation.{IsCarriedOut, OutStep}
use Rattle.spec.specs.UnitConversation.{way_of, Intends, write_of_packet, on_line}
use Rattle.spec.specs.declared.way.Way.TheVariants as ways
use Rattle.scsi.specs.declared.intent.Intent.TheVariants as intent
use Rattle.medium.specs.Medium.{State}
use Rattle.scsi_unit.specs.{Calls.{IsBounded, ComesBy}, Serving.{has_refused, IsSparing}}
use Rattle.scsi_unit.specs.UnitValue.{UnitValue, unit_limit, state_of, FitsUnit}
use Rattle.scsi_unit.specs.UnitValue.{intention_of}
use Rattle.bot_machine.specs.declared.exchange.Exchange.{Exchange}
use Rattle.bot_machine.specs.declared.bulk_state.Taking.{Taking}
use Rattle.bot_machine.specs.declared.bulk_state.Phase.TheVariants.{Command, DataOut}
use Rattle.bot_machine.specs.declared.bulk_state.BulkState.{BulkState}
use Rattle.bot_machine.specs.Acts.{CarriesOutNone, PacketCarriesOut}
use Rattle.bot_machine.specs.Refinement.{line_of, IsTaking, IsInPhase}
use Rattle.bot_machine.specs.{Disk.{Proceeds, Elapses, TakesFew, Tells}, Reading.LooksBesides}

-- A packet spells a command wrapper, and begins this exchange: the one of its command, of what the
-- unit intends for it, and of the case that this makes.
pub record IsBegun {M : Type 0} (unit : UnitValue M) (packet : List ℕ) (exchange : Exchange)
    : Type 0 where
  pub spelled : SpellsCommand packet exchange.command
  pub only : (other : Cbw) → SpellsCommand packet other → other ≡ exchange.command
  pub intended : exchange.intended ≡ way_of (intention_of unit exchange.command.block.items)
  pub few : (n : ℕ) → exchange.intended ≡ ways.Out n → n ≤ 512 * unit_limit unit
  pub room : (n : ℕ) → exchange.intended ≡ ways.In n → n ≤ 512 * unit_limit unit
  pub is_case : IsCase exchange.case exchange.command.host exchange.intended
  pub one_case : (other : Case) → IsCase other exchange.command.host exchange.intended
      → other ≡ exchange.case

-- the command of an exchange is carried out over these bytes
abbrev pub CarriesOutOn : {M : Type 0} → State → State → UnitValue M → UnitValue M → Line → Line
    → Exchange → List ℕ → Type 0
CarriesOutOn before after old new from to exchange bytes = (book : Book) → FitsUnit before old book
    → Proceeds before after old new
    (λ unit later. IsCarriedOut Intends CarriesOut Ticks (has_refused before after)
    exchange.case exchange.command exchange.intended bytes (on_line from unit) (on_line to later))
    (write_in_progress (state_of old book) exchange.command.block.items bytes) book

-- A packet comes to Bulk-Out, which is halted or not, where this is left of the exchange. It is
-- taken by the rules.
pub record ServesPacket {M : Type 0} (before after : State) (old new : UnitValue M)
    (from to : Line) (halted : Bool) (left : Script) (packet : List ℕ) : Type 0 where
  pub proceeds : (book : Book) → FitsUnit before old book → Proceeds before after old new
      (λ unit later. OutStep Intends CarriesOut Ticks (has_refused before after) halted left
      packet (on_line from unit) Ack (on_line to later))
      (write_of_packet from.packet_size halted left packet (state_of old book)) book
  -- where it has no command carried out, the unit stays as it is
  pub rests : (book : Book) → FitsUnit before old book → CarriesOutNone
      (PacketCarriesOut from.packet_size halted left packet (state_of old book)) → new ≡ old
  -- where it has one, the unit makes no call of the medium that it does not need, no more than its
  -- calls of the store add up to, and the line is to tell its answer
  pub spares : (book : Book) → FitsUnit before old book → (block taken : List ℕ)
      → PacketCarriesOut from.packet_size halted left packet (state_of old book) block taken
      → (answer : Result (List ℕ) Sense) × IsSparing before after block taken old answer new
      × IsBounded before after block taken old × Tells answer to

-- A part of an event passes these on: a phase that the unit allows, its limit and the size of a
-- packet as they were, and the store, which comes after what it was by few calls, and of which no
-- home sector is read but such as this holds of.
pub record HandsOn {M : Type 0} (state : M → State) (Follows : M → M → Type 0) (At : ℕ → Type 0)
    (old new : UnitValue M) (from to : BulkState) : Type 0 where
  pub phase : IsInPhase (unit_limit new) (intention_of new) to.phase
  pub limit : unit_limit new ≡ unit_limit old
  pub size : to.size ≡ from.size
  pub few : TakesFew (state old.store.medium) (state new.store.medium) old new
  pub looks : LooksBesides At (state old.store.medium) (state new.store.medium) old
  pub elapses : Elapses (state old.store.medium) (state new.store.medium)
  pub follows : ComesBy state Follows old.store new.store

-- what a part of an event that takes the last data, or data of a wrong size, does and passes on
pub record EndsData {M : Type 0} (state : M → State) (Follows : M → M → Type 0)
    (old new : UnitValue M) (from to : BulkState) (before after packet : List ℕ) : Type 0 where
  pub serves : ServesPacket (state old.store.medium) (state new.store.medium) old new
      (line_of from before) (line_of to after) false (line_of from before).left packet
  pub passes : HandsOn state Follows (λ _. ⊥) old new from to

-- ---- what these parts ask for

-- The command of an exchange may be carried out over these bytes: what the unit intends is still
-- what it intended when the wrapper came. There is room for what it intends to send.
pub record CanCarryOut {M : Type 0} (unit : UnitValue M) (exchange : Exchange)
    (bytes out : List ℕ) : Type 0 where
  pub is_case : IsCase exchange.case exchange.command.host exchange.intended
  pub sends : (n : ℕ) → exchange.intended ≡ ways.In n
      → intention_of unit exchange.command.block.items ≡ intent.In n
  pub takes : (n : ℕ) → intention_of unit exchange.command.block.items ≡ intent.Out n
      → length bytes ≡ n
  pub room : (n : ℕ) → intention_of unit exchange.command.block.items ≡ intent.In n
      → n ≤ length out

-- a command wrapper is expected, and there is room for the data of a transfer
pub record AwaitsWrapper (limit : ℕ) (bulk : BulkState) (buffer : List ℕ) : Type 0 where
  pub expected : bulk.phase ≡ Command
  pub room : length buffer ≡ 512 * limit

-- data is expected, which the unit allows, and there is room for it
pub record AwaitsData {M : Type 0} (unit : UnitValue M) (bulk : BulkState) (buffer : List ℕ)
    : Type 0 where
  pub room : length buffer ≡ 512 * unit_limit unit
  pub taking : (pending : Taking) × (bulk.phase ≡ DataOut pending)
      × IsTaking (unit_limit unit) (intention_of unit) pending

-- behind a packet of the greatest size none is due
pub record AwaitsEnd {M : Type 0} (unit : UnitValue M) (bulk : BulkState) (buffer packet : List ℕ)
    : Type 0 where
  pub awaits : AwaitsData unit bulk buffer
  pub ends : (pending : Taking) → bulk.phase ≡ DataOut pending
      → length packet ≡ bytes_of bulk.size → pending.due ≤ bytes_of bulk.size

-- a packet of the greatest size comes, behind which more data is due
pub record HasMoreDue (pending : Taking) (taken packet : List ℕ) (most : ℕ) : Type 0 where
  pub whole : length packet ≡ most
  pub more : most < pending.due
  pub before : pending.filled ≤ size_of_way pending.exchange.intended
  pub room : size_of_way pending.exchange.intended ≤ length taken
