-- What a packet to Bulk-Out does, by whether it is halted and by what is left of the exchange.
use Rattle.std.proofs.Common.{◌≡◌, ap, ℕ, List, [], ◌∷◌, refl, subst, sym, ◌⊎◌, true, false, inl, slice_range, ◌∙◌, arith, rules}
use Rattle.scsi_unit.proofs.UnitRuns.{comes_itself}
use Rattle.bot_machine.specs.{declared.bulk_state.Taking.Taking, declared.bulk_state.Phase.Phase}
use Rattle.bot_machine.specs.declared.bulk_state.Phase.TheVariants.{Command, DataOut, DataIn, Status}
use Rattle.bot_machine.specs.Disk.{status_of_answer, Tells, DiskValue, over, TicksIn, Proceeds, IsStepBy, IsStep, Elapses, TakesFew}
use Rattle.bot_machine.specs.Acts.{CarriesOutNone, PacketCarriesOut, EventCarriesOut}
use Rattle.bot_machine.specs.{Refinement.{left_of, halt_of, IsInPhase}, Reading.{LooksBesides, LooksIn, ReadsAt}}
use Rattle.bot_machine.specs.{Serving.{ServesPacket, HandsOn}, declared.bulk_state.BulkState.BulkState}
use Rattle.std.specs.Prelude.{Option, Some, None, Result}
use Rattle.logical_blocks.specs.Book.{Book}
use Rattle.scsi.specs.{Sense.Sense, Rules.{CarriesOut, Ticks, Intention}}
use Rattle.spec.specs.{declared.case.Endpoint.Endpoint, StatusWrapper.status_wrapper, Exchange.{Line, Script, sending, laid_out, in_answer}}
use Rattle.spec.specs.{Exchange.after_in, declared.event.{Event.Event, Answer.Answer}}
use Rattle.spec.specs.{Conversation.{OutStep, SetupStep}, UnitConversation.{Intends, UnitStep, write_of_packet, write_of_event, on_line}}
use Rattle.spec.specs.Packets.{packets_of}
use Rattle.spec.specs.declared.case.Endpoint.TheVariants as endpoint
use Rattle.medium.specs.Medium.{State, IsSound}
use Rattle.medium.proofs.SectorsRead.{no_looks, looks_wider}
use Rattle.scsi_unit.specs.{Background.{Work, Settle}, Reading.ReadsBack, Calls.IsBounded}
use Rattle.scsi_unit.specs.Serving.{has_refused, IsSparing, TicksOver}
use Rattle.scsi_unit.specs.UnitValue.{UnitValue, unit_limit, state_of, FitsUnit, IsOfSize, intention_of}
use Rattle.spec.specs.declared.event.Event.TheVariants as event
use Rattle.spec.specs.declared.event.Answer.TheVariants as answer
use Rattle.scsi.specs.declared.intent.Intent.TheVariants as intent
use Rattle.bot_machine.proofs.UnitLaws.{few_ticks, none_made, step_made, staying_so, proceeding, fits_size}
use Rattle.bot_machine.proofs.Wrappers.{besides, waits_to_send_none}

pub one_taking : (taking other : Taking) → DataOut taking ≡ DataOut other → taking ≡ other
one_taking taking other same = cc

-- what is laid out ends in its status wrapper
laid : (packets : List (List ℕ)) (halt : Option Endpoint) (status : List ℕ) (s : Line)
    → (left : List (List ℕ)) × (later : Option Endpoint) × ((laid_out packets halt status s).left ≡ sending left later status)
laid [] None status s = ([], None, refl)
laid [] (Some endpoint.In) status s = ([], None, refl)
laid [] (Some endpoint.Out) status s = ([], None, refl)
laid (packet ∷ packets) halt status s = (packet ∷ packets, halt, refl)

pub tells : (answer : Result (List ℕ) Sense) (packets : List (List ℕ)) (halt : Option Endpoint) (tag residue : ℕ) (line s : Line)
    → line ≡ laid_out packets halt (status_wrapper tag residue (status_of_answer answer)) s → Tells answer line
tells answer packets halt tag residue line s is =
    let l = laid packets halt (status_wrapper tag residue (status_of_answer answer)) s in (
      l.0,
      l.1,
      tag,
      residue,
      subst (λ (x : Line). x.left ≡ sending l.0 l.1 (status_wrapper tag residue (status_of_answer answer))) (sym is) l.2,
    )

-- no call, no time
pub no_time : (m : State) → Elapses m m
no_time m = record { failures_stay = omega arith; size_stays = refl }

pub no_calls : {M : Type 0} (m : State) (unit : UnitValue M) → TakesFew m m unit unit
no_calls m unit = let none = none_made m unit in grind (arith, none)

-- no read was made
pub none_named : {M : Type 0} (m : State) (disk : DiskValue M) (happens : Event) → LooksIn m m disk happens
none_named m disk happens = no_looks (λ s. ReadsBack disk.unit s ⊎ ReadsAt disk happens s) m m refl

-- what was done with a packet to Bulk-Out is a step of the disk
pub served : {M : Type 0} (state : M → State) (Follows : M → M → Type 0) (At : ℕ → Type 0) (old new : DiskValue M) (from to : BulkState)
    (left : Script) (packet : List ℕ) → old.line.out_halted ≡ false → left ≡ old.line.left
    → ServesPacket (state old.unit.store.medium) (state new.unit.store.medium) old.unit new.unit old.line new.line false left packet
    → HandsOn state Follows At old.unit new.unit from to
    → ((s : ℕ) → At s → ReadsAt old (event.Out (record { items = packet })) s) → new.line.packet_size ≡ old.line.packet_size
    → IsStep (state old.unit.store.medium) (state new.unit.store.medium) old (event.Out (record { items = packet })) answer.Ack new
served state Follows At old new from to left packet halted same serves passes reads size =
    let before = state old.unit.store.medium in
    let after = state new.unit.store.medium in
    let s = subst (λ h. ServesPacket before after old.unit new.unit old.line new.line h old.line.left packet) (sym halted)
    (subst (λ l. ServesPacket before after old.unit new.unit old.line new.line false l packet) same serves) in
    record {
      proceeds = s.proceeds;
      rests = λ book fits none. s.rests book fits (λ block taken carries. none (block, taken, carries));
      ticks = tt;
      spares = s.spares;
      few = passes.few;
      looks = besides before after old.unit At (ReadsAt old (event.Out (record { items = packet }))) reads passes.looks;
      elapses = passes.elapses;
      limit_stays = passes.limit;
      packets_stay = size;
    }

-- a packet that has no command carried out, where the unit stays as it is
pub idle : {M : Type 0} (m : State) (unit : UnitValue M) (from to : Line) (left : Script) (packet : List ℕ) → IsSound m
    → ((book : Book) → IsOfSize unit book → OutStep Intends CarriesOut Ticks (has_refused m m) false left packet
    (on_line from (state_of unit book)) answer.Ack (on_line to (state_of unit book)))
    → ((book : Book) → None ≡ write_of_packet from.packet_size false left packet (state_of unit book)) → ((book : Book) → IsOfSize unit book
    → CarriesOutNone (PacketCarriesOut from.packet_size false left packet (state_of unit book)))
    → ServesPacket m m unit unit from to false left packet
idle m unit from to left packet sound step none never = record {
  proceeds = λ book fits. staying_so m unit _ _ book sound fits (none book) (step book (fits_size m unit book fits));
  rests = λ book fits still. refl;
  spares = λ book fits block taken carries. absurd (never book (fits_size m unit book fits) block taken carries);
}

-- a packet that has this command carried out, over these bytes, and no other
pub carried : {M : Type 0} (before after : State) (old new : UnitValue M) (from to : Line) (left : Script)
    (packet block bytes : List ℕ)
    → ((book : Book) → FitsUnit before old book → Proceeds before after old new
    (λ unit later. OutStep Intends CarriesOut Ticks (has_refused before after) false left packet (on_line from unit) answer.Ack
    (on_line to later)) (write_of_packet from.packet_size false left packet (state_of old book)) book)
    → ((book : Book) → IsOfSize old book
    → PacketCarriesOut from.packet_size false left packet (state_of old book) block bytes
    × ((other taken : List ℕ) → PacketCarriesOut from.packet_size false left packet (state_of old book) other taken
    → (other ≡ block) × (taken ≡ bytes)))
    → (told : Result (List ℕ) Sense) × IsSparing before after block bytes old told new × IsBounded before after block bytes old
    × Tells told to
    → ServesPacket before after old new from to false left packet
carried before after old new from to left packet block bytes proceeds one spared = record {
  proceeds = proceeds;
  rests = λ book fits none. absurd (none block bytes (one book (fits_size before old book fits)).0);
  spares = λ book fits other taken carries.
      let same = (one book (fits_size before old book fits)).1 other taken carries in rw (same.0, same.1) spared;
}

-- an event that has the unit do nothing
pub nothing_done : {M : Type 0} (m : State) (disk : DiskValue M) (line : Line) (happens : Event) (told : Answer) → IsSound m
    → ((book : Book) → UnitStep (has_refused m m) (over disk book) happens told (on_line line (state_of disk.unit book)))
    → ((book : Book) → None ≡ write_of_event (over disk book) happens)
    → ((book : Book) (block taken : List ℕ) → EventCarriesOut (over disk book) happens block taken → ⊥)
    → TicksIn Settle m m disk happens (record disk { line = line }) → line.packet_size ≡ disk.line.packet_size
    → IsStep m m disk happens told (record disk { line = line })
nothing_done m disk line happens told sound step none never ticks size = record {
  proceeds = λ book fits. staying_so m disk.unit _ _ book sound fits (none book) (step book);
  rests = λ book fits none. refl;
  ticks = ticks;
  spares = λ book fits block taken carries. absurd (never book block taken carries);
  few = no_calls m disk.unit;
  looks = none_named m disk happens;
  elapses = no_time m;
  limit_stays = refl;
  packets_stay = size;
}

-- a packet to a halted endpoint
pub stalled : {M : Type 0} (m : State) (disk : DiskValue M) (packet : List ℕ) → IsSound m
    → true ≡ disk.line.out_halted → IsStep m m disk (event.Out (record { items = packet })) answer.Stall disk
stalled m disk packet sound halted =
    nothing_done m disk disk.line (event.Out (record { items = packet })) answer.Stall sound (λ book. grind arith) (λ book. grind arith)
    (λ book block taken carries. grind arith) tt refl

-- a packet while something is sent
pub not_ready : {M : Type 0} (m : State) (disk : DiskValue M) (packet : List ℕ) (packets : List (List ℕ)) (halt : Option Endpoint)
    (status : List ℕ) → IsSound m → false ≡ disk.line.out_halted → sending packets halt status ≡ disk.line.left
    → IsStep m m disk (event.Out (record { items = packet })) answer.Nak disk
not_ready m disk packet packets halt status sound halted left =
    nothing_done m disk disk.line (event.Out (record { items = packet })) answer.Nak sound (λ book. grind arith) (λ book. grind arith)
    (λ book block taken carries. grind arith) tt refl

-- a step in the background
pub ticked : {M : Type 0} (work : Work) (before after : State) (old new : DiskValue M)
    → TicksOver work before after old.unit new.unit → new.line ≡ old.line → IsStepBy work before after old event.Tick answer.Ticked new
ticked work before after old new ticks line = record {
  proceeds = λ book fits.
      let one = ticks.line book fits in
      proceeding before after old.unit new.unit _ None book book (refl, one.0, line) one.1 refl (ticks.cuts book fits);
  rests = λ book fits none. absurd (none tt);
  ticks = (ticks, line);
  spares = λ book fits block taken carries. absurd carries;
  few =
      let few = few_ticks before.calls after.calls old.unit ticks.few in
      let one = step_made before after old.unit ticks.sent in grind (arith, few, one, ticks);
  looks = looks_wider (ReadsBack old.unit) (λ s. ReadsBack old.unit s ⊎ ReadsAt old event.Tick s) before after
      (λ s low. inl low) ticks.looks;
  elapses = search (rules, ticks);
  limit_stays = ticks.limit_stays;
  packets_stay = ap (λ (l : Line). l.packet_size) line;
}

-- a token to Bulk-In, or a setup packet, leaves the size of a packet
after_in_size : (s : Line) → (after_in s).packet_size ≡ s.packet_size
after_in_size s = grind arith

setup_size : (packet : List ℕ) (old : Line) (told : Answer) (new : Line) → SetupStep packet old told new → new.packet_size ≡ old.packet_size
setup_size packet old told new step = grind arith

-- a token to Bulk-In
pub token : {M : Type 0} (m : State) (disk : DiskValue M) → IsSound m
    → IsStep m m disk event.In (in_answer disk.line) (record disk { line = after_in disk.line })
token m disk sound =
    nothing_done m disk (after_in disk.line) event.In (in_answer disk.line) sound (λ book. (refl, refl)) (λ book. refl)
    (λ book block taken carries. carries) tt (after_in_size disk.line)

-- a setup packet
pub asked : {M : Type 0} (m : State) (disk : DiskValue M) (packet : List ℕ) (told : Answer) (line : Line) → IsSound m
    → SetupStep packet disk.line told line → IsStep m m disk (event.Setup packet) told (record disk { line = line })
asked m disk packet told line sound step =
    nothing_done m disk line (event.Setup packet) told sound (λ book. (step, refl)) (λ book. refl)
    (λ book block taken carries. carries) tt (setup_size packet disk.line told line step)

-- in the phases that take nothing something is sent
pub sends : (phase : Phase) → (phase ≡ Command → ⊥) → ((t : Taking) → phase ≡ DataOut t → ⊥) → (size : ℕ) (buffer status : List ℕ)
    → (packets : List (List ℕ)) × (halt : Option Endpoint) × (sending packets halt status ≡ left_of size phase buffer status)
sends Command command out size buffer status = absurd (command refl)
sends (DataOut t) command out size buffer status = absurd (out t refl)
sends (DataIn from to halt) command out size buffer status =
    (packets_of size (slice_range buffer from to), halt_of halt, refl)
sends Status command out size buffer status = ([], None, refl)

-- a unit that comes to take no other data, nor to send any, goes on with the phase
pub still_in_phase : (limit : ℕ) (old new : List ℕ → Intention)
    → ((block : List ℕ) (n : ℕ) → new block ≡ intent.Out n → old block ≡ intent.Out n)
    → ((block : List ℕ) (n : ℕ) → new block ≡ intent.In n → old block ≡ intent.In n) → (phase : Phase) → IsInPhase limit old phase
    → IsInPhase limit new phase
still_in_phase limit old new steady steady_in phase h = grind (arith, steady, steady_in)

-- no read was made
pub none_besides : {M : Type 0} (At : ℕ → Type 0) (m : State) (unit : UnitValue M) → LooksBesides At m m unit
none_besides At m unit = no_looks (λ s. ReadsBack unit s ⊎ At s) m m refl

-- nothing was done to the unit
pub unit_stays : {M : Type 0} (state : M → State) (Follows : M → M → Type 0) (At : ℕ → Type 0) (unit : UnitValue M) (from to : BulkState)
    → ((m : M) → Follows m m) → IsInPhase (unit_limit unit) (intention_of unit) to.phase → to.size ≡ from.size
    → HandsOn state Follows At unit unit from to
unit_stays state Follows At unit from to itself phase size =
    let m = state unit.store.medium in
    let comes = comes_itself {state = state} {Follows = Follows} {s = unit.store} itself in
    search (rules, no_calls m unit, none_besides At m unit, no_time m, comes, phase, size)

-- what is passed on where this holds of a home sector that was read, too
pub passes_wider : {M : Type 0} (state : M → State) (Follows : M → M → Type 0) (At Other : ℕ → Type 0) (old new : UnitValue M)
    (from as_large to : BulkState) → from.size ≡ as_large.size → ((s : ℕ) → At s → Other s) → HandsOn state Follows At old new from to
    → HandsOn state Follows Other old new as_large to
passes_wider state Follows At Other old new from as_large to same wider p =
    let looks = besides (state old.store.medium) (state new.store.medium) old At Other wider p.looks in
    let size = p.size ∙ same in search (rules, looks, size, p)

-- a command that waits for its data sends none, and no read was made
pub ruleset nothing_read = (waits_to_send_none, none_besides)
