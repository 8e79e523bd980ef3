-- What an event has a unit do, and what that does to the book of a life.
use Rattle.std.proofs.Common.{◌≡◌, ℕ, Bool, true, false, List, [], Option, None, Some, refl, ap, ◌∙◌, arith, ◌⊎◌, inl, inr, ⊎_elim, length}
use Rattle.std.proofs.{Common.{Result, Ok, Err, sym, subst}, lemmas.Bool.Decides.nat_tests}
use Rattle.std.specs.Prelude.{Result, if◌then◌else◌}
use Rattle.logical_blocks.specs.Blocks.{Write}
use Rattle.scsi.specs.Sense.{Sense}
use Rattle.spec.specs.declared.{wrapper.Cbw.Cbw, way.Way.Way, case.Case.Case}
use Rattle.spec.specs.{declared.event.Event.Event, declared.event.Answer.Answer}
use Rattle.scsi.specs.{Commands.command_of, Rules.{UnitState, CarriesOut, Ticks, write_in_progress, write_after, checked}}
use Rattle.scsi.specs.Rules.{checked_for_fault, command_by}
use Rattle.spec.specs.Exchange.{Script, finished, taking}
use Rattle.spec.specs.Conversation.{Conversation, OpensExchange, Takes, OutStep}
use Rattle.logical_blocks.specs.Book.{Book}
use Rattle.scsi.specs.declared.command.Command.{Command}
use Rattle.spec.specs.UnitConversation.{Intends, UnitStep, write_of_packet, write_of_event}
use Rattle.spec.specs.Lagging.{Lagging, LagStepAt, Drops}
use Rattle.spec.specs.declared.event.Event.TheVariants as event
use Rattle.spec.specs.declared.event.Answer.TheVariants.{Ack}
use Rattle.bot_machine.specs.Acts.{CarriesOutAtOnce, CarriesOutLast, PacketCarriesOut, EventCarriesOut}
use Rattle.bot_machine.specs.{BookLaws.{GrowsBy, MarkMoves, FaultStays, AreBookLaws}, Promising.promises_by}
use Rattle.transport_laws.proofs.Wrappers.{at_once-writes_none}
use Rattle.bot_machine.proofs.{Wrappers.carries_at_once, UnitLaws.{keeps_writes, stays_faulted, ticks_only}}
use Rattle.scsi_unit.specs.{Laws.{IsSameLife, is_promising}, Promising.promises_for}

-- something that holds with no write where the unit makes a step in the background at most
module _ (P : Option Write → Type 0) (refused : Bool) (old new : Conversation UnitState)
    (idle : Ticks refused old.unit new.unit → P None) where
  -- what holds with the write of each command that is carried out
  abbrev pub OfCarried : (List ℕ → List ℕ → Type 0) → Type 0
  OfCarried CarriedOut = (block taken : List ℕ) (told : Result (List ℕ) Sense) → CarriedOut block taken
      → CarriesOut refused block taken old.unit told new.unit → P (write_in_progress old.unit block taken)

  -- a command that is carried out at once writes nothing
  opened : (packet : List ℕ) → OfCarried (CarriesOutAtOnce packet old.unit)
      → OpensExchange Intends CarriesOut Ticks refused packet old new → P None
  opened packet carried o =
      let none = at_once-writes_none old.unit o.command.block.items [] o.case o.command.host o.intended o.intends o.is_case in
      let carries = carries_at_once packet old.unit o.command o.intended o.case o.spelled o.intends o.is_case in
      let begins = o.begins in
      grind (arith, none, carries, carried)

  taken : (case : Case) (command : Cbw) (intended : Way) (bytes : List ℕ) (due : ℕ) (packet : List ℕ)
      → OfCarried (CarriesOutLast old.line.packet_size command intended bytes due packet)
      → Takes Intends CarriesOut Ticks refused case command intended bytes due packet old new
      → P (write_of_packet old.line.packet_size false (taking case command intended bytes due) packet old.unit)
  taken case command intended bytes due packet carried takes = grind (arith, nat_tests, carried)

  out : (halted : Bool) (left : Script) (packet : List ℕ) (answer : Answer)
      → OfCarried (PacketCarriesOut old.line.packet_size halted left packet old.unit)
      → OutStep Intends CarriesOut Ticks refused halted left packet old answer new
      → P (write_of_packet old.line.packet_size halted left packet old.unit)
  out false finished packet answer carried step = grind (arith, opened packet carried)
  out false (taking case command intended bytes due) packet answer carried step =
      taken case command intended bytes due packet carried step.1
  out halted left packet answer carried step = grind arith

  -- it holds with the write of the event
  pub by_event : (event : Event) (answer : Answer) → OfCarried (EventCarriesOut old event) → UnitStep refused old event answer new
      → P (write_of_event old event)
  by_event (event.Out packet) answer carried step = out old.line.out_halted old.line.left packet.items answer carried step
  by_event event.Tick answer carried step = idle step.1
  by_event event answer carried step = grind arith

-- a step in the background leaves the book
pub same_book : (refused : Bool) (old new : UnitState) → Ticks refused old new → new.book ≡ old.book
same_book refused old new ticked = ap (λ (u : UnitState). u.book) (ticks_only.others refused old new ticked)

-- the promises stay, or all accepted writes are promised
abbrev IsMarked : Bool → Book → Book → Type 0
IsMarked promised old new = (new.mark ≡ old.mark) ⊎ ((promised ≡ true) × (new.mark ≡ length new.writes))

marked_if : (promising promised : Bool) (old new : Book) → promised ≡ true
    → new.mark ≡ (if promising then length new.writes else old.mark) → IsMarked promised old new
marked_if promising promised old new may is = grind arith

-- a command that is carried out
module _ (refused : Bool) (block taken : List ℕ) (old new : UnitState) where
  pub grows : (write : Option Write) (answer : Result (List ℕ) Sense) → write_in_progress old block taken ≡ write
      → CarriesOut refused block taken old answer new → GrowsBy write old new
  grows write answer is carried =
      grind (
        arith,
        keeps_writes.writes refused block taken old new answer carried,
        keeps_writes.accepted refused block taken,
        keeps_writes.faulted refused block taken,
      )

  marks_good : (told : Result Command Sense) (sent : List ℕ) → checked old block ≡ told → promises_for told old.write_cache ≡ true
      → CarriesOut refused block taken old (Ok sent) new → IsMarked (promises_for told old.write_cache) old.book new.book
  marks_good (Ok command) sent passed may carried =
      marked_if (is_promising command taken old) (promises_for (Ok command) old.write_cache) old.book new.book may
      (keeps_writes.mark refused block taken sent old new command passed carried)
  marks_good (Err sense) sent passed may carried = cc

  marks : (promised : Bool) (answer : Result (List ℕ) Sense) → promises_by old block ≡ promised
      → CarriesOut refused block taken old answer new → IsMarked (promises_by old block) old.book new.book
  marks false answer none carried = inl (keeps_writes.unpromising refused block taken old new answer none carried)
  marks true (Err sense) may carried = inl (keeps_writes.unpromised refused block taken old new sense carried)
  marks true (Ok sent) may carried = marks_good (checked old block) sent refl may carried

-- each event
pub book_laws : AreBookLaws
book_laws = record {
  life = λ refused old new event answer step.
      by_event (λ w. IsSameLife old.unit.book new.unit.book) refused old new
      (λ ticked. subst (IsSameLife old.unit.book) (sym (same_book refused old.unit new.unit ticked))
      (record { blocks = refl; opening = refl; stamp = refl; ours = refl }))
      event answer
      (λ block taken told may carried. keeps_writes.life refused block taken old.unit new.unit told carried) step;
  writes = λ refused old new event answer step.
      by_event (λ w. GrowsBy w old.unit new.unit) refused old new
      (λ ticked. ap (λ (b : Book). b.writes) (same_book refused old.unit new.unit ticked))
      event answer
      (λ block taken told may carried. grows refused block taken old.unit new.unit _ told refl carried) step;
  mark = λ refused old new event answer step.
      by_event (λ w. MarkMoves old event new) refused old new
      (λ ticked. inl (ap (λ (b : Book). b.mark) (same_book refused old.unit new.unit ticked)))
      event answer
      (λ block taken told may carried. ⊎_elim inl
      (λ marked. inr (record { block = block; taken = taken; carried_out = may; promising = marked.0 }, marked.1))
      (marks refused block taken old.unit new.unit _ told refl carried))
      step;
  fault = λ refused old new event answer step.
      by_event (λ w. FaultStays old event new) refused old new
      (λ ticked faulted. let same = stays_faulted.tick refused old.unit new.unit faulted ticked in
      (ap (λ (u : UnitState). u.faulted) same ∙ faulted, ap (λ (u : UnitState). u.book) same))
      event answer
      (λ block taken told may carried faulted. stays_faulted.command refused block taken old.unit new.unit told faulted carried) step;
}

-- ---- where the device is behind

-- a faulted unit writes nothing
none_after : (told : Result Command Sense) (taken : List ℕ) → write_after (checked_for_fault true told) taken ≡ None
none_after told taken = grind arith

none_written : (unit : UnitState) (block taken : List ℕ) → unit.faulted ≡ true → write_in_progress unit block taken ≡ None
unfolding command_by
none_written unit block taken faulted = rw faulted (grind (arith, none_after (command_of unit.book.blocks unit.limit block) taken))

none_pending : (most : ℕ) (halted : Bool) (left : Script) (packet : List ℕ) (unit : UnitState) → unit.faulted ≡ true
    → write_of_packet most halted left packet unit ≡ None
none_pending most halted left packet unit faulted = grind (arith, none_written unit, faulted)

-- a reset leaves the unit
none_dropped : (old : Conversation UnitState) (packet : List ℕ) (new : UnitState) → old.unit.faulted ≡ true → Drops old packet new
    → new ≡ old.unit
none_dropped old packet new faulted (inl same) = same
none_dropped old packet new faulted (inr after) =
    after ∙ rw (none_pending old.line.packet_size old.line.out_halted old.line.left packet old.unit faulted) refl

-- a faulted unit stays so, and its book stays as it is
pub lag_fault : (refused : Bool) (pending : Option (List ℕ)) (old new : Lagging UnitState) (happens : Event) (answer : Answer)
    → LagStepAt Intends CarriesOut Ticks Drops refused pending old happens answer new → FaultStays old.now happens new.now
lag_fault refused None old new (event.Out packet) answer (inl step) =
    book_laws.fault refused old.now new.now (event.Out packet) answer step.step
lag_fault refused None old new (event.Out packet) answer (inr deferred) = λ faulted. rw deferred.after (faulted, refl)
lag_fault refused None old new happens answer step = book_laws.fault refused old.now new.now happens answer step.step
lag_fault refused (Some packet) old new (event.Out other) answer step = λ faulted. rw step.1 (faulted, refl)
lag_fault refused (Some packet) old new event.In answer step = book_laws.fault refused old.now new.now event.In answer step.step
lag_fault refused (Some packet) old new (event.Setup setup) answer (inl step) =
    book_laws.fault refused old.now new.now (event.Setup setup) answer step.1.step
lag_fault refused (Some packet) old new (event.Setup setup) answer (inr dropped) = λ faulted.
    rw (none_dropped old.now packet new.now.unit faulted dropped.unit) (faulted, refl)
lag_fault refused (Some packet) old new event.Tick answer (inl step) =
    book_laws.fault refused old.now new.now event.Tick answer step.step
lag_fault refused (Some packet) old new event.Tick answer (inr done) =
    book_laws.fault refused old.now new.now (event.Out (record { items = packet })) Ack done.step
