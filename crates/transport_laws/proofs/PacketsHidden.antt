-- A run of a disk whose device is behind is one of a disk that acts on each packet at once: in the step in which it is done.
use Rattle.std.proofs.{Common.{◌≡◌, ◌≤◌, inl, inr, ℕ, Bool, List, [], ◌∷◌, ◌++◌, arith, refl, sym, subst, ap, ◌∙◌}, lemmas.List.append-nil}
use Rattle.std.specs.Prelude.{Option, Some, None}
use Rattle.scsi.specs.Rules.{UnitState}
use Rattle.spec.specs.declared.event.{Event.Event, Answer.Answer}
use Rattle.spec.specs.{Conversation.{Conversation, refused_events}, UnitConversation.{UnitStep, UnitRun}}
use Rattle.spec.specs.declared.event.Event.TheVariants as event
use Rattle.spec.specs.declared.event.Answer.TheVariants as answer
use Rattle.transport_laws.specs.Transfers.{packets_in}
use Rattle.spec.specs.Lagging.{Lagging}
use Rattle.transport_laws.specs.HiddenLag.{LagsAreHidden, UndroppedRun, Transaction, with_transaction, outs, ins, setups}

-- with what is still pending in front
abbrev pub due : Option (List ℕ) → List Transaction → List Transaction
due None later = later
due (Some packet) later = record { packet = packet; answer = answer.Ack } ∷ later

-- a run at once of what is left, with what was pending, up to where this is pending
pub record Left (last pending : Option (List ℕ)) (old new : Conversation UnitState) (events : List Event) (answers : List Answer)
    (refusals : List Bool) : Type 0 where
  pub plain : List Event
  pub reported : List Answer
  pub refused : List Bool
  pub run : UnitRun old plain reported refused new
  pub same_outs : outs plain reported ++ due last [] ≡ due pending (outs events answers)
  pub same_ins : ins plain reported ≡ ins events answers
  pub same_setups : setups plain reported ≡ setups events answers
  pub same_packets : packets_in reported ≡ packets_in answers
  pub few : refused_events refused ≤ refused_events refusals

-- what came of a packet stands in front of all that follows
with_more : (packet : List ℕ) (a : Answer) (first later : List Transaction)
    → with_transaction packet a first ++ later ≡ with_transaction packet a (first ++ later)
with_more packet a first later = grind arith

-- one packet more is among those of Bulk-In, or none
packets_more : (a : Answer) (one other : List Answer) → packets_in one ≡ packets_in other → packets_in (a ∷ one) ≡ packets_in (a ∷ other)
packets_more a one other same = grind arith

refusals_more : (r : Bool) (one other : List Bool) → refused_events one ≤ refused_events other
    → refused_events (r ∷ one) ≤ refused_events (r ∷ other)
refusals_more r one other few = grind arith

refusals_less : (r : Bool) (one other : List Bool) → refused_events one ≤ refused_events other
    → refused_events one ≤ refused_events (r ∷ other)
refusals_less r one other few = grind arith

module _ (last pending : Option (List ℕ)) (old mid new : Conversation UnitState) (events : List Event) (answers : List Answer)
    (refusals : List Bool) (refused : Bool) where
  -- an event that is no packet to Bulk-Out
  by_in : (a : Answer) → UnitStep refused old event.In a mid → Left last pending mid new events answers refusals
      → Left last pending old new (event.In ∷ events) (a ∷ answers) (refused ∷ refusals)
  by_in a step left = record {
    plain = event.In ∷ left.plain;
    reported = a ∷ left.reported;
    refused = refused ∷ left.refused;
    run = (mid, step, left.run);
    same_outs = left.same_outs;
    same_ins = ap (λ l. with_transaction [] a l) left.same_ins;
    same_setups = left.same_setups;
    same_packets = packets_more a left.reported answers left.same_packets;
    few = refusals_more refused left.refused refusals left.few;
  }

  by_setup : (setup : List ℕ) (a : Answer) → UnitStep refused old (event.Setup setup) a mid
      → Left last pending mid new events answers refusals
      → Left last pending old new (event.Setup setup ∷ events) (a ∷ answers) (refused ∷ refusals)
  by_setup setup a step left = record {
    plain = event.Setup setup ∷ left.plain;
    reported = a ∷ left.reported;
    refused = refused ∷ left.refused;
    run = (mid, step, left.run);
    same_outs = left.same_outs;
    same_ins = left.same_ins;
    same_setups = ap (λ l. with_transaction setup a l) left.same_setups;
    same_packets = packets_more a left.reported answers left.same_packets;
    few = refusals_more refused left.refused refusals left.few;
  }

  by_tick : (a : Answer) → UnitStep refused old event.Tick a mid → Left last pending mid new events answers refusals
      → Left last pending old new (event.Tick ∷ events) (a ∷ answers) (refused ∷ refusals)
  by_tick a step left = record {
    plain = event.Tick ∷ left.plain;
    reported = a ∷ left.reported;
    refused = refused ∷ left.refused;
    run = (mid, step, left.run);
    same_outs = left.same_outs;
    same_ins = left.same_ins;
    same_setups = left.same_setups;
    same_packets = packets_more a left.reported answers left.same_packets;
    few = refusals_more refused left.refused refusals left.few;
  }

  by_out : (packet : _) (a : Answer) → UnitStep refused old (event.Out packet) a mid → Left last None mid new events answers refusals
      → Left last None old new (event.Out packet ∷ events) (a ∷ answers) (refused ∷ refusals)
  by_out packet a step left = record {
    plain = event.Out packet ∷ left.plain;
    reported = a ∷ left.reported;
    refused = refused ∷ left.refused;
    run = (mid, step, left.run);
    same_outs = with_more packet.items a (outs left.plain left.reported) (due last [])
        ∙ ap (λ l. with_transaction packet.items a l) left.same_outs;
    same_ins = left.same_ins;
    same_setups = left.same_setups;
    same_packets = packets_more a left.reported answers left.same_packets;
    few = refusals_more refused left.refused refusals left.few;
  }

  -- the step in which what was pending is done
  by_done : (packet : List ℕ) → UnitStep refused old (event.Out (record { items = packet })) answer.Ack mid
      → Left last None mid new events answers refusals
      → Left last (Some packet) old new (event.Tick ∷ events) (answer.Ticked ∷ answers) (refused ∷ refusals)
  by_done packet step left = record {
    plain = event.Out (record { items = packet }) ∷ left.plain;
    reported = answer.Ack ∷ left.reported;
    refused = refused ∷ left.refused;
    run = (mid, step, left.run);
    same_outs = ap (λ l. record { packet = packet; answer = answer.Ack } ∷ l) left.same_outs;
    same_ins = left.same_ins;
    same_setups = left.same_setups;
    same_packets = left.same_packets;
    few = refusals_more refused left.refused refusals left.few;
  }

  -- a packet is deferred
  by_deferral : (bytes : List ℕ) → Left last (Some bytes) old new events answers refusals
      → Left last None old new (event.Out (record { items = bytes }) ∷ events) (answer.Ack ∷ answers) (refused ∷ refusals)
  by_deferral bytes left = record {
    plain = left.plain;
    reported = left.reported;
    refused = left.refused;
    run = left.run;
    same_outs = left.same_outs;
    same_ins = left.same_ins;
    same_setups = left.same_setups;
    same_packets = left.same_packets;
    few = refusals_less refused left.refused refusals left.few;
  }

  -- a packet waits
  by_nak : (waits : List ℕ) (packet : _) → Left last (Some waits) old new events answers refusals
      → Left last (Some waits) old new (event.Out packet ∷ events) (answer.Nak ∷ answers) (refused ∷ refusals)
  by_nak waits packet left = record {
    plain = left.plain;
    reported = left.reported;
    refused = left.refused;
    run = left.run;
    same_outs = left.same_outs;
    same_ins = left.same_ins;
    same_setups = left.same_setups;
    same_packets = left.same_packets;
    few = refusals_less refused left.refused refusals left.few;
  }

abbrev pub at : Option (List ℕ) → Conversation UnitState → Lagging UnitState
at pending now = record { now = now; pending = pending }

pub hidden : (last : Option (List ℕ)) (events : List Event) (pending : Option (List ℕ)) (old new : Conversation UnitState)
    (answers : List Answer) (refusals : List Bool) → UndroppedRun (at pending old) events answers refusals (at last new)
    → Left last pending old new events answers refusals
hidden last [] pending old new [] [] run = record {
  plain = [];
  reported = [];
  refused = [];
  run = ap (λ l. l.now) run;
  same_outs = ap (λ l. due l.pending []) run;
  same_ins = refl;
  same_setups = refl;
  same_packets = refl;
  few = omega arith;
}
hidden last (event.Out packet ∷ events) None old new (a ∷ as_) (r ∷ rs) (mid, inl plain, rest) =
    by_out last None old mid.now new events as_ rs r packet a plain.step
    (hidden last events None mid.now new as_ rs (subst (λ p. UndroppedRun (at p mid.now) events as_ rs (at last new)) plain.pending rest))
hidden last (event.Out packet ∷ events) None old new (a ∷ as_) (r ∷ rs) (mid, inr off, rest) =
    rw off.answered (by_deferral last None old old new events as_ rs r packet.items
    (hidden last events (Some packet.items) old new as_ rs (subst (λ l. UndroppedRun l events as_ rs (at last new)) off.after rest)))
hidden last (event.In ∷ events) None old new (a ∷ as_) (r ∷ rs) (mid, plain, rest) =
    by_in last None old mid.now new events as_ rs r a plain.step
    (hidden last events None mid.now new as_ rs (subst (λ p. UndroppedRun (at p mid.now) events as_ rs (at last new)) plain.pending rest))
hidden last (event.Setup setup ∷ events) None old new (a ∷ as_) (r ∷ rs) (mid, plain, rest) =
    by_setup last None old mid.now new events as_ rs r setup a plain.step
    (hidden last events None mid.now new as_ rs (subst (λ p. UndroppedRun (at p mid.now) events as_ rs (at last new)) plain.pending rest))
hidden last (event.Tick ∷ events) None old new (a ∷ as_) (r ∷ rs) (mid, plain, rest) =
    by_tick last None old mid.now new events as_ rs r a plain.step
    (hidden last events None mid.now new as_ rs (subst (λ p. UndroppedRun (at p mid.now) events as_ rs (at last new)) plain.pending rest))
hidden last (event.Out packet ∷ events) (Some waits) old new (a ∷ as_) (r ∷ rs) (mid, (nak, same), rest) =
    rw nak (by_nak last None old old new events as_ rs r waits packet
    (hidden last events (Some waits) old new as_ rs (subst (λ l. UndroppedRun l events as_ rs (at last new)) same rest)))
hidden last (event.In ∷ events) (Some waits) old new (a ∷ as_) (r ∷ rs) (mid, plain, rest) =
    by_in last (Some waits) old mid.now new events as_ rs r a plain.step
    (hidden last events (Some waits) mid.now new as_ rs
    (subst (λ p. UndroppedRun (at p mid.now) events as_ rs (at last new)) plain.pending rest))
hidden last (event.Setup setup ∷ events) (Some waits) old new (a ∷ as_) (r ∷ rs) (mid, inl (other, plain), rest) =
    by_setup last (Some waits) old mid.now new events as_ rs r setup a plain.step
    (hidden last events (Some waits) mid.now new as_ rs
    (subst (λ p. UndroppedRun (at p mid.now) events as_ rs (at last new)) plain.pending rest))
hidden last (event.Setup setup ∷ events) (Some waits) old new (a ∷ as_) (r ∷ rs) (mid, inr dropped, rest) =
    absurd dropped.unit
hidden last (event.Tick ∷ events) (Some waits) old new (a ∷ as_) (r ∷ rs) (mid, inl plain, rest) =
    by_tick last (Some waits) old mid.now new events as_ rs r a plain.step
    (hidden last events (Some waits) mid.now new as_ rs
    (subst (λ p. UndroppedRun (at p mid.now) events as_ rs (at last new)) plain.pending rest))
hidden last (event.Tick ∷ events) (Some waits) old new (a ∷ as_) (r ∷ rs) (mid, inr done, rest) =
    rw done.answered (by_done last None old mid.now new events as_ rs r waits done.step
    (hidden last events None mid.now new as_ rs (subst (λ p. UndroppedRun (at p mid.now) events as_ rs (at last new)) done.after rest)))
hidden last events pending old new answers refusals run = absurd run

pub lags_hidden : LagsAreHidden
lags_hidden old new events answers refusals run =
    let left = hidden None events None old new answers refusals run in record {
      plain = left.plain;
      reported = left.reported;
      refused = left.refused;
      run = left.run;
      same_outs = sym (append-nil (outs left.plain left.reported)) ∙ left.same_outs;
      same_ins = left.same_ins;
      same_setups = left.same_setups;
      same_packets = left.same_packets;
      few = left.few;
    }
