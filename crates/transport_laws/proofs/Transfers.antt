-- What a host hears of an exchange does not depend on the size of a packet.
use Rattle.std.proofs.Common.{◌≡◌, ◌<◌, ◌≤◌, ℕ, zero, suc, Bool, false, List, [], ◌∷◌, ◌++◌, length, take, drop, map, refl, ap, subst, ◌∙◌}
use Rattle.std.proofs.{Common.{arith, length-drop, ◌-◌, inl, inr, ⊎_elim, sym, append_assoc, length-take}, lemmas.List.take-append-drop}
use Rattle.std.proofs.{lemmas.List.{take_all, drop_all}, lemmas.List.Elements.{All-head, All-tail}}
use Rattle.std.specs.Prelude.{Option, Result, Ok, Err, All, None}
use Rattle.spec.specs.{declared.wrapper.Cbw.Cbw, declared.way.Way.Way, declared.case.Case.Case, declared.case.Case.TheVariants.{C5, C6}}
use Rattle.logical_blocks.specs.Book.{with_progress}
use Rattle.scsi.specs.{Sense.Sense, Rules.{UnitState, CarriesOut, Ticks, intention, write_in_progress}}
use Rattle.spec.specs.declared.{case.Endpoint.Endpoint, status.Status.TheVariants.{Passed, Failed, PhaseError}, event.Event.Event}
use Rattle.spec.specs.{declared.event.Answer.Answer, declared.event.Answer.TheVariants.Ack, Packets.packets_of, Exchange.{Script, finished}}
use Rattle.spec.specs.Exchange.{taking, sending, Line, laid_out, sent_in, status_for, told, case_if_failed, at_rest, Moment, at_once}
use Rattle.spec.specs.{Exchange.{after_data, never, moment_of, outcome_for}, Conversation.{Conversation, OutStep, IsCarriedOut, Begins}}
use Rattle.spec.specs.{Conversation.{OpensExchange, Takes}, UnitConversation.{Intends, UnitStep, way_of, on_line}, Cases.IsCase}
use Rattle.logical_blocks.specs.Book.{StampsOut}
use Rattle.spec.specs.{Cases.size_of_way, CommandWrapper.SpellsCommand}
use Rattle.transport_laws.specs.Transfers.{packet_out, Asks, packets_in, status_in, data_in, heard_in, Transfer, events_of, Heard}
use Rattle.transport_laws.{specs.{Transfers.{IsTransferred, SizesAreAlike}, Striking.HasStamps}, proofs.Packets.packets_of-more}
use Rattle.transport_laws.proofs.{Packets.{packets_of-none, last_packet}, Rules.one_answer, StruckTicks.{one_request, Untroubled, opens_as}}
use Rattle.transport_laws.proofs.{StruckTicks.{untroubled, First, first_of}, Wrappers.{one_wrapper, one_case, at_once-writes_none}}

-- ---- lists of packets

abbrev join : List (List ℕ) → List ℕ
join [] = []
join (packet ∷ packets) = packet ++ join packets

data_before : (packets : List (List ℕ)) (status : List ℕ) → data_in (packets ++ status ∷ []) ≡ join packets
data_before (packet ∷ next ∷ packets) status = ap (λ l. packet ++ l) (data_before (next ∷ packets) status)
data_before packets status = refl

status_last : (packets : List (List ℕ)) (status : List ℕ) → status_in (packets ++ status ∷ []) ≡ status
status_last (packet ∷ next ∷ packets) status = status_last (next ∷ packets) status
status_last packets status = refl

-- what is heard where these packets and this status wrapper came
pub heard_so : (answers : List Answer) (packets : List (List ℕ)) (status bytes : List ℕ) → packets_in answers ≡ packets ++ status ∷ []
    → join packets ≡ bytes → heard_in answers ≡ record { bytes = bytes; status = status }
heard_so answers packets status bytes told joined = simp (told, data_before, status_last, joined)

-- the packets of data are the data
joined_up : (size : ℕ) → 0 < size → (n : ℕ) (bytes : List ℕ) → length bytes ≤ n → join (packets_of size bytes) ≡ bytes
joined_up size some n [] few = ap join (packets_of-none size some)
joined_up size some zero (byte ∷ bytes) few = absurd (omega (arith, few))
joined_up size some (suc n) (byte ∷ bytes) few =
    let all : List ℕ = byte ∷ bytes in
    let fewer : length (drop size all) ≤ n = omega (arith, few, some, length-drop size all) in
    ap join (packets_of-more size all some (omega arith))
    ∙ ap (λ l. take size all ++ l) (joined_up size some n (drop size all) fewer) ∙ take-append-drop size all

-- ---- the host asks

-- what the answers give where this is left of the exchange and nothing is left afterwards
abbrev pub Ends : Script → List Answer → Type 0
Ends finished answers = packets_in answers ≡ []
Ends (taking case command intended bytes due) answers = ⊥
Ends (sending packets halt status) answers = packets_in answers ≡ packets ++ status ∷ []

quiet : (left : Script) (answer : Answer) (answers : List Answer) → packets_in (answer ∷ answers) ≡ packets_in answers
    → Ends left answers → Ends left (answer ∷ answers)
quiet left answer answers same ends = grind arith

-- one event by which the host asks
asked : (happens : Event) (old mid : Conversation UnitState) (answer : Answer) (answers : List Answer) → Asks happens
    → UnitStep false old happens answer mid → Ends mid.line.left answers → Ends old.line.left (answer ∷ answers) × (mid.unit ≡ old.unit)
asked happens old mid answer answers asks step ends = grind (arith, one_request)

pub asks_end : (asks : List Event) → All Asks asks → (answers : List Answer) (old new : Conversation UnitState)
    → Untroubled old asks answers new → new.line.left ≡ finished → Ends old.line.left answers × (new.unit ≡ old.unit)
asks_end (e ∷ es) only (a ∷ as_) old new (mid, step, stamps, rest) ends =
    let later = asks_end es (All-tail Asks e es only) as_ mid new rest ends in
    let now = asked e old mid a as_ (All-head Asks e es only) step later.0 in (now.0, later.1 ∙ now.1)
asks_end asks only answers old new run ends = grind arith

-- ---- packets to Bulk-Out while something is sent

abbrev pub Sends : Script → Type 0
Sends (sending packets halt status) = Unit {0}
Sends left = ⊥

idle : (halted : Bool) (left : Script) (packet : List ℕ) (old mid : Conversation UnitState) (answer : Answer) (answers : List Answer)
    → Sends left → OutStep Intends CarriesOut Ticks false halted left packet old answer mid
    → (mid ≡ old) × (packets_in (answer ∷ answers) ≡ packets_in answers)
idle halted left packet old mid answer answers sends step = grind arith

pub sends_all : (sent : List (List ℕ)) (asks : List Event) → All Asks asks → (answers : List Answer) (old new : Conversation UnitState)
    → Sends old.line.left → Untroubled old (map packet_out sent ++ asks) answers new → new.line.left ≡ finished
    → Ends old.line.left answers × (new.unit ≡ old.unit)
sends_all [] asks only answers old new sends run ends = asks_end asks only answers old new run ends
sends_all (packet ∷ sent) asks only (a ∷ as_) old new sends (mid, step, stamps, rest) ends =
    let same = idle old.line.out_halted old.line.left packet old mid a as_ sends step in
    let later = sends_all sent asks only as_ old new sends
    (subst (λ c. Untroubled c (map packet_out sent ++ asks) as_ new) same.0 rest) ends in
    (quiet old.line.left a as_ same.1 later.0, later.1)
sends_all sent asks only answers old new sends run ends = absurd run

-- ---- what is laid out, and what a command that was carried out tells

pub laid : (packets : List (List ℕ)) (halt : Option Endpoint) (status : List ℕ) (line : Line)
    → Sends (laid_out packets halt status line).left
    × ((answers : List Answer) → Ends (laid_out packets halt status line).left answers → packets_in answers ≡ packets ++ status ∷ [])
laid packets halt status line = grind arith

abbrev pub status_told : Case → Cbw → Way → Result (List ℕ) Sense → List ℕ
status_told case command intended (Ok bytes) = status_for case command intended Passed
status_told case command intended (Err fault) = status_for (case_if_failed case) command intended Failed

abbrev pub bytes_told : Case → Result (List ℕ) Sense → List ℕ
bytes_told C5 (Ok bytes) = bytes
bytes_told C6 (Ok bytes) = bytes
bytes_told case answer = []

module _ (size : ℕ) (some : 0 < size) where
  sent_bytes : (case : Case) (bytes : List ℕ) → join (sent_in size case bytes) ≡ bytes_told case (Ok bytes)
  sent_bytes case bytes = let all = joined_up size some (length bytes) bytes (omega arith) in grind arith

  -- what is heard of it
  pub told_heard : (case : Case) (command : Cbw) (intended : Way) (answer : Result (List ℕ) Sense) (line : Line) (answers : List Answer)
      → line.packet_size ≡ size → Ends (told case command intended answer line).left answers
      → heard_in answers ≡ record { bytes = bytes_told case answer; status = status_told case command intended answer }
  told_heard case command intended (Ok bytes) line answers is ends =
      heard_so answers (sent_in size case bytes) _ _ (rw (← is) ((laid (sent_in line.packet_size case bytes) _ _ line).1 answers ends))
      (sent_bytes case bytes)
  told_heard case command intended (Err fault) line answers is ends =
      heard_so answers [] _ _ ((laid [] _ _ line).1 answers ends) (grind arith)

  pub told_sends : (case : Case) (command : Cbw) (intended : Way) (answer : Result (List ℕ) Sense) (line : Line)
      → Sends (told case command intended answer line).left
  told_sends case command intended answer line = grind (arith, laid)

-- what is taken of the first bytes and then of others
front_first : (n : ℕ) (xs ys : List ℕ) → take n (take n xs ++ ys) ≡ take n (xs ++ ys)
front_first (suc n) (x ∷ xs) ys = ap (λ l. x ∷ l) (front_first n xs ys)
front_first n xs ys = grind arith

-- what comes of a transfer, whatever the size of a packet
record CarriedOut (case : Case) (command : Cbw) (intended : Way) (bytes : List ℕ) (old new : UnitState) (heard : Heard) : Type 0 where
  answer : Result (List ℕ) Sense
  effect : CarriesOut false command.block.items bytes old answer new
  stamps : ¬ StampsOut (with_progress old.book (write_in_progress old command.block.items bytes))
  heard_is : heard ≡ record { bytes = bytes_told case answer; status = status_told case command intended answer }

abbrev Outcome : Moment → Case → Cbw → Way → List ℕ → UnitState → UnitState → Heard → Type 0
Outcome at_once case command intended sent old new heard = CarriedOut case command intended [] old new heard
Outcome after_data case command intended sent old new heard =
    CarriedOut case command intended (take (size_of_way intended) sent) old new heard
Outcome never case command intended sent old new heard =
    (new ≡ old) × (heard ≡ record { bytes = []; status = status_for case command intended PhaseError })

one_carried_out : (case : Case) (command : Cbw) (intended : Way) (bytes : List ℕ) (old new last : UnitState) (heard again : Heard)
    → CarriedOut case command intended bytes old new heard → CarriedOut case command intended bytes old last again
    → (new ≡ last) × (heard ≡ again)
one_carried_out case command intended bytes old new last heard again a b =
    let same = one_answer command.block.items bytes old new last a.answer b.answer a.stamps a.effect b.effect in grind arith

one_outcome : (moment : Moment) (case : Case) (command : Cbw) (intended : Way) (sent : List ℕ) (old new last : UnitState)
    (heard again : Heard) → Outcome moment case command intended sent old new heard
    → Outcome moment case command intended sent old last again → (new ≡ last) × (heard ≡ again)
one_outcome moment case command intended sent old new last heard again a b = grind (arith, one_carried_out)

module _ (size : ℕ) (some : 0 < size) (case : Case) (command : Cbw) (intended : Way) (asks : List Event) (only : All Asks asks)
    (new : Conversation UnitState) (ends : new.line.left ≡ finished) where
  -- what is heard of a command that was carried out
  heard_of : (bytes : List ℕ) (from mid : Conversation UnitState) (sent : List (List ℕ)) (answers later : List Answer)
      → ¬ StampsOut (with_progress from.unit.book (write_in_progress from.unit command.block.items bytes)) → from.line.packet_size ≡ size
      → IsCarriedOut Intends CarriesOut Ticks false case command intended bytes from mid → packets_in answers ≡ packets_in later
      → Untroubled mid (map packet_out sent ++ asks) later new
      → CarriedOut case command intended bytes from.unit new.unit (heard_in answers)
  heard_of bytes from mid sent answers later stamps is carried same run =
      let sends = told_sends size some case command intended carried.answer from.line in
      let last = sends_all sent asks only later mid new (rw carried.after sends) run ends in
      record {
        answer = carried.answer;
        effect = rw last.1 carried.effect;
        stamps = stamps;
        heard_is = rw same (told_heard size some case command intended carried.answer from.line later is (rw (← carried.after) last.0));
      }

  -- ---- the data is taken

  -- data is expected, of which these bytes came
  record Awaits (line : Conversation UnitState) (came : List ℕ) (due : ℕ) : Type 0 where
    halted : line.line.out_halted ≡ false
    packets : line.line.packet_size ≡ size
    left : line.line.left ≡ taking case command intended came due

  abbrev from : Conversation UnitState → List ℕ → ℕ → Conversation UnitState
  from old came due = record old { line = record old.line { out_halted = false; left = taking case command intended came due } }

  -- a packet of it
  takes : (old mid : Conversation UnitState) (came : List ℕ) (due : ℕ) (packet : List ℕ) (answer : Answer) → Awaits old came due
      → UnitStep false old (packet_out packet) answer mid → HasStamps old (packet_out packet)
      → ((answer ≡ Ack) × Takes Intends CarriesOut Ticks false case command intended came due packet (from old came due) mid)
      × HasStamps (from old came due) (packet_out packet)
  takes old mid came due packet answer awaits step stamps =
      (rw (awaits.halted, awaits.left) at step, rw (awaits.halted, awaits.left) at stamps)

  module _ (rest came : List ℕ) (answers : List Answer) (old : Conversation UnitState) (awaits : Awaits old came (length rest))
      (f : First old new (packet_out (take size rest)) (map packet_out (packets_of size (drop size rest)) ++ asks) answers) where
    abbrev bytes : List ℕ
    bytes = take (size_of_way intended) (came ++ take size rest)

    took : (length (drop size rest) < length rest → 0 < length (drop size rest) → Awaits f.mid bytes (length (drop size rest))
        → CarriedOut case command intended (take (size_of_way intended) (bytes ++ drop size rest)) f.mid.unit new.unit (heard_in f.later))
        → CarriedOut case command intended (take (size_of_way intended) (came ++ rest)) old.unit new.unit (heard_in answers)
    took again =
        let now = takes old f.mid came (length rest) (take size rest) f.answer awaits f.step f.stamps in
        let sized = awaits.packets in
        elim now.0.1 [
          | inl m ↦
              let more = m.more in
              let due : length rest - old.line.packet_size ≡ length (drop size rest) = omega (arith, length-drop size rest) in
              let next : Awaits f.mid bytes (length (drop size rest)) = grind arith in
              let whole : take (size_of_way intended) (bytes ++ drop size rest) ≡ take (size_of_way intended) (came ++ rest) =
              simp (front_first, append_assoc, take-append-drop) in
              rw (f.told, now.0.0, ← whole, ← m.unit) (again (omega arith) (omega arith) next)
          | inr other ↦ elim other [
            | inl l ↦
                let last : length rest ≤ size = let h = l.last in omega arith in
                let all = take_all size rest last in
                let wrote = last_packet old.line.packet_size (length (take size rest)) (length rest)
                (write_in_progress old.unit command.block.items bytes) None l.size l.last in
                heard_of (take (size_of_way intended) (came ++ rest)) (from old came (length rest)) f.mid [] answers f.later
                (subst (λ p. ¬ StampsOut (with_progress old.unit.book
                (write_in_progress old.unit command.block.items (take (size_of_way intended) (came ++ p))))) all
                (subst (λ w. ¬ StampsOut (with_progress old.unit.book w)) (sym wrote) now.1))
                sized (subst (λ p. IsCarriedOut Intends CarriesOut Ticks false case command intended
                (take (size_of_way intended) (came ++ p)) (from old came (length rest)) f.mid) all l.carried_out)
                (rw (f.told, now.0.0) refl) (rw (drop_all size rest last, packets_of-none size some) at f.run)
            | inr off ↦ let h = off.size in absurd (omega (arith, length-take size rest))
          ]
        ]

  all_taken : (n : ℕ) (rest came : List ℕ) (answers : List Answer) (old : Conversation UnitState) → length rest ≤ n → 0 < length rest
      → Awaits old came (length rest) → Untroubled old (map packet_out (packets_of size rest) ++ asks) answers new
      → CarriedOut case command intended (take (size_of_way intended) (came ++ rest)) old.unit new.unit (heard_in answers)
  all_taken (suc n) rest came answers old few more awaits run =
      let f = first_of old new (packet_out (take size rest)) (map packet_out (packets_of size (drop size rest)) ++ asks) answers
      (subst (λ (l : List (List ℕ)). Untroubled old (map packet_out l ++ asks) answers new) (packets_of-more size rest some more) run) in
      took rest came answers old awaits f (λ fewer more awaits. all_taken n (drop size rest) _ f.later f.mid
      (omega arith) more awaits f.run)
  all_taken n rest came answers old few more awaits run = absurd (omega (arith, few, more))

-- ---- one transfer

-- a packet that spells a command wrapper
opened : (size : ℕ) (wrapper : List ℕ) (command : Cbw) → SpellsCommand wrapper command → (old : UnitState) (mid : Conversation UnitState)
    (answer : Answer) → UnitStep false (on_line (at_rest size) old) (packet_out wrapper) answer mid
    → (answer ≡ Ack) × OpensExchange Intends CarriesOut Ticks false wrapper (on_line (at_rest size) old) mid
opened size wrapper command spelled old mid answer (ack, inl opens) = (ack, opens)
opened size wrapper command spelled old mid answer (ack, inr locks) = absurd (locks.unknown command spelled)

module _ (size : ℕ) (some : 0 < size) (t : Transfer) (old new : UnitState) (asks : List Event) (only : All Asks asks)
    (answers : List Answer) (f : First (on_line (at_rest size) old) (on_line (at_rest size) new) (packet_out t.wrapper)
    (map packet_out (packets_of size t.sent) ++ asks) answers) (ack : f.answer ≡ Ack) (case : Case) (intended : Way)
    (intends : Intends old t.command.block.items intended) (is_case : IsCase case t.command.host intended) where
  abbrev end : Conversation UnitState
  end = on_line (at_rest size) new

  by_data : (sent : List ℕ) → t.sent ≡ sent
      → Awaits size some case t.command intended asks only end refl f.mid [] (size_of_way t.command.host) → f.mid.unit ≡ old
      → Outcome after_data case t.command intended t.sent old new (heard_in answers)
  by_data [] none awaits same =
      let asked = asks_end asks only f.later f.mid end (rw (none, packets_of-none size some) at f.run) refl in
      absurd (rw awaits.left at asked.0)
  by_data (byte ∷ bytes) is awaits same =
      let whole : length t.sent ≡ size_of_way t.command.host =
      ⊎_elim (λ none. absurd (let e = sym none ∙ is in cc)) (λ all. all) t.announced in
      let d = all_taken size some case t.command intended asks only end refl (length t.sent) t.sent [] f.later f.mid (omega arith)
      (rw is (omega arith)) (rw whole awaits) f.run in
      rw (f.told, ack, ← same) d

  outcome : (moment : Moment) → moment ≡ moment_of case
      → Begins Intends CarriesOut Ticks false moment case t.command intended (on_line (at_rest size) old) f.mid
      → Outcome moment case t.command intended t.sent old new (heard_in answers)
  outcome at_once is begins =
      let none = at_once-writes_none old t.command.block.items [] case t.command.host intended intends is_case (sym is) in
      heard_of size some case t.command intended asks only end refl [] (on_line (at_rest size) old) f.mid
      (packets_of size t.sent) answers f.later (rw none f.stamps) refl begins (rw (f.told, ack) refl) f.run
  outcome never is begins =
      let status = status_for case t.command intended PhaseError in
      let sends = laid [] (outcome_for case t.command intended).halt status (at_rest size) in
      let last = sends_all (packets_of size t.sent) asks only f.later f.mid end (rw begins.1 sends.0) f.run refl in
      (last.1 ∙ begins.0, rw (f.told, ack) (heard_so f.later [] status [] (sends.1 f.later (rw (← begins.1) last.0)) refl))
  outcome after_data is begins = by_data t.sent refl (grind arith) begins.0

-- ---- transfers at two sizes

-- what comes of one transfer, by the case and what the unit intends
transferred : (size : ℕ) → 0 < size → (t : Transfer) (old new : UnitState) (heard : Heard) → IsTransferred size t old new heard
    → (case : Case) × (let intended : Way = way_of (intention old t.command.block.items) in
    IsCase case t.command.host intended × Outcome (moment_of case) case t.command intended t.sent old new heard)
transferred size some t old new heard a =
    let f = first_of (on_line (at_rest size) old) (on_line (at_rest size) new) (packet_out t.wrapper)
    (map packet_out (packets_of size t.sent) ++ a.asks) a.answers
    (untroubled (on_line (at_rest size) old) (events_of size t a.asks) a.answers a.refusals (on_line (at_rest size) new) a.run
    a.untroubled) in
    let o = opened size t.wrapper t.command t.spelled old f.mid f.answer f.step in
    let case = o.1.case in
    let is_case = rw (o.1.intends, one_wrapper t.wrapper o.1.command t.command o.1.spelled t.spelled) at o.1.is_case in (
      case,
      (
        is_case,
        rw a.heard_is (outcome size some t old new a.asks a.only a.answers f o.0 case _ refl is_case (moment_of case) refl
            (opens_as t.wrapper (on_line (at_rest size) old) f.mid t.command _ case t.spelled refl is_case o.1)),
      ),
    )

one_transfer : (size other : ℕ) → 0 < size → 0 < other → (t : Transfer) (old new last : UnitState) (heard again : Heard)
    → IsTransferred size t old new heard → IsTransferred other t old last again → (new ≡ last) × (heard ≡ again)
one_transfer size other some more t old new last heard again a b =
    let p = transferred size some t old new heard a in
    let q = transferred other more t old last again b in
    one_outcome (moment_of p.0) p.0 t.command _ t.sent old new last heard again p.1.1
    (rw (one_case q.0 p.0 _ _ q.1.0 p.1.0) at q.1.1)

pub sizes_alike : SizesAreAlike
sizes_alike size other some more [] old new last [] [] a b = (a ∙ sym b, refl)
sizes_alike size other some more (t ∷ ts) old new last (heard ∷ rest) (again ∷ others) a b =
    let one = one_transfer size other some more t old a.0 b.0 heard again a.1 b.1 in
    let left = sizes_alike size other some more ts a.0 new last rest others a.2 (rw one.0 b.2) in
    grind arith
sizes_alike size other some more transfers old new last heard again a b = grind arith
