-- A packet to Bulk-Out where the device may be behind: it is acted on at once, or its command is pending.
use Rattle.std.proofs.Common.{◌≡◌, ◌≤◌, ◌++◌, ◌*◌, ◌+◌, min, ℕ, Bool, false, List, [], ◌∷◌, Ok, Result, Some, None}
use Rattle.std.proofs.Common.{length, take, arith, refl, sym, ap, ◌∙◌, subst, inl, inr}
use Rattle.medium.{specs.Medium.{State, IsSound}, proofs.SparedSectors.spared_start}
use Rattle.logical_blocks.specs.Book.{Book}
use Rattle.scsi.specs.{Sense.Sense, Rules.{CarriesOut, Ticks, checked_for_fault, moves_after}}
use Rattle.spec.specs.{Cases.size_of_way, Packets.bytes_of}
use Rattle.spec.specs.Conversation.{OutStep, Begins as begins_case, IsCarriedOut}
use Rattle.spec.specs.Exchange.{Script, finished, moment_of, Moment, at_once}
use Rattle.spec.specs.UnitConversation.{Intends, on_line, way_of}
use Rattle.spec.specs.Lagging.{AcknowledgesAny}
use Rattle.spec.specs.declared.event.Answer.TheVariants.{Ack}
use Rattle.scsi_unit.specs.{Background.is_dead, Serving.{command_for, has_refused}}
use Rattle.scsi_unit.specs.UnitValue.{UnitValue, unit_limit, intention_of, state_of, IsOfSize}
use Rattle.scsi_unit.specs.{Pending.StepKeeps}
use Rattle.scsi_unit.proofs.{UnitRuns.comes_itself, UnitLaws.fits_size}
use Rattle.bot_machine.specs.declared.exchange.Exchange.{Exchange}
use Rattle.bot_machine.specs.declared.bulk_state.{BulkState.BulkState, Taking.Taking, Phase.Phase}
use Rattle.bot_machine.specs.declared.bulk_state.Phase.TheVariants.{Command, DataOut}
use Rattle.bot_machine.specs.declared.pending.{Wanted.Wanted}
use Rattle.bot_machine.specs.Refinement.{line_of, line_with, left_of, taking_of, IsInPhase, IsTaking}
use Rattle.bot_machine.specs.Serving.{IsBegun}
use Rattle.bot_machine.specs.LaggingParts.{CommandBegun, PacketTaken}
use Rattle.bot_machine.proofs.{Wrappers.opens, LaggingParts.intends_parsed, Packets.lies_after, BooksGoOn.{more_held, stays_on}}

-- where a wrapper is expected nothing is left, whatever the buffer
pub nothing_left : (bulk : BulkState) (buffer : List ℕ) → bulk.phase ≡ Command → (line_of bulk buffer).left ≡ finished
nothing_left bulk buffer expected = ap (λ (p : Phase). left_of (bytes_of bulk.size) p buffer bulk.status) expected

pub same_lines : (bulk : BulkState) (before after : List ℕ) → bulk.phase ≡ Command → line_of bulk before ≡ line_of bulk after
same_lines bulk before after expected =
    ap (λ (left : Script). line_with bulk left) (nothing_left bulk before expected ∙ sym (nothing_left bulk after expected))

module _ {M : Type 0} {state : M → State} {Follows : M → M → Type 0} (itself : (m : M) → Follows m m) (sound : (m : M) → IsSound (state m))
    (unit : UnitValue M) (from to : BulkState) (before after packet : List ℕ) where
  keeps_itself : StepKeeps state Follows unit unit
  keeps_itself = record {
    goes_on = record {
      failures_stay = omega arith;
      size_stays = refl;
      layout_stays = refl;
      keeps_stays = refl;
      spares = spared_start _ (state unit.store.medium) (sound unit.store.medium);
      blocks_stay = refl;
      dead_stays = λ dead. dead;
      cause = λ live dead. absurd (cc (live, dead));
    };
    identity = refl;
    policy = refl;
    follows = comes_itself itself;
  }

  -- the unit has nothing to do
  pub acts_alone : ((book : Book) → IsOfSize unit book
      → OutStep Intends CarriesOut Ticks (has_refused (state unit.store.medium) (state unit.store.medium)) false (line_of from before).left
      packet (on_line (line_of from before) (state_of unit book)) Ack (on_line (line_of to after) (state_of unit book)))
      → IsInPhase (unit_limit unit) (intention_of unit) to.phase → to.size ≡ from.size → length after ≡ length before
      → PacketTaken state Follows unit from before packet None unit to after
  acts_alone step phase size room = record {
    acts = λ book f. record {
      later = book;
      step = step book (fits_size (state unit.store.medium) unit book f);
      fits = f;
      on = stays_on ⊥ (is_dead unit.store.cached) None None book (more_held book None);
    };
    pends = tt;
    phase = phase;
    room = room;
    medium = refl;
    passes = record { keeps = keeps_itself; limit = refl; size = size };
    halts = tt;
  }

pub nothing_from : (xs : List ℕ) → length xs ≡ 0 → xs ≡ []
nothing_from [] none = refl
nothing_from (x ∷ xs) none = absurd (omega (arith, none))

-- ---- a wrapper whose command takes no data

module _ {M : Type 0} {state : M → State} {Follows : M → M → Type 0} (unit new : UnitValue M) (from to : BulkState)
    (before out packet : List ℕ) (e : Exchange) (begun : IsBegun unit packet e) (once : at_once ≡ moment_of e.case)
    (expected : from.phase ≡ Command) (long : length out ≡ length before) where
  pub at_once_over : CommandBegun state Follows unit from e [] None new to out
      → PacketTaken state Follows unit from before packet None new to out
  at_once_over b = record {
    acts = λ book f.
        let o = b.goes book f in
        let left = (line_of from before).left in
        let refused = has_refused (state unit.store.medium) (state new.store.medium) in
        let old = on_line (line_of from before) (state_of unit book) in
        let later = on_line (line_of to out) (state_of new o.next) in
        record {
          later = o.next;
          step = subst (λ (l : Script). OutStep Intends CarriesOut Ticks refused false l packet old Ack later)
              (sym (nothing_left from before expected)) (
                refl,
                inl (opens unit book (fits_size (state unit.store.medium) unit book f) packet e begun refused (line_of from before) later
                    (subst (λ (m : Moment). begins_case Intends CarriesOut Ticks refused m e.case e.command e.intended old later) once
                    (o.carried_out out left (λ same. refl)))),
              );
          fits = o.fits;
          on = o.on;
        };
    pends = tt;
    phase = b.leaves;
    room = long;
    medium = b.medium;
    passes = b.passes;
    halts = tt;
  }

  pub at_once_wants : (wanted : Wanted) → length before ≡ 512 * unit_limit unit
      → CommandBegun state Follows unit from e [] (Some wanted) new to out
      → PacketTaken state Follows unit from before packet (Some (record { wrapper = Some e; wanted = wanted })) new to out
  at_once_wants wanted room b =
      let unmoved = b.leaves.unmoved in
      let pends = b.leaves.pends in
      let expects : to.phase ≡ Command = ap (λ (bulk : BulkState). bulk.phase) unmoved ∙ expected in
      let lines : line_of from before ≡ line_of to out =
      same_lines from before out expected ∙ sym (ap (λ (bulk : BulkState). line_of bulk out) unmoved) in
      record {
        acts = λ book f. (
          refl,
          subst (λ (l : Script). AcknowledgesAny false l) (sym (nothing_left from before expected)) tt,
          record {
            packet = packet;
            spelled = begun.spelled;
            is = rw (lines, (b.goes book f).stays) refl;
            fits = (b.goes book f).fits;
          },
        );
        pends = record {
          expected = nothing_left to out expects;
          is_at_once = sym once;
          intended = begun.intended ∙ ap way_of (intends_parsed unit e.command.block.items ∙ ap moves_after (b.parsed wanted refl));
          pends = rw (b.passes.limit, ← room, ← long) pends;
        };
        phase = rw expects tt;
        room = long;
        medium = b.medium;
        passes = b.passes;
        halts = ap (λ (bulk : BulkState). bulk.out_halted) unmoved;
      }

-- ---- the last packet of data

pub passes_live : (dead : Bool) (wanted : Wanted) → dead ≡ false
    → checked_for_fault dead (let good : Result _ Sense = Ok wanted.command in good) ≡ Ok wanted.command
passes_live dead wanted live = rw live refl

-- the line without the data
abbrev pub bare_of : BulkState → BulkState
bare_of bulk = record bulk { phase = Command }

-- the line with all of it
abbrev pub full_of : BulkState → Taking → ℕ → BulkState
full_of bulk t filled = record bulk { phase = DataOut (record { exchange = t.exchange; filled = filled; due = 0 }) }

-- what was left before the packet
pub left_data : (bulk : BulkState) (before : List ℕ) (t : Taking) → bulk.phase ≡ DataOut t → (line_of bulk before).left ≡ taking_of t before
left_data bulk before t is = ap (λ (p : Phase). left_of (bytes_of bulk.size) p before bulk.status) is

-- what the unit intends stays
steady : {M : Type 0} (unit new : UnitValue M) (block : List ℕ) (wanted : Wanted) → command_for unit block ≡ Ok wanted.command
    → command_for new block ≡ Ok wanted.command → intention_of new block ≡ intention_of unit block
steady unit new block wanted then now =
    intends_parsed new block ∙ ap moves_after (now ∙ sym then) ∙ sym (intends_parsed unit block)

module _ {M : Type 0} {state : M → State} {Follows : M → M → Type 0} (unit new : UnitValue M) (from to : BulkState)
    (before after packet : List ℕ) (t : Taking) (filled : ℕ) (is : from.phase ≡ DataOut t)
    (held : IsTaking (unit_limit unit) (intention_of unit) t) (whole : length packet ≡ t.due) (last : t.due ≤ bytes_of from.size)
    (filled_is : filled ≡ min (size_of_way t.exchange.intended) (t.filled + length packet))
    (bytes : take filled after ≡ take (size_of_way t.exchange.intended) (take t.filled before ++ packet))
    (long : length after ≡ length before) where
  pub data_over : CommandBegun state Follows unit (bare_of from) t.exchange (take filled after) None new to []
      → PacketTaken state Follows unit from before packet None new to after
  data_over b = record {
    acts = λ book f.
        let o = b.goes book f in
        let refused = has_refused (state unit.store.medium) (state new.store.medium) in
        let old = on_line (line_of from before) (state_of unit book) in
        let later = on_line (line_of to after) (state_of new o.next) in
        record {
          later = o.next;
          step = subst (λ (l : Script). OutStep Intends CarriesOut Ticks refused false l packet old Ack later) (sym (left_data from
              before t is)) (
                refl,
                inr (inl (record {
                  size = whole;
                  last = last;
                  carried_out = subst (λ (taken : List ℕ). IsCarriedOut Intends CarriesOut Ticks refused t.exchange.case t.exchange.command
                      t.exchange.intended taken old later) bytes
                      (o.carried_out after (line_of from before).left (lies_after after t.exchange.case [] held.moment));
                })),
              );
          fits = o.fits;
          on = o.on;
        };
    pends = tt;
    phase = b.leaves;
    room = long;
    medium = b.medium;
    passes = record { keeps = b.passes.keeps; limit = b.passes.limit; size = b.passes.size };
    halts = tt;
  }

  pub data_wants : (wanted : Wanted) → CommandBegun state Follows unit (bare_of from) t.exchange (take filled after) (Some wanted) new to []
      → PacketTaken state Follows unit from before packet (Some (record { wrapper = None; wanted = wanted })) new (full_of to t
      filled) after
  data_wants wanted b =
      let unmoved = b.leaves.unmoved in
      let pends = b.leaves.pends in
      let block = t.exchange.command.block.items in
      let now : command_for new block ≡ Ok wanted.command = sym pends.parsed ∙ passes_live (is_dead new.store.cached) wanted
      b.leaves.live in
      let same = steady unit new block wanted (b.parsed wanted refl) now in
      record {
        acts = λ book f. (
          refl,
          subst (λ (l : Script). AcknowledgesAny false l) (sym (left_data from before t is)) tt,
          record {
            packet = packet;
            bytes = take t.filled before;
            few = rw (unmoved) (omega (arith, whole, last));
            taken_is = bytes;
            is = rw (left_data from before t is, unmoved, whole, (b.goes book f).stays) refl;
            fits = (b.goes book f).fits;
          },
        );
        pends = (refl, held.moment, pends);
        phase = record {
          is_case = held.is_case;
          moment = held.moment;
          within = omega arith;
          room = rw b.passes.limit held.room;
          filled_is = omega (arith, filled_is, held.filled_is, held.within, whole);
          intended = λ n out_n. held.intended n (sym same ∙ out_n);
          sends_none = λ n in_n. held.sends_none n (sym same ∙ in_n);
        };
        room = long;
        medium = b.medium;
        passes = record { keeps = b.passes.keeps; limit = b.passes.limit; size = b.passes.size };
        halts = ap (λ (bulk : BulkState). bulk.out_halted) unmoved;
      }
