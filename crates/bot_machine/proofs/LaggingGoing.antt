-- A command that is pending goes on: it is over, and its packet is acted on, or it is still pending.
use Rattle.std.proofs.Common.{◌≡◌, ◌≢◌, ◌≤◌, ◌⊎◌, ◌++◌, ◌*◌, ℕ, Bool, true, false, List, [], Ok, Err, Result, Some, None, Option}
use Rattle.std.proofs.{Common.{length, take, arith, refl, sym, ap, ◌∙◌, subst, inl, inr}, lemmas.Bool.{Decides.nat_tests}}
use Rattle.medium.specs.{Medium.State, Moments.LeavesOnly}
use Rattle.logical_blocks.specs.{Blocks.Write, Book.{Book, with_progress}}
use Rattle.scsi.specs.{Sense.Sense, SenseCodes.internal_target_failure, declared.command.Command.Command}
use Rattle.scsi.specs.Rules.{UnitState, CarriesOut, Ticks, checked, checked_for_fault, moves, moves_after, write_of_command, intention_by}
use Rattle.scsi.specs.Rules.{reads_blocks, write_in_progress, write_after, fails_with, IsByTable}
use Rattle.spec.specs.{declared.wrapper.Cbw.Cbw, declared.way.Way.Way, declared.case.Case.Case, CommandWrapper.SpellsCommand}
use Rattle.spec.specs.{Cases.{IsCase, size_of_way}, Conversation.{Conversation, OutStep, OpensExchange, IsCarriedOut}}
use Rattle.spec.specs.Conversation.{Begins as begins_case}
use Rattle.spec.specs.Exchange.{Line, Script, finished, taking, told, moment_of, Moment, at_once, after_data, case_if_failed}
use Rattle.spec.specs.UnitConversation.{Intends, on_line, way_of, write_of_packet}
use Rattle.spec.specs.{Lagging.Lagging, Disks.pending_write}
use Rattle.spec.specs.declared.event.Answer.TheVariants.{Ack}
use Rattle.spec.specs.declared.way.Way.TheVariants as ways
use Rattle.scsi.specs.declared.intent.Intent.TheVariants as intent
use Rattle.scsi_unit.specs.{Background.is_dead, Books.MayFind, Serving.has_refused}
use Rattle.scsi_unit.specs.UnitValue.{UnitValue, unit_limit, state_of}
use Rattle.scsi_unit.specs.Pending.{MayPromise, book_held, may_want, transfer_of, write_held}
use Rattle.scsi_unit.proofs.WantedCommands.{read_in}
use Rattle.scsi_unit.specs.declared.progress.Want.{Want}
use Rattle.scsi_unit.specs.declared.progress.Want.TheVariants as want
use Rattle.bot_machine.specs.declared.exchange.Exchange.{Exchange}
use Rattle.bot_machine.specs.declared.bulk_state.{BulkState.BulkState, Taking.Taking, Phase.Phase}
use Rattle.bot_machine.specs.declared.bulk_state.Phase.TheVariants as phases
use Rattle.bot_machine.specs.declared.pending.{Wanted.Wanted}
use Rattle.bot_machine.specs.Refinement.{line_of, line_with, left_of}
use Rattle.bot_machine.specs.{Disk.{DiskValue, over}, LaggingDisk.{HasWrapper, HasLastPacket, StandsPending, held_write}}
use Rattle.bot_machine.specs.LaggingParts.{CommandAdvanced, PendingAdvanced, PendsAtOnce, PendsFor, CommandCarriedOut}
use Rattle.bot_machine.specs.LaggingParts.{HasMore, PendingCompleted, disk_of}
use Rattle.bot_machine.proofs.LaggingParts.{pending_size, parsed_by_book}
use Rattle.bot_machine.proofs.{LaggingPackets.{bare_of, same_lines, nothing_left, left_data, passes_live}, Packets.lies_after}
use Rattle.transport_laws.proofs.Packets.{last_packet}
use Rattle.spec.specs.Packets.{bytes_of}

-- ---- the case is kept, though the unit may have been faulted meanwhile

found : (faulted : Bool) (command : Command)
    → (checked_for_fault faulted (Ok command) ≡ Ok command) ⊎ (checked_for_fault faulted (Ok command) ≡ Err internal_target_failure)
found faulted command = grind arith

-- nothing is intended any more: case 4 where the host expects data, and else the same
is_four : (case : Case) (host intended : Way) → IsCase case host intended → moment_of case ≡ at_once
    → IsCase (case_if_failed case) host ways.Nothing
is_four case host intended is_case moment = grind arith

four_at_once : (case : Case) → moment_of case ≡ at_once → moment_of (case_if_failed case) ≡ at_once
four_at_once case moment = grind arith

tells_four : (case : Case) (command : Cbw) (intended : Way) (line : Line) (fault : Sense) → IsCase case command.host intended
    → moment_of case ≡ at_once
    → told {F = Sense} case command intended (Err fault) line ≡ told (case_if_failed case) command ways.Nothing (Err fault) line
tells_four case command intended line fault is_case moment = grind arith

intends_by : (unit : UnitState) (block : List ℕ) (parsed : Result Command Sense) (intended : Way) → checked unit block ≡ parsed
    → intended ≡ way_of (moves_after parsed) → Intends unit block intended
unfolding intention_by
intends_by unit block parsed intended is intends = rw is intends

module _ (refused : Bool) (packet : List ℕ) (e : Exchange) (command : Command) (old new : Conversation UnitState)
    (spelled : SpellsCommand packet e.command) (is_case : IsCase e.case e.command.host e.intended) (moment : moment_of e.case ≡ at_once)
    (intended : e.intended ≡ way_of (moves command))
    (done : IsCarriedOut Intends CarriesOut Ticks refused e.case e.command e.intended [] old new) where
  -- the unit is not faulted, or the command does not mind
  opens_live : checked old.unit e.command.block.items ≡ Ok command → OpensExchange Intends CarriesOut Ticks refused packet old new
  opens_live is = record {
    command = e.command;
    intended = e.intended;
    case = e.case;
    spelled = spelled;
    intends = intends_by old.unit e.command.block.items (Ok command) e.intended is intended;
    is_case = is_case;
    begins = subst (λ (m : Moment). begins_case Intends CarriesOut Ticks refused m e.case e.command e.intended old new) (sym moment) done;
  }

  -- it was faulted since the wrapper came
  opens_faulted : checked old.unit e.command.block.items ≡ Err internal_target_failure
      → OpensExchange Intends CarriesOut Ticks refused packet old new
  opens_faulted is =
      let by : IsByTable (fails_with internal_target_failure old.unit) done.answer new.unit = rw is at done.effect in
      let case = case_if_failed e.case in
      let failed : IsCarriedOut Intends CarriesOut Ticks refused case e.command ways.Nothing [] old new = record {
        answer = done.answer;
        effect = done.effect;
        moved = λ n is. absurd (let x = is in cc);
        after = done.after ∙ rw by.answered (tells_four e.case e.command e.intended old.line internal_target_failure is_case moment);
      } in
      record {
        command = e.command;
        intended = ways.Nothing;
        case = case;
        spelled = spelled;
        intends = intends_by old.unit e.command.block.items (Err internal_target_failure) ways.Nothing is refl;
        is_case = is_four e.case e.command.host e.intended is_case moment;
        begins = subst (λ (m : Moment). begins_case Intends CarriesOut Ticks refused m case e.command ways.Nothing old new)
            (sym (four_at_once e.case moment)) failed;
      }

  pub opens_kept : (dead : Bool) → checked old.unit e.command.block.items ≡ checked_for_fault dead (Ok command)
      → OpensExchange Intends CarriesOut Ticks refused packet old new
  opens_kept dead is = elim (found dead command) [
    | inl same ↦ opens_live (is ∙ same)
    | inr refuses ↦ opens_faulted (is ∙ refuses)
  ]

-- ---- the write of what is pending

-- a command that takes no data writes nothing
no_write : (command : Command) (taken : List ℕ) → ((n : ℕ) → moves command ≢ intent.Out n) → write_of_command command taken ≡ None
no_write command taken none = grind (arith, nat_tests, none (512 * (transfer_of command).count))

takes_none : (case : Case) (host intended : Way) (command : Command) → IsCase case host intended → moment_of case ≡ at_once
    → intended ≡ way_of (moves command) → (n : ℕ) → moves command ≢ intent.Out n
takes_none case host intended command is_case moment is n out = grind (arith, is, out, is_case, moment)

-- no block is read where there is no room
reads_none : (command : Command) → ((n : ℕ) → moves command ≡ intent.In n → n ≤ 0) → reads_blocks command ≡ true → ⊥
reads_none command room reads =
    let few = room (512 * (transfer_of command).count) (read_in command [] reads) in grind (arith, nat_tests, few, reads)

pub not_reading : (wanted : Want) (command : Command) (taken : List ℕ) (write_cache : Bool)
    → ((n : ℕ) → moves command ≡ intent.In n → n ≤ 0) → may_want wanted command taken write_cache ≡ true → wanted ≡ want.Read → ⊥
not_reading wanted command taken write_cache room may is = reads_none command room (rw is at may)

-- a wrapper has no write
pub wrapper_write : {M : Type 0} (m : State) (limit : ℕ) (disk : DiskValue M) (e : Exchange) (wanted : Wanted)
    → PendsAtOnce limit disk e wanted → disk.line.out_halted ≡ false → (s : Lagging UnitState) (book : Book)
    → HasWrapper m disk e wanted book s → write_of_command wanted.command [] ≡ pending_write s.pending s.now
wrapper_write m limit disk e wanted pends halted s book h =
    let none = no_write wanted.command [] (takes_none e.case e.command.host e.intended wanted.command pends.pends.is_case
    pends.is_at_once pends.intended) in
    let most = disk.line.packet_size in
    let u = state_of disk.unit book in
    none ∙ subst (λ (x : Lagging UnitState). None ≡ pending_write x.pending x.now) (sym h.is)
    (subst (λ (l : Script). None ≡ write_of_packet most disk.line.out_halted l h.packet u) (sym pends.expected)
    (subst (λ (b : Bool). None ≡ write_of_packet most b finished h.packet u) (sym halted) refl))

-- the last packet of data has that of its command
pub data_write : {M : Type 0} (m : State) (disk : DiskValue M) (e : Exchange) (taken : List ℕ) (wanted : Wanted)
    → PendsFor disk.unit e taken wanted 0 → disk.line.out_halted ≡ false → (s : Lagging UnitState) (book : Book)
    → HasLastPacket m disk e.case e.command e.intended taken wanted book s
    → write_of_command wanted.command taken ≡ pending_write s.pending s.now
data_write m disk e taken wanted pends halted s book h =
    let unit = disk.unit in
    let size = pending_size m unit wanted.command taken wanted.want book h.fits in
    let u = state_of unit book in
    let most = disk.line.packet_size in
    let lives = pends.live (not_reading wanted.want wanted.command taken unit.write_cache pends.room pends.can.wanted) in
    let good : checked u e.command.block.items ≡ Ok wanted.command =
    parsed_by_book unit e.command.block.items book size ∙ sym pends.parsed ∙ passes_live (is_dead unit.store.cached) wanted lives in
    let bytes = take (size_of_way e.intended) (h.bytes ++ h.packet) in
    let left = taking e.case e.command e.intended h.bytes (length h.packet) in
    let progress : write_in_progress u e.command.block.items bytes ≡ write_of_command wanted.command bytes =
    ap (λ (parsed : Result Command Sense). write_after parsed bytes) good in
    ap (λ (xs : List ℕ). write_of_command wanted.command xs) h.taken_is ∙ sym progress
    ∙ last_packet most (length h.packet) (length h.packet) (write_in_progress u e.command.block.items bytes) None refl h.few
    ∙ subst (λ (x : Lagging UnitState). write_of_packet most false left h.packet u ≡ pending_write x.pending x.now) (sym h.is)
    (subst (λ (b : Bool). write_of_packet most false left h.packet u ≡ write_of_packet most b left h.packet u) (sym halted) refl)

-- nothing is left on the line where a wrapper is expected alone
by_phase : (size : ℕ) (phase : Phase) (buffer status : List ℕ) → left_of size phase buffer status ≡ finished → phase ≡ phases.Command
by_phase size phases.Command buffer status is = refl
by_phase size (phases.DataOut t) buffer status is = absurd (let e = is in cc)
by_phase size (phases.DataIn from to halt) buffer status is = absurd (let e = is in cc)
by_phase size phases.Status buffer status is = absurd (let e = is in cc)

pub command_expected : (bulk : BulkState) (buffer : List ℕ) → (line_of bulk buffer).left ≡ finished → bulk.phase ≡ phases.Command
command_expected bulk buffer is = by_phase (bytes_of bulk.size) bulk.phase buffer bulk.status is

-- ---- a packet that was pending is acted on

-- the wrapper of a command that takes no data
pub completes_wrapper : {M : Type 0} {Promises : Type 0} {held : Option Write} {refused : Bool} (m after : State)
    (unit new : UnitValue M) (from to : BulkState) (before out : List ℕ) (e : Exchange) (wanted : Wanted)
    → PendsAtOnce (unit_limit unit) (disk_of unit from before) e wanted
    → from.out_halted ≡ false → (book : Book) (s : Lagging UnitState) → HasWrapper m (disk_of unit from before) e wanted book s
    → CommandCarriedOut Promises held refused after e [] unit new from to out book
    → PendingCompleted Promises held refused after (disk_of new to out) book s
completes_wrapper {refused} m after unit new from to before out e wanted pends halted book s h o =
    let old = over (disk_of unit from before) book in
    let later = over (disk_of new to out) o.next in
    let block = e.command.block.items in
    let size = pending_size m unit wanted.command [] wanted.want book h.fits in
    let opens = opens_kept refused h.packet e wanted.command old later h.spelled pends.pends.is_case pends.is_at_once pends.intended
    (o.carried_out out (line_of from before).left (λ same. refl)) (is_dead unit.store.cached)
    (parsed_by_book unit block book size ∙ sym pends.pends.parsed) in
    record {
      packet = h.packet;
      pending_is = ap (λ (x : Lagging UnitState). x.pending) h.is;
      later = o.next;
      step = subst (λ (x : Lagging UnitState). OutStep Intends CarriesOut Ticks refused x.now.line.out_halted x.now.line.left h.packet
          x.now Ack later) (sym h.is)
          (subst (λ (l : Script). OutStep Intends CarriesOut Ticks refused from.out_halted l h.packet old Ack later) (sym pends.expected)
          (subst (λ (b : Bool). OutStep Intends CarriesOut Ticks refused b finished h.packet old Ack later) (sym halted) (
            refl,
            inl
                opens,
          )));
      fits = o.fits;
      on = o.on;
    }

-- the last packet of data
pub completes_data : {M : Type 0} {Promises : Type 0} {held : Option Write} {refused : Bool} (m after : State)
    (unit new : UnitValue M) (from to : BulkState) (before : List ℕ)
    (t : Taking) (wanted : Wanted) → moment_of t.exchange.case ≡ after_data → from.out_halted ≡ false
    → (book : Book) (s : Lagging UnitState)
    → HasLastPacket m (disk_of unit from before) t.exchange.case t.exchange.command t.exchange.intended (take t.filled before) wanted book s
    → CommandCarriedOut Promises held refused after t.exchange (take t.filled before) unit new (bare_of from) to [] book
    → PendingCompleted Promises held refused after (disk_of new to before) book s
completes_data {refused} m after unit new from to before t wanted moment halted book s h o =
    let left = taking t.exchange.case t.exchange.command t.exchange.intended h.bytes (length h.packet) in
    let old = on_line (line_with from left) (state_of unit book) in
    let later = over (disk_of new to before) o.next in
    record {
      packet = h.packet;
      pending_is = ap (λ (x : Lagging UnitState). x.pending) h.is;
      later = o.next;
      step = subst (λ (x : Lagging UnitState). OutStep Intends CarriesOut Ticks refused x.now.line.out_halted x.now.line.left h.packet
          x.now Ack later) (sym h.is)
          (subst (λ (b : Bool). OutStep Intends CarriesOut Ticks refused b left h.packet old Ack later) (sym halted) (
            refl,
            inr (inl (record {
              size = refl;
              last = h.few;
              carried_out = subst (λ (taken : List ℕ). IsCarriedOut Intends CarriesOut Ticks refused t.exchange.case t.exchange.command
                  t.exchange.intended taken old later) h.taken_is (o.carried_out before left (lies_after before t.exchange.case [] moment));
            })),
          ));
      fits = o.fits;
      on = o.on;
    }

-- ---- a command that takes no data

module _ {M : Type 0} {state : M → State} {Follows : M → M → Type 0} (unit new : UnitValue M) (from to : BulkState)
    (before out : List ℕ) (e : Exchange) (wanted : Wanted)
    (pends : PendsAtOnce (unit_limit unit) (disk_of unit from before) e wanted) (halted : from.out_halted ≡ false)
    (expected : from.phase ≡ phases.Command) (room : length before ≡ 512 * unit_limit unit) (long : length out ≡ length before)
    (is_next : Option Want) (a : CommandAdvanced state Follows unit from e [] wanted is_next new to out) where
  pub over_wrapper : is_next ≡ None
      → PendingAdvanced state Follows (disk_of unit from before) (record { wrapper = Some e; wanted = wanted }) None (disk_of new to out)
  over_wrapper none =
      let over_it = rw none at a in
      record {
        goes = λ book s h. completes_wrapper (state unit.store.medium) (state new.store.medium) unit new from to before out e wanted pends
            halted book s h (over_it.goes book h.fits);
        cuts = λ book s h ours. a.cuts book h.fits ours;
        awaits = λ free. tt;
        calls = a.calls;
        unsent = a.unsent;
        dead = a.dead;
        onward = over_it.onward;
        keeps = a.passes.keeps;
        limit = a.passes.limit;
        size = ap bytes_of a.passes.size;
      }

  pub waits_wrapper : (next : Want) → is_next ≡ Some next
      → PendingAdvanced state Follows (disk_of unit from before) (record { wrapper = Some e; wanted = wanted })
      (Some (record { wrapper = Some e; wanted = record { command = wanted.command; want = next } })) (disk_of new to out)
  waits_wrapper next some =
      let on = rw some at a in
      let unmoved = on.leaves.unmoved in
      let expects : to.phase ≡ phases.Command = ap (λ (bulk : BulkState). bulk.phase) unmoved ∙ expected in
      let lines : line_of from before ≡ line_of to out =
      same_lines from before out expected ∙ sym (ap (λ (bulk : BulkState). line_of bulk out) unmoved) in
      record {
        goes = λ book s h. (
          record {
            packet = h.packet;
            spelled = h.spelled;
            is = h.is ∙ rw (lines, (on.goes book h.fits).stays) refl;
            fits = (on.goes book h.fits).fits;
          },
          (on.goes book h.fits).more,
        );
        cuts = λ book s h ours. a.cuts book h.fits ours;
        awaits = λ free. (
          ap (λ (bulk : BulkState). bulk.out_halted) unmoved ∙ halted,
          record {
            expected = nothing_left to out expects;
            is_at_once = pends.is_at_once;
            intended = pends.intended;
            pends = rw (a.passes.limit, ← room, ← long) on.leaves.pends;
          },
        );
        calls = a.calls;
        unsent = a.unsent;
        dead = a.dead;
        onward = on.onward;
        keeps = a.passes.keeps;
        limit = a.passes.limit;
        size = ap bytes_of a.passes.size;
      }

-- ---- a command over the data that came

module _ (from : BulkState) (before : List ℕ) (t : Taking) (wanted : Wanted) (is : from.phase ≡ phases.DataOut t) where
  -- the write that a batch has
  pub held_is : held_write (Some (record { wrapper = None; wanted = wanted })) (line_of from before).left
      ≡ write_held wanted.want wanted.command (take t.filled before)
  held_is = ap (λ (l : Script). held_write (Some (record { wrapper = None; wanted = wanted })) l) (left_data from before t is)

  pub stands_data : {M : Type 0} (m : State) (unit : UnitValue M) (book : Book) (s : Lagging UnitState)
      → StandsPending None (line_of from before).left m (disk_of unit from before) wanted book s
      → HasLastPacket m (disk_of unit from before) t.exchange.case t.exchange.command t.exchange.intended (take t.filled before) wanted
      book s
  stands_data m unit book s stands =
      subst (λ (l : Script). StandsPending None l m (disk_of unit from before) wanted book s) (left_data from before t is) stands

module _ {M : Type 0} {state : M → State} {Follows : M → M → Type 0} (unit new : UnitValue M) (from to : BulkState)
    (before : List ℕ) (t : Taking) (wanted : Wanted) (is : from.phase ≡ phases.DataOut t) (whole : t.due ≡ 0)
    (moment : moment_of t.exchange.case ≡ after_data) (halted : from.out_halted ≡ false) (is_next : Option Want)
    (a : CommandAdvanced state Follows unit (bare_of from) t.exchange (take t.filled before) wanted is_next new to []) where
  data_cuts : (book : Book) (s : Lagging UnitState)
      → StandsPending None (line_of from before).left (state unit.store.medium) (disk_of unit from before) wanted book s → book.ours ≡ true
      → LeavesOnly (MayFind (state unit.store.medium).size
      (with_progress book (held_write (Some (record { wrapper = None; wanted = wanted })) (line_of from before).left)))
      (state unit.store.medium) (state new.store.medium)
  data_cuts book s stands ours =
      subst (λ (w : Option Write). LeavesOnly (MayFind (state unit.store.medium).size (with_progress book w)) (state unit.store.medium)
      (state new.store.medium)) (sym (held_is from before t wanted is))
      (a.cuts book (stands_data from before t wanted is (state unit.store.medium) unit book s stands).fits ours)

  pub over_data : is_next ≡ None
      → PendingAdvanced state Follows (disk_of unit from before) (record { wrapper = None; wanted = wanted }) None (disk_of new to before)
  over_data none =
      let over_it = rw none at a in
      record {
        goes = λ book s stands.
            let h = stands_data from before t wanted is (state unit.store.medium) unit book s stands in
            subst (λ (w : Option Write). PendingCompleted (MayPromise unit wanted.command wanted.want) w (has_refused
            (state unit.store.medium) (state new.store.medium)) (state new.store.medium) (disk_of new to before) book s)
            (sym (held_is from before t wanted is))
            (completes_data (state unit.store.medium) (state new.store.medium) unit new from to before t wanted moment halted book s h
            (over_it.goes book h.fits));
        cuts = data_cuts;
        awaits = λ free. tt;
        calls = a.calls;
        unsent = a.unsent;
        dead = a.dead;
        onward = over_it.onward;
        keeps = a.passes.keeps;
        limit = a.passes.limit;
        size = ap bytes_of a.passes.size;
      }

  pub waits_data : (next : Want) → is_next ≡ Some next
      → PendingAdvanced state Follows (disk_of unit from before) (record { wrapper = None; wanted = wanted })
      (Some (record { wrapper = None; wanted = record { command = wanted.command; want = next } }))
      (disk_of new (record to { phase = phases.DataOut t }) before)
  waits_data next some =
      let on = rw some at a in
      let unmoved = on.leaves.unmoved in
      let same : record to { phase = phases.DataOut t } ≡ from = rw (unmoved, is) refl in
      record {
        goes = λ book s stands.
            let h = stands_data from before t wanted is (state unit.store.medium) unit book s stands in
            let step = on.goes book h.fits in (
              record {
                packet = h.packet;
                bytes = h.bytes;
                few = rw unmoved h.few;
                taken_is = h.taken_is;
                is = h.is ∙ rw (unmoved, step.stays) refl;
                fits = step.fits;
              },
              subst (λ (w : Option Write). HasMore (with_progress book w) (book_held next wanted.command (take t.filled before) book))
                  (sym (held_is from before t wanted is)) step.more,
            );
        cuts = data_cuts;
        awaits = λ free. (
          ap (λ (bulk : BulkState). bulk.out_halted) unmoved ∙ halted,
          (whole, moment, on.leaves.pends),
        );
        calls = a.calls;
        unsent = a.unsent;
        dead = a.dead;
        onward = on.onward;
        keeps = a.passes.keeps;
        limit = a.passes.limit;
        size = ap bytes_of a.passes.size;
      }
