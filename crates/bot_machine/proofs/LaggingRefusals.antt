-- The device refused a call: what is pending ends with a write error, or waits for its blocks on a faulted unit.
use Rattle.std.proofs.Common.{◌≡◌, ◌≤◌, ◌*◌, ℕ, Bool, true, false, List, [], length, take, Ok, Err, Result, Some, None, Option}
use Rattle.std.proofs.Common.{arith, refl, sym, ap, ◌∙◌, subst, inl, inr}
use Rattle.medium.specs.{Medium.{State, IsSound}, Moments.LeavesOnly}
use Rattle.logical_blocks.specs.{Blocks.Write, Book.Book}
use Rattle.scsi.specs.{Sense.Sense, SenseCodes.write_error, declared.command.Command.Command}
use Rattle.scsi.specs.Rules.{UnitState, CarriesOut, IsOutcome, checked, checked_for_fault, wants_writing}
use Rattle.spec.specs.Exchange.{Line, Script, finished, taking, sending, moment_of, after_data}
use Rattle.spec.specs.{UnitConversation.on_line, Lagging.{Lagging, settled, UnitLagStep}}
use Rattle.spec.specs.Packets.{bytes_of}
use Rattle.spec.specs.declared.event.Answer.TheVariants.{Ticked}
use Rattle.spec.specs.declared.event.Event.TheVariants as event
use Rattle.scsi_unit.specs.{Background.is_dead, Books.MayFind, Faulting.{faulted_unit, faulted_state}, Starting.layout_of}
use Rattle.scsi_unit.specs.UnitValue.{UnitValue, unit_limit, state_of}
use Rattle.scsi_unit.specs.Pending.{EachIsRefused, FitsPending, may_want, write_held}
use Rattle.scsi_unit.specs.declared.progress.Want.{Want}
use Rattle.scsi_unit.specs.declared.progress.Want.TheVariants as want
use Rattle.scsi_unit.proofs.{WantedCommands.{write_wants, commit_wants}, PendingLaws.{dropped, parsed_once}, UnitTurns.limit_stays}
use Rattle.bot_machine.specs.declared.exchange.Exchange.{Exchange}
use Rattle.bot_machine.specs.declared.bulk_state.{BulkState.BulkState, Taking.Taking}
use Rattle.bot_machine.specs.declared.bulk_state.Phase.TheVariants as phases
use Rattle.bot_machine.specs.declared.pending.{Pending.Pending, Wanted.Wanted}
use Rattle.bot_machine.specs.{Disk.{DiskValue, over, FitsDisk, Elapses}, Refinement.{LaysOutAnswer}}
use Rattle.bot_machine.specs.LaggingDisk.{StandsPending, StandsWith, IsLagStepBy, LagStepMade, held_book, held_write}
use Rattle.bot_machine.specs.LaggingParts.{AwaitsDevice, PendsOnDisk, PendsOnLine, PendsFor, PendsAtOnce, CommandCarriedOut, PendingRefused}
use Rattle.bot_machine.specs.LaggingParts.{PendingCompleted, disk_of}
use Rattle.bot_machine.proofs.{UnitLaws.between_calls, LaggingParts.{pending_size, parsed_by_book}}
use Rattle.bot_machine.proofs.BooksGoOn.{few_promised, goes_on, more_held, same_more, stays_on}
use Rattle.bot_machine.proofs.LaggingGoing.{completes_wrapper, completes_data, held_is, stands_data}
use Rattle.bot_machine.proofs.LaggingPackets.{bare_of, passes_live}
use Rattle.bot_machine.proofs.LaggingEvents.{at_packet, at_rest, facts, held_either, made, uncut}

-- what is wanted of a device that writes
writing : (wanted : Want) (command : Command) (taken : List ℕ) (write_cache : Bool) → may_want wanted command taken write_cache ≡ true
    → (wanted ≡ want.Read → ⊥) → wants_writing command taken write_cache ≡ true
writing want.Room command taken write_cache may not = write_wants command taken may write_cache
writing want.Commit command taken write_cache may not = commit_wants command taken write_cache may
writing want.Read command taken write_cache may not = absurd (not refl)

-- a command that writes ends with a write error
module _ {M : Type 0} (state : M → State) (unit new : UnitValue M) (from to : BulkState) (e : Exchange) (taken : List ℕ)
    (wanted : Wanted) (most : ℕ) (pends : PendsFor unit e taken wanted most) (writes : wanted.want ≡ want.Read → ⊥)
    (ends : EachIsRefused state unit new)
    (laid : LaysOutAnswer from e (let bad : Result ℕ Sense = Err write_error in bad) to) where
  refused_over : (out : List ℕ) (book : Book) → FitsPending (state unit.store.medium) unit wanted.command taken wanted.want book
      → CommandCarriedOut ⊥ (write_held wanted.want wanted.command taken) true (state new.store.medium) e taken unit new from to out book
  refused_over out book f =
      let block = e.command.block.items in
      let size = pending_size (state unit.store.medium) unit wanted.command taken wanted.want book f in
      let good : checked (state_of unit book) block ≡ Ok wanted.command =
      parsed_by_book unit block book size ∙ sym pends.parsed ∙ passes_live (is_dead unit.store.cached) wanted (pends.live writes) in
      let o = ends wanted.command taken wanted.want book (writing wanted.want wanted.command taken unit.write_cache pends.can.wanted
      writes) f in
      let effect : CarriesOut true block taken (state_of unit book) (Err write_error) (state_of new o.0) =
      subst (λ (parsed : Result Command Sense). IsOutcome true parsed taken (state_of unit book) (Err write_error) (state_of new o.0))
      (sym good) o.1 in
      record {
        next = o.0;
        carried_out = λ buffer left lies. record {
          answer = Err write_error;
          effect = effect;
          moved = λ n is. tt;
          after = laid.line buffer out left lies tt;
        };
        fits = o.2;
        on = goes_on ⊥ true block taken (state_of unit book) (state_of new o.0) (Err write_error) effect
            (λ command sent passed commits bad. absurd (let e = bad in cc)) (write_held wanted.want wanted.command taken)
            (rw good (held_either wanted.want wanted.command taken))
            (few_promised (state unit.store.medium) unit book (write_held wanted.want wanted.command taken)
            (dropped (state unit.store.medium) unit wanted.command taken wanted.want book f));
      }

-- ---- by what was pending

module _ {M : Type 0} {state : M → State} (unit new : UnitValue M) (from to : BulkState) (is : new ≡ faulted_unit true unit)
    (ends : EachIsRefused state unit new) (halted : from.out_halted ≡ false) (wanted : Wanted)
    (writes : wanted.want ≡ want.Read → ⊥) where
  pub refused_wrapper : (before : List ℕ) (e : Exchange) → PendsAtOnce (unit_limit unit) (disk_of unit from before) e wanted
      → LaysOutAnswer from e (let bad : Result ℕ Sense = Err write_error in bad) to
      → PendingRefused state (disk_of unit from before) (record { wrapper = Some e; wanted = wanted }) None (disk_of new to before)
  refused_wrapper before e pends laid = record {
    goes = λ book s h. completes_wrapper (state unit.store.medium) (state new.store.medium) unit new from to before before e wanted pends
        halted book s h (refused_over state unit new from to e [] wanted (512 * unit_limit unit) pends.pends writes ends laid before book
        h.fits);
    awaits = λ free. tt;
    medium = ap (λ (u : UnitValue M). u.store.medium) is;
    dead = ap (λ (u : UnitValue M). is_dead u.store.cached) is;
    layout = ap (λ (u : UnitValue M). layout_of u.store.cached) is;
    keeps = ap (λ (u : UnitValue M). u.store.cached.log.keeps) is;
    size = ap bytes_of laid.size;
  }

  pub refused_data : (before : List ℕ) (t : Taking) → from.phase ≡ phases.DataOut t → moment_of t.exchange.case ≡ after_data
      → PendsFor unit t.exchange (take t.filled before) wanted 0
      → LaysOutAnswer (bare_of from) t.exchange (let bad : Result ℕ Sense = Err write_error in bad) to
      → PendingRefused state (disk_of unit from before) (record { wrapper = None; wanted = wanted }) None (disk_of new to before)
  refused_data before t phase moment pends laid = record {
    goes = λ book s stands.
        let h = stands_data from before t wanted phase (state unit.store.medium) unit book s stands in
        subst (λ (w : Option Write). PendingCompleted ⊥ w true (state new.store.medium) (disk_of new to before) book s)
        (sym (held_is from before t wanted phase))
        (completes_data (state unit.store.medium) (state new.store.medium) unit new from to before t wanted moment halted book s h
        (refused_over state unit new (bare_of from) to t.exchange (take t.filled before) wanted 0 pends writes ends laid [] book h.fits));
    awaits = λ free. tt;
    medium = ap (λ (u : UnitValue M). u.store.medium) is;
    dead = ap (λ (u : UnitValue M). is_dead u.store.cached) is;
    layout = ap (λ (u : UnitValue M). layout_of u.store.cached) is;
    keeps = ap (λ (u : UnitValue M). u.store.cached.log.keeps) is;
    size = ap bytes_of laid.size;
  }

-- ---- a READ waits for its blocks on a faulted unit

-- a command that may wait on is parsed as before
faulted_twice : (dead : Bool) (command : Command)
    → checked_for_fault true (checked_for_fault dead (Ok command)) ≡ checked_for_fault true (Ok command)
faulted_twice dead command = grind arith

pends_for : {M : Type 0} (unit : UnitValue M) (e : Exchange) (taken : List ℕ) (wanted : Wanted) (most : ℕ) → wanted.want ≡ want.Read
    → PendsFor unit e taken wanted most → PendsFor (faulted_unit false unit) e taken wanted most
pends_for unit e taken wanted most reading p =
    let block = e.command.block.items in
    let dead = is_dead unit.store.cached in
    record {
      is_case = p.is_case;
      sends = p.sends;
      parsed = sym (parsed_once _ (unit_limit unit) unit.kept.attention dead true block (λ was. refl)
          ∙ ap (checked_for_fault true) (sym p.parsed) ∙ faulted_twice dead wanted.command);
      can = record { supported = p.can.supported; taken_all = p.can.taken_all; wanted = p.can.wanted };
      room = p.room;
      live = λ other. absurd (other reading);
    }

pends_line : {M : Type 0} (disk : DiskValue M) (wanted : Wanted) → wanted.want ≡ want.Read → (left : Script) → PendsOnLine left disk wanted
    → PendsOnLine left (record disk { unit = faulted_unit false disk.unit }) wanted
pends_line disk wanted reading finished p = absurd p
pends_line disk wanted reading (taking case command intended bytes due) p = (
  p.0,
  p.1,
  pends_for disk.unit (record { case = case; command = command; intended = intended }) bytes wanted 0 reading p.2,
)
pends_line disk wanted reading (sending packets halt status) p = absurd p

pub pends_faulted : {M : Type 0} (disk : DiskValue M) (wanted : Wanted) → wanted.want ≡ want.Read → (wrapper : Option Exchange)
    → PendsOnDisk wrapper disk wanted → PendsOnDisk wrapper (record disk { unit = faulted_unit false disk.unit }) wanted
pends_faulted disk wanted reading None p = pends_line disk wanted reading disk.line.left p
pends_faulted disk wanted reading (Some e) p = record {
  expected = p.expected;
  is_at_once = p.is_at_once;
  intended = p.intended;
  pends = pends_for disk.unit e [] wanted (512 * unit_limit disk.unit) reading p.pends;
}

-- the unit of the conversation is that of the disk
unit_at : {M : Type 0} (m : State) (disk : DiskValue M) (wrapper : Option Exchange) (left : Script) (wanted : Wanted) (book : Book)
    (s : Lagging UnitState) → StandsPending wrapper left m disk wanted book s → s.now.unit ≡ state_of disk.unit book
unit_at m disk (Some e) left wanted book s h = ap (λ (x : Lagging UnitState). x.now.unit) h.is
unit_at m disk None finished wanted book s h = absurd h
unit_at m disk None (taking case command intended taken due) wanted book s h = ap (λ (x : Lagging UnitState). x.now.unit) h.is
unit_at m disk None (sending packets halt status) wanted book s h = absurd h

module _ {M : Type 0} (state : M → State) (old new : DiskValue M) (is : new ≡ record old { unit = faulted_unit false old.unit })
    (faults : (book : Book) → state_of new.unit book ≡ faulted_state false (state_of old.unit book))
    (fits : (book : Book) → FitsDisk (state old.unit.store.medium) old book → FitsDisk (state new.unit.store.medium) new book) where
  -- the same book is read, and each accepted write is durable where it has to be
  reads_on : (command : Command) (taken : List ℕ) (book : Book)
      → FitsPending (state old.unit.store.medium) old.unit command taken want.Read book
      → FitsPending (state new.unit.store.medium) new.unit command taken want.Read book
  reads_on command taken book f = record {
    fits = fits book f.fits;
    written = λ promises. inl (ap (λ (d : DiskValue M). is_dead d.unit.store.cached) is);
  }

  stands_faulted : (wanted : Wanted) → wanted.want ≡ want.Read → (wrapper : Option Exchange) (left : Script) → left ≡ old.line.left
      → (book : Book) (s : Lagging UnitState)
      → StandsPending wrapper left (state old.unit.store.medium) old wanted book s
      → StandsPending wrapper left (state new.unit.store.medium) new wanted book
      (record s { now = record s.now { unit = state_of new.unit book } })
  stands_faulted wanted reading (Some e) left here book s h = record {
    packet = h.packet;
    spelled = h.spelled;
    is = subst (λ (x : Lagging UnitState). (let y : Lagging UnitState = record x {
      now = record x.now { unit = state_of new.unit book };
    } in y) ≡ record { now = over new book; pending = Some h.packet }) (sym h.is)
        (ap (λ (l : Line). record { now = on_line l (state_of new.unit book); pending = Some h.packet })
        (sym (ap (λ (d : DiskValue M). d.line) is)));
    fits = subst (λ (w : Want). FitsPending (state new.unit.store.medium) new.unit wanted.command [] w book) (sym reading)
        (reads_on wanted.command [] book (subst (λ (w : Want). FitsPending (state old.unit.store.medium) old.unit wanted.command [] w book)
        reading h.fits));
  }
  stands_faulted wanted reading None finished here book s h = absurd h
  stands_faulted wanted reading None (taking case command intended taken due) here book s h = record {
    packet = h.packet;
    bytes = h.bytes;
    few = subst (λ (l : Line). length h.packet ≤ l.packet_size) (sym (ap (λ (d : DiskValue M). d.line) is)) h.few;
    taken_is = h.taken_is;
    is = subst (λ (x : Lagging UnitState). (let y : Lagging UnitState = record x {
      now = record x.now { unit = state_of new.unit book };
    } in y) ≡ record {
      now = on_line (record new.line { left = taking case command intended h.bytes (length h.packet) }) (state_of new.unit book);
      pending = Some h.packet;
    }) (sym h.is)
        (ap (λ (l : Line). record {
          now = on_line (record l { left = taking case command intended h.bytes (length h.packet) }) (state_of new.unit book);
          pending = Some h.packet;
        }) (sym (ap (λ (d : DiskValue M). d.line) is)));
    fits = subst (λ (w : Want). FitsPending (state new.unit.store.medium) new.unit wanted.command taken w book) (sym reading)
        (reads_on wanted.command taken book
        (subst (λ (w : Want). FitsPending (state old.unit.store.medium) old.unit wanted.command taken w book) reading h.fits));
  }
  stands_faulted wanted reading None (sending packets halt status) here book s h = absurd h

  -- nothing is pending
  pub stops : {Promises : Type 0} → ((m : M) → IsSound (state m))
      → IsLagStepBy Promises true (state old.unit.store.medium) (state new.unit.store.medium) (record { disk = old; pending = None })
      event.Tick Ticked (record { disk = new; pending = None })
  stops {Promises} sound = record {
    proceeds = λ book s h.
        let before = state old.unit.store.medium in
        let next = settled (over new book) in
        made true before (state new.unit.store.medium) event.Tick Ticked (record { disk = old; pending = None })
        (record { disk = new; pending = None }) book s tt tt h
        (λ ours. uncut state sound old.unit.store.medium new.unit.store.medium (ap (λ (d : DiskValue M). d.unit.store.medium) is)
        (MayFind before.size book) (between_calls before old.unit book h.fits ours))
        book next
        (subst (λ (x : Lagging UnitState). UnitLagStep true x event.Tick Ticked next) (sym h.is) (record {
          step = (refl, inr (record { cause = inl refl; after = faults book }), ap (λ (d : DiskValue M). d.line) is);
          pending = refl;
        }))
        (record { is = refl; fits = fits book h.fits })
        (stays_on Promises (is_dead new.unit.store.cached) None None book (more_held book None));
    elapses = subst (λ (m : M). Elapses (state old.unit.store.medium) (state m)) (sym (ap (λ (d : DiskValue M). d.unit.store.medium) is))
        (record { failures_stay = omega arith; size_stays = refl });
    limit_stays = ap (λ (d : DiskValue M). unit_limit d.unit) is;
    packets_stay = ap (λ (d : DiskValue M). d.line.packet_size) is;
    layout_stays = ap (λ (d : DiskValue M). layout_of d.unit.store.cached) is;
    keeps_stays = ap (λ (d : DiskValue M). d.unit.store.cached.log.keeps) is;
    dead_stays = λ was. ap (λ (d : DiskValue M). is_dead d.unit.store.cached) is;
  }

  -- a READ waits on
  pub waits_faulted : (pending : Pending) → pending.wanted.want ≡ want.Read → PendsOnDisk pending.wrapper old pending.wanted
      → PendsOnDisk pending.wrapper new pending.wanted → PendingRefused state old pending (Some pending) new
  waits_faulted pending reading p later = record {
    goes = λ book s h. (
      ap (λ (d : DiskValue M). held_write (Some pending) d.line.left) (sym is),
      subst (λ (l : Script). StandsPending pending.wrapper l (state new.unit.store.medium) new pending.wanted book
          (record s { now = record s.now { unit = state_of new.unit book } })) (sym (ap (λ (d : DiskValue M). d.line.left) is))
          (stands_faulted pending.wanted reading pending.wrapper old.line.left refl book s h),
      record {
        cause = inl refl;
        after = subst (λ (u : UnitState). state_of new.unit book ≡ record u { faulted = true })
            (sym (unit_at (state old.unit.store.medium) old pending.wrapper old.line.left pending.wanted book s h)) (faults book);
      },
    );
    awaits = λ free. (ap (λ (d : DiskValue M). d.line.out_halted) is ∙ free, later);
    medium = ap (λ (d : DiskValue M). d.unit.store.medium) is;
    dead = ap (λ (d : DiskValue M). is_dead d.unit.store.cached) is;
    layout = ap (λ (d : DiskValue M). layout_of d.unit.store.cached) is;
    keeps = ap (λ (d : DiskValue M). d.unit.store.cached.log.keeps) is;
    size = ap (λ (d : DiskValue M). d.line.packet_size) is;
  }

-- ---- as an event

module _ {M : Type 0} {state : M → State} (sound : (m : M) → IsSound (state m)) (old new : DiskValue M) (pending : Pending)
    (awaits : AwaitsDevice old (Some pending)) where
  uncut_pending : new.unit.store.medium ≡ old.unit.store.medium → (book : Book) (s : Lagging UnitState)
      → StandsWith (Some pending) (state old.unit.store.medium) old book s → book.ours ≡ true
      → LeavesOnly (MayFind (state old.unit.store.medium).size (held_book (record { disk = old; pending = Some pending }) book))
      (state old.unit.store.medium) (state new.unit.store.medium)
  uncut_pending same book s h ours =
      uncut state sound old.unit.store.medium new.unit.store.medium same
      (MayFind (state old.unit.store.medium).size (held_book (record { disk = old; pending = Some pending }) book))
      (at_rest (state old.unit.store.medium) old (Some pending) book s awaits h ours)

  refuses_as : (result : Option Pending) → PendingRefused state old pending result new → (book : Book) (s : Lagging UnitState)
      → StandsWith (Some pending) (state old.unit.store.medium) old book s
      → LagStepMade ⊥ true (state old.unit.store.medium) (state new.unit.store.medium) event.Tick Ticked
      (record { disk = old; pending = Some pending }) (record { disk = new; pending = result }) book s
  refuses_as None r book s h =
      let o = r.goes book s h in
      let next = settled (over new o.later) in
      made true (state old.unit.store.medium) (state new.unit.store.medium) event.Tick Ticked
      (record { disk = old; pending = Some pending }) (record { disk = new; pending = None }) book s awaits tt h
      (uncut_pending r.medium book s h) o.later next
      (at_packet true s next event.Tick Ticked o.packet o.pending_is (inr (record { answered = refl; step = o.step; after = refl })))
      (record { is = refl; fits = o.fits }) o.on
  refuses_as (Some still) r book s h =
      let f = facts (state old.unit.store.medium) old pending book s awaits h in
      let o = r.goes book s h in
      let next : Lagging UnitState = record s { now = record s.now { unit = state_of new.unit book } } in
      made true (state old.unit.store.medium) (state new.unit.store.medium) event.Tick Ticked
      (record { disk = old; pending = Some pending }) (record { disk = new; pending = Some still }) book s awaits (r.awaits awaits.0) h
      (uncut_pending r.medium book s h) book next
      (at_packet true s next event.Tick Ticked f.packet f.pending_is (inl (record { step = (refl, inr o.2, refl); pending = refl })))
      o.1 (stays_on _ _ _ _ book (same_more book _ _ o.0))

  pub refuses : (result : Option Pending) → PendingRefused state old pending result new
      → IsLagStepBy ⊥ true (state old.unit.store.medium) (state new.unit.store.medium) (record { disk = old; pending = Some pending })
      event.Tick Ticked (record { disk = new; pending = result })
  refuses result r = record {
    proceeds = refuses_as result r;
    elapses = subst (λ (m : M). Elapses (state old.unit.store.medium) (state m)) (sym r.medium)
        (record { failures_stay = omega arith; size_stays = refl });
    limit_stays = limit_stays old.unit.store.cached new.unit.store.cached r.layout;
    packets_stay = r.size;
    layout_stays = r.layout;
    keeps_stays = r.keeps;
    dead_stays = λ was. r.dead;
  }
