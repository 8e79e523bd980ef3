-- The events of a disk whose device may be behind, for each conversation that the disk stands for.
use Rattle.std.proofs.Common.{◌≡◌, ◌⊎◌, ℕ, zero, suc, Bool, true, false, List, Some, None, Option, arith, refl, sym, ap, ◌∙◌, subst}
use Rattle.std.proofs.Common.{inl, inr, ⊎_elim}
use Rattle.medium.specs.{Medium.{State, Image, IsSound}, Moments.{LeavesOnly, EachCut}}
use Rattle.medium.proofs.Moments.{started, weaker}
use Rattle.logical_blocks.specs.{Book.{Book, with_progress}}
use Rattle.scsi.specs.{declared.command.Command.Command, Rules.{UnitState, CarriesOut, Ticks, write_of_command}}
use Rattle.spec.specs.declared.event.{Event.Event, Answer.Answer}
use Rattle.spec.specs.declared.event.Answer.TheVariants.{Nak, Ticked}
use Rattle.spec.specs.declared.event.Event.TheVariants as event
use Rattle.spec.specs.{Exchange.{Line, Script, finished, taking, sending, in_answer, after_in}, Conversation.Conversation}
use Rattle.spec.specs.{UnitConversation.Intends, Disks.{event_write, pending_write}}
use Rattle.spec.specs.Lagging.{Lagging, settled, UnitLagStep, LagStepAt, AcknowledgesAny, Drops}
use Rattle.scsi_unit.specs.{Background.{Work, is_dead}, Books.{MayFind, FoundWith}, Serving.has_refused, Pending.{FitsPending, write_held}}
use Rattle.scsi_unit.specs.{UnitValue.{UnitValue, unit_limit, state_of, FitsUnit}, declared.progress.Want.Want}
use Rattle.scsi_unit.specs.declared.progress.Want.TheVariants as want
use Rattle.scsi_unit.proofs.{PendingLaws.dropped}
use Rattle.bot_machine.specs.declared.exchange.Exchange.{Exchange}
use Rattle.bot_machine.specs.declared.pending.{Pending.Pending, Wanted.Wanted}
use Rattle.bot_machine.specs.{Disk.{DiskValue, over, IsStepBy}, PacketRuns.after_tokens}
use Rattle.bot_machine.specs.LaggingDisk.{LaggingValue, StandsFor, StandsWith, StandsPending, LagStepMade, IsLagStep}
use Rattle.bot_machine.specs.LaggingDisk.{MayPromiseNext, held_book, held_write, taken_in}
use Rattle.bot_machine.specs.LaggingParts.{AwaitsDevice, PendsOnDisk, PendsOnLine, PacketBegun, PendingAdvanced, BookGoesOn}
use Rattle.bot_machine.proofs.{UnitLaws.between_calls, LaggingGoing.{wrapper_write, data_write}, BookLaws.{lag_fault, same_book}}
use Rattle.bot_machine.proofs.BooksGoOn.{found_held, held_ours, more_held, same_more, stays_on}

-- ---- what is known of a command that is pending

pub record Facts {M : Type 0} (m : State) (disk : DiskValue M) (left : Script) (pending : Pending) (book : Book) (s : Lagging UnitState)
    : Type 0 where
  pub packet : List ℕ
  pub pending_is : s.pending ≡ Some packet
  pub unit_is : s.now.unit ≡ state_of disk.unit book
  pub line_is : s.now.line ≡ record disk.line { left = s.now.line.left }
  pub waits : AcknowledgesAny false s.now.line.left
  pub fits : FitsPending m disk.unit pending.wanted.command (taken_in pending.wrapper left) pending.wanted.want book
  pub write : write_of_command pending.wanted.command (taken_in pending.wrapper left) ≡ pending_write s.pending s.now
  pub live : (pending.wanted.want ≡ want.Read → ⊥) → is_dead disk.unit.store.cached ≡ false

module _ {M : Type 0} (m : State) (disk : DiskValue M) (halted : disk.line.out_halted ≡ false) (wanted : Wanted) (book : Book)
    (s : Lagging UnitState) where
  facts_on : (left : Script) → StandsPending None left m disk wanted book s
      → PendsOnDisk None (record disk { line = record disk.line { left = left } }) wanted
      → Facts m disk left (record { wrapper = None; wanted = wanted }) book s
  facts_on finished h p = absurd h
  facts_on (taking case command intended taken due) h p = record {
    packet = h.packet;
    pending_is = ap (λ (x : Lagging UnitState). x.pending) h.is;
    unit_is = ap (λ (x : Lagging UnitState). x.now.unit) h.is;
    line_is = subst (λ (x : Lagging UnitState). x.now.line ≡ record disk.line { left = x.now.line.left }) (sym h.is) refl;
    waits = subst (λ (x : Lagging UnitState). AcknowledgesAny false x.now.line.left) (sym h.is) tt;
    fits = h.fits;
    write = data_write m disk (record { case = case; command = command; intended = intended }) taken wanted p.2 halted s book h;
    live = p.2.live;
  }
  facts_on (sending packets halt status) h p = absurd h

  facts_of : (wrapper : Option Exchange) → StandsPending wrapper disk.line.left m disk wanted book s → PendsOnDisk wrapper disk wanted
      → Facts m disk disk.line.left (record { wrapper = wrapper; wanted = wanted }) book s
  facts_of None h p = facts_on disk.line.left h p
  facts_of (Some e) h p = record {
    packet = h.packet;
    pending_is = ap (λ (x : Lagging UnitState). x.pending) h.is;
    unit_is = ap (λ (x : Lagging UnitState). x.now.unit) h.is;
    line_is = subst (λ (x : Lagging UnitState). x.now.line ≡ record disk.line { left = x.now.line.left }) (sym h.is) refl;
    waits = subst (λ (x : Lagging UnitState). AcknowledgesAny false x.now.line.left) (sym h.is) (rw p.expected tt);
    fits = h.fits;
    write = wrapper_write m (unit_limit disk.unit) disk e wanted p halted s book h;
    live = p.pends.live;
  }

pub facts : {M : Type 0} (m : State) (disk : DiskValue M) (pending : Pending) (book : Book) (s : Lagging UnitState)
    → AwaitsDevice disk (Some pending) → StandsWith (Some pending) m disk book s → Facts m disk disk.line.left pending book s
facts m disk pending book s awaits h = facts_of m disk awaits.0 pending.wanted book s pending.wrapper h awaits.1

-- its write is the one in progress, whatever the event
its_write : (pending : Option (List ℕ)) (packet : List ℕ) (now : Conversation UnitState) (happens : Event) → pending ≡ Some packet
    → event_write pending now happens ≡ pending_write pending now
its_write pending packet now happens is = rw is refl

-- a step while it is pending
pub at_packet : (refused : Bool) (s next : Lagging UnitState) (happens : Event) (answer : Answer) (packet : List ℕ)
    → s.pending ≡ Some packet → LagStepAt Intends CarriesOut Ticks Drops refused (Some packet) s happens answer next
    → UnitLagStep refused s happens answer next
at_packet refused s next happens answer packet is step =
    subst (λ (p : Option (List ℕ)). LagStepAt Intends CarriesOut Ticks Drops refused p s happens answer next) (sym is) step

-- ---- the write that a batch has

pub held_either : (wanted : Want) (command : Command) (taken : List ℕ)
    → (write_held wanted command taken ≡ None) ⊎ (write_held wanted command taken ≡ write_of_command command taken)
held_either want.Room command taken = inl refl
held_either want.Commit command taken = inr refl
held_either want.Read command taken = inl refl

pub held_now : {M : Type 0} (m : State) (disk : DiskValue M) (pending : Option Pending) (book : Book) (s : Lagging UnitState)
    → AwaitsDevice disk pending → StandsWith pending m disk book s
    → (held_write pending disk.line.left ≡ None) ⊎ (held_write pending disk.line.left ≡ pending_write s.pending s.now)
held_now m disk None book s awaits h = inl refl
held_now m disk (Some p) book s awaits h =
    ⊎_elim inl (λ same. inr (same ∙ (facts m disk p book s awaits h).write))
    (held_either p.wanted.want p.wanted.command (taken_in p.wrapper disk.line.left))

held_in : {M : Type 0} (m : State) (disk : DiskValue M) (pending : Option Pending) (book : Book) (s : Lagging UnitState)
    (happens : Event) → AwaitsDevice disk pending → StandsWith pending m disk book s
    → (held_write pending disk.line.left ≡ None) ⊎ (held_write pending disk.line.left ≡ event_write s.pending s.now happens)
held_in m disk None book s happens awaits h = inl refl
held_in m disk (Some p) book s happens awaits h =
    let f = facts m disk p book s awaits h in
    ⊎_elim inl (λ same. inr (same ∙ sym (its_write s.pending f.packet s.now happens f.pending_is)))
    (held_now m disk (Some p) book s awaits h)

-- the unit fits the book with it
pub fits_held : {M : Type 0} (m : State) (disk : DiskValue M) (pending : Option Pending) (book : Book) (s : Lagging UnitState)
    → AwaitsDevice disk pending → StandsWith pending m disk book s
    → FitsUnit m disk.unit (with_progress book (held_write pending disk.line.left))
fits_held m disk None book s awaits h = h.fits
fits_held m disk (Some p) book s awaits h =
    dropped m disk.unit p.wanted.command (taken_in p.wrapper disk.line.left) p.wanted.want book (facts m disk p book s awaits h).fits

-- on a faulted unit a READ alone is pending
none_held : (wanted : Want) (command : Command) (taken : List ℕ) (dead : Bool) → ((wanted ≡ want.Read → ⊥) → dead ≡ false)
    → dead ≡ true → write_held wanted command taken ≡ None
none_held want.Room command taken dead live is = refl
none_held want.Commit command taken dead live is = absurd (let alive = live (λ is. cc) in cc)
none_held want.Read command taken dead live is = refl

held_dead : {M : Type 0} (m : State) (disk : DiskValue M) (pending : Option Pending) (book : Book) (s : Lagging UnitState)
    → AwaitsDevice disk pending → StandsWith pending m disk book s → is_dead disk.unit.store.cached ≡ true
    → held_write pending disk.line.left ≡ None
held_dead m disk None book s awaits h dead = refl
held_dead m disk (Some p) book s awaits h dead =
    none_held p.wanted.want p.wanted.command (taken_in p.wrapper disk.line.left) (is_dead disk.unit.store.cached)
    (facts m disk p book s awaits h).live dead

unit_now : {M : Type 0} (m : State) (disk : DiskValue M) (pending : Option Pending) (book : Book) (s : Lagging UnitState)
    → AwaitsDevice disk pending → StandsWith pending m disk book s → s.now.unit ≡ state_of disk.unit book
unit_now m disk None book s awaits h = ap (λ (x : Lagging UnitState). x.now.unit) h.is
unit_now m disk (Some p) book s awaits h = (facts m disk p book s awaits h).unit_is

-- between two events a cut leaves what may be found of that book
pub at_rest : {M : Type 0} (m : State) (disk : DiskValue M) (pending : Option Pending) (book : Book) (s : Lagging UnitState)
    → AwaitsDevice disk pending → StandsWith pending m disk book s → book.ours ≡ true
    → EachCut (MayFind m.size (with_progress book (held_write pending disk.line.left))) m
at_rest m disk pending book s awaits h ours =
    let held = held_write pending disk.line.left in
    between_calls m disk.unit (with_progress book held) (fits_held m disk pending book s awaits h) (held_ours book held ∙ ours)

-- no call is made
pub uncut : {M : Type 0} (state : M → State) → ((m : M) → IsSound (state m)) → (old new : M) → new ≡ old → (P : Image → Type 0)
    → EachCut P (state old) → LeavesOnly P (state old) (state new)
uncut state sound old new same P each =
    subst (λ (m : _). LeavesOnly P (state old) (state m)) (sym same) (started P (state old) (sound old) each)

-- ---- a step, by the book that the unit fits

module _ {M : Type 0} {Promises : Type 0} (refused : Bool) (before after : State) (happens : Event) (answer : Answer)
    (old new : LaggingValue M) (book : Book) (s : Lagging UnitState) (was : AwaitsDevice old.disk old.pending)
    (now : AwaitsDevice new.disk new.pending) (stood : StandsFor before old book s)
    (cuts : book.ours ≡ true → LeavesOnly (MayFind before.size (held_book old book)) before after) where
  pub made : (later : Book) (next : Lagging UnitState) → UnitLagStep refused s happens answer next → StandsFor after new later next
      → BookGoesOn Promises (is_dead new.disk.unit.store.cached) (held_write old.pending old.disk.line.left)
      (held_write new.pending new.disk.line.left) book later → LagStepMade Promises refused before after happens answer old new book s
  made later next step stands on =
      let rests = λ (ours : book.ours ≡ true). at_rest after new.disk new.pending later next now stands (on.life.ours ∙ ours) in
      record {
        later = later;
        next = next;
        step = step;
        stands = stands;
        life = on.life;
        since = on.more.0;
        writes = on.more.1;
        rises = on.rises;
        mark = on.mark;
        cuts = λ ours. weaker (MayFind before.size (held_book old book)) (FoundWith before.size book
            (event_write s.pending s.now happens)) before after (found_held before.size book (held_write old.pending old.disk.line.left)
            (event_write s.pending s.now happens) (held_in before old.disk old.pending book s happens was stood)) (cuts ours);
        at_exit = λ ours image cut. found_held after.size later (held_write new.pending new.disk.line.left)
            (pending_write next.pending next.now) (held_now after new.disk new.pending later next now stands) image (rests ours image cut);
        grows = on.grows;
        fault = λ dead.
            let here = unit_now before old.disk old.pending book s was stood in
            let there = unit_now after new.disk new.pending later next now stands in
            let kept = lag_fault refused s.pending s next happens answer step (ap (λ (u : UnitState). u.faulted) here ∙ dead) in
            let still = ap (λ (u : UnitState). u.faulted) (sym there) ∙ kept.0 in
            let none = held_dead before old.disk old.pending book s was stood dead in
            rw (none, held_dead after new.disk new.pending later next now stands still)
            (ap (λ (u : UnitState). u.book) (sym there) ∙ kept.1 ∙ ap (λ (u : UnitState). u.book) here);
        held_cuts = cuts;
        held_exit = rests;
      }

-- only the line changes, and nothing of what a batch has
module _ {M : Type 0} {Promises : Type 0} (m : State) (sound : IsSound m) (unit : UnitValue M) (from to : Line) (pending : Option Pending)
    (happens : Event) (answer : Answer) (was : AwaitsDevice (record { line = from; unit = unit }) pending)
    (now : AwaitsDevice (record { line = to; unit = unit }) pending) (same : held_write pending from.left ≡ held_write pending to.left)
    (size : to.packet_size ≡ from.packet_size) where
  pub idle : ((book : Book) (s : Lagging UnitState) → StandsWith pending m (record { line = from; unit = unit }) book s
      → (next : Lagging UnitState) × UnitLagStep (has_refused m m) s happens answer next
      × StandsWith pending m (record { line = to; unit = unit }) book next)
      → IsLagStep Promises m m (record { disk = record { line = from; unit = unit }; pending = pending }) happens answer
      (record { disk = record { line = to; unit = unit }; pending = pending })
  idle goes = record {
    proceeds = λ book s h.
        let held = held_write pending from.left in
        let g = goes book s h in
        made (has_refused m m) m m happens answer (record { disk = record { line = from; unit = unit }; pending = pending })
        (record { disk = record { line = to; unit = unit }; pending = pending }) book s was now h
        (λ ours. started (MayFind m.size (with_progress book held)) m sound (at_rest m (record { line = from; unit = unit }) pending book s
        was h ours))
        book g.0 g.1 g.2
        (stays_on Promises (is_dead unit.store.cached) held (held_write pending to.left) book (same_more book held (held_write pending
        to.left) same));
    elapses = record { failures_stay = omega arith; size_stays = refl };
    limit_stays = refl;
    packets_stay = size;
    layout_stays = refl;
    keeps_stays = refl;
    dead_stays = λ dead. dead;
  }

-- nothing is pending
module _ {M : Type 0} {Promises : Type 0} (m : State) (sound : IsSound m) (unit : UnitValue M) (from to : Line) (happens : Event)
    (answer : Answer) (size : to.packet_size ≡ from.packet_size) where
  pub idle_settled : ((book : Book) → UnitLagStep (has_refused m m) (settled (over (record { line = from; unit = unit }) book)) happens
      answer (settled (over (record { line = to; unit = unit }) book)))
      → IsLagStep Promises m m (record { disk = record { line = from; unit = unit }; pending = None }) happens answer
      (record { disk = record { line = to; unit = unit }; pending = None })
  idle_settled step = idle m sound unit from to None happens answer tt tt refl size (λ book s h. (
    settled (over (record { line = to; unit = unit }) book),
    subst (λ (x : Lagging UnitState). UnitLagStep (has_refused m m) x happens answer
        (settled (over (record { line = to; unit = unit }) book))) (sym h.is) (step book),
    record { is = refl; fits = h.fits },
  ))

-- a tick
pub rests : {M : Type 0} {Promises : Type 0} (m : State) → IsSound m → (disk : DiskValue M)
    → IsLagStep Promises m m (record { disk = disk; pending = None }) event.Tick Ticked (record { disk = disk; pending = None })
rests m sound disk =
    idle_settled m sound disk.unit disk.line disk.line event.Tick Ticked refl
    (λ book. record { step = (refl, inl refl, refl); pending = refl })

-- ---- while a command is pending

-- a line on which nothing is sent answers a token as one on which nothing is left, and stays
token_line : (line : Line) (left : Script) → AcknowledgesAny false left
    → (in_answer (record line { left = left }) ≡ in_answer (record line { left = finished }))
    × (after_in (record line { left = left }) ≡ record line { left = left })
token_line line left waits = grind (arith, waits)

waits_left : {M : Type 0} (disk : DiskValue M) (wanted : Wanted) (left : Script) → PendsOnLine left disk wanted → AcknowledgesAny false left
waits_left disk wanted finished p = absurd p
waits_left disk wanted (taking case command intended taken due) p = tt
waits_left disk wanted (sending packets halt status) p = absurd p

waits_on_line : {M : Type 0} (disk : DiskValue M) (wanted : Wanted) (wrapper : Option Exchange) → PendsOnDisk wrapper disk wanted
    → AcknowledgesAny false disk.line.left
waits_on_line disk wanted None p = waits_left disk wanted disk.line.left p
waits_on_line disk wanted (Some e) p = rw p.expected tt

-- a token changes nothing
token_stays : {M : Type 0} (disk : DiskValue M) (pending : Pending) → AwaitsDevice disk (Some pending) → after_in disk.line ≡ disk.line
token_stays disk pending awaits =
    (token_line disk.line disk.line.left (waits_on_line disk pending.wanted pending.wrapper awaits.1)).1

module _ {M : Type 0} {Promises : Type 0} (m : State) (sound : IsSound m) (disk : DiskValue M) (pending : Pending)
    (awaits : AwaitsDevice disk (Some pending)) where
  -- an event in which nothing happens
  nothing_happens : (happens : Event) (answer : Answer)
      → ((book : Book) (s : Lagging UnitState) → Facts m disk disk.line.left pending book s
      → UnitLagStep (has_refused m m) s happens answer s)
      → IsLagStep Promises m m (record { disk = disk; pending = Some pending }) happens answer
      (record { disk = disk; pending = Some pending })
  nothing_happens happens answer step =
      idle m sound disk.unit disk.line disk.line (Some pending) happens answer awaits awaits refl refl
      (λ book s h. (s, step book s (facts m disk pending book s awaits h), h))

  -- a step in the background is not made
  pub ticks_on : IsLagStep Promises m m (record { disk = disk; pending = Some pending }) event.Tick Ticked
      (record { disk = disk; pending = Some pending })
  ticks_on = nothing_happens event.Tick Ticked (λ book s f. at_packet (has_refused m m) s s event.Tick Ticked f.packet f.pending_is
      (inl (record { step = (refl, inl refl, refl); pending = refl })))

  -- a further packet waits
  pub waits_on : (packet : List ℕ) → IsLagStep Promises m m (record { disk = disk; pending = Some pending })
      (event.Out (record { items = packet })) Nak (record { disk = disk; pending = Some pending })
  waits_on packet = nothing_happens (event.Out (record { items = packet })) Nak (λ book s f. at_packet (has_refused m m) s s
      (event.Out (record { items = packet })) Nak f.packet f.pending_is (refl, refl))

  token_on : IsLagStep Promises m m (record { disk = disk; pending = Some pending }) event.In (in_answer disk.line)
      (record { disk = disk; pending = Some pending })
  token_on = nothing_happens event.In (in_answer disk.line) (λ book s f.
      let here = token_line disk.line disk.line.left (waits_on_line disk pending.wanted pending.wrapper awaits.1) in
      let there = token_line disk.line s.now.line.left f.waits in
      at_packet (has_refused m m) s s event.In (in_answer disk.line) f.packet f.pending_is (record {
        step = (
          here.0 ∙ sym (ap (λ (l : Line). in_answer l) f.line_is ∙ there.0),
          ap (λ (l : Line). record s.now { line = l }) (sym (ap (λ (l : Line). after_in l) f.line_is ∙ there.1 ∙ sym f.line_is)),
        );
        pending = refl;
      }))

-- ---- a token, whatever is pending

one_size : (line : Line) → (after_in line).packet_size ≡ line.packet_size
one_size line = grind arith

pub token : {M : Type 0} {Promises : Type 0} (m : State) → IsSound m → (disk : DiskValue M) (pending : Option Pending)
    → AwaitsDevice disk pending → IsLagStep Promises m m (record { disk = disk; pending = pending }) event.In (in_answer disk.line)
    (record { disk = record disk { line = after_in disk.line }; pending = pending })
token m sound disk None awaits =
    idle_settled m sound disk.unit disk.line (after_in disk.line) event.In (in_answer disk.line) (one_size disk.line)
    (λ book. record { step = (refl, refl); pending = refl })
token m sound disk (Some pending) awaits = rw (token_stays disk pending awaits) (token_on m sound disk pending awaits)

pub awaits_behind : {M : Type 0} (disk : DiskValue M) (pending : Option Pending) → AwaitsDevice disk pending → (number : ℕ)
    → AwaitsDevice (record disk { line = after_tokens number disk.line }) pending
awaits_behind disk pending awaits zero = awaits
awaits_behind disk None awaits (suc number) = tt
awaits_behind disk (Some pending) awaits (suc number) =
    let before = awaits_behind disk (Some pending) awaits number in
    rw (token_stays (record disk { line = after_tokens number disk.line }) pending before) before

-- ---- a packet comes where nothing is pending

module _ {M : Type 0} {state : M → State} {Follows : M → M → Type 0} (sound : (m : M) → IsSound (state m)) (old new : DiskValue M)
    (packet : List ℕ) (answer : Answer) where
  cuts : (result : Option Pending) → PacketBegun state Follows old packet answer result new → (book : Book)
      → FitsUnit (state old.unit.store.medium) old.unit book → book.ours ≡ true
      → LeavesOnly (MayFind (state old.unit.store.medium).size book) (state old.unit.store.medium) (state new.unit.store.medium)
  cuts result b book f ours =
      uncut state sound old.unit.store.medium new.unit.store.medium b.medium (MayFind (state old.unit.store.medium).size book)
      (between_calls (state old.unit.store.medium) old.unit book f ours)

  begins_as : (result : Option Pending) → PacketBegun state Follows old packet answer result new
      → (book : Book) (s : Lagging UnitState) → StandsFor (state old.unit.store.medium) (record { disk = old; pending = None }) book s
      → LagStepMade ⊥ (has_refused (state old.unit.store.medium) (state new.unit.store.medium)) (state old.unit.store.medium)
      (state new.unit.store.medium) (event.Out (record { items = packet })) answer (record { disk = old; pending = None })
      (record { disk = new; pending = result }) book s
  begins_as None b book s h =
      let after = state new.unit.store.medium in
      let refused = has_refused (state old.unit.store.medium) after in
      let happens = event.Out (record { items = packet }) in
      let o = b.acts book h.fits in
      let next = settled (over new o.later) in
      made refused (state old.unit.store.medium) after happens answer (record { disk = old; pending = None })
      (record { disk = new; pending = None }) book s tt tt h (cuts None b book h.fits) o.later next
      (subst (λ (x : Lagging UnitState). UnitLagStep refused x happens answer next) (sym h.is)
      (inl (record { step = o.step; pending = refl })))
      (record { is = refl; fits = o.fits }) o.on
  begins_as (Some pending) b book s h =
      let after = state new.unit.store.medium in
      let refused = has_refused (state old.unit.store.medium) after in
      let happens = event.Out (record { items = packet }) in
      let o = b.acts book h.fits in
      let next : Lagging UnitState = record { now = over old book; pending = Some packet } in
      made refused (state old.unit.store.medium) after happens answer (record { disk = old; pending = None })
      (record { disk = new; pending = Some pending }) book s tt b.awaits h (cuts (Some pending) b book h.fits) book next
      (subst (λ (x : Lagging UnitState). UnitLagStep refused x happens answer next) (sym h.is)
      (inr (record { acknowledged = o.1; answered = o.0; after = refl })))
      o.2 (stays_on _ _ _ _ book (more_held book (held_write (Some pending) new.line.left)))

  pub begins : (result : Option Pending) → PacketBegun state Follows old packet answer result new
      → IsLagStep ⊥ (state old.unit.store.medium) (state new.unit.store.medium) (record { disk = old; pending = None })
      (event.Out (record { items = packet })) answer (record { disk = new; pending = result })
  begins result b = record {
    proceeds = begins_as result b;
    elapses = record { failures_stay = b.keeps.goes_on.failures_stay; size_stays = b.keeps.goes_on.size_stays };
    limit_stays = b.limit;
    packets_stay = b.size;
    layout_stays = b.keeps.goes_on.layout_stays;
    keeps_stays = b.keeps.goes_on.keeps_stays;
    dead_stays = b.keeps.goes_on.dead_stays;
  }

-- ---- a command goes on

module _ {M : Type 0} {state : M → State} {Follows : M → M → Type 0} (old new : DiskValue M) (pending : Pending)
    (awaits : AwaitsDevice old (Some pending)) where
  goes_as : (result : Option Pending) → PendingAdvanced state Follows old pending result new
      → (book : Book) (s : Lagging UnitState)
      → StandsFor (state old.unit.store.medium) (record { disk = old; pending = Some pending }) book s
      → LagStepMade (MayPromiseNext (record { disk = old; pending = Some pending }))
      (has_refused (state old.unit.store.medium) (state new.unit.store.medium)) (state old.unit.store.medium)
      (state new.unit.store.medium) event.Tick Ticked (record { disk = old; pending = Some pending })
      (record { disk = new; pending = result }) book s
  goes_as None g book s h =
      let before = state old.unit.store.medium in
      let after = state new.unit.store.medium in
      let o = g.goes book s h in
      let next = settled (over new o.later) in
      made (has_refused before after) before after event.Tick Ticked (record { disk = old; pending = Some pending })
      (record { disk = new; pending = None }) book s awaits tt h (g.cuts book s h) o.later next
      (at_packet (has_refused before after) s next event.Tick Ticked o.packet o.pending_is
      (inr (record { answered = refl; step = o.step; after = refl })))
      (record { is = refl; fits = o.fits }) o.on
  goes_as (Some still) g book s h =
      let before = state old.unit.store.medium in
      let after = state new.unit.store.medium in
      let f = facts before old pending book s awaits h in
      let o = g.goes book s h in
      made (has_refused before after) before after event.Tick Ticked (record { disk = old; pending = Some pending })
      (record { disk = new; pending = Some still }) book s awaits (g.awaits awaits.0) h (g.cuts book s h) book s
      (at_packet (has_refused before after) s s event.Tick Ticked f.packet f.pending_is
      (inl (record { step = (refl, inl refl, refl); pending = refl })))
      o.0 (stays_on _ _ _ _ book o.1)

  pub goes : (result : Option Pending) → PendingAdvanced state Follows old pending result new
      → IsLagStep (MayPromiseNext (record { disk = old; pending = Some pending })) (state old.unit.store.medium)
      (state new.unit.store.medium) (record { disk = old; pending = Some pending }) event.Tick Ticked
      (record { disk = new; pending = result })
  goes result g = record {
    proceeds = goes_as result g;
    elapses = record { failures_stay = g.keeps.goes_on.failures_stay; size_stays = g.keeps.goes_on.size_stays };
    limit_stays = g.limit;
    packets_stay = g.size;
    layout_stays = g.keeps.goes_on.layout_stays;
    keeps_stays = g.keeps.goes_on.keeps_stays;
    dead_stays = g.keeps.goes_on.dead_stays;
  }

-- ---- where nothing is pending a step in the background is one of the disk

pub works : {M : Type 0} (work : Work) (before after : State) (old new : DiskValue M)
    → IsStepBy work before after old event.Tick Ticked new
    → IsLagStep ⊥ before after (record { disk = old; pending = None }) event.Tick Ticked (record { disk = new; pending = None })
works work before after old new step = record {
  proceeds = λ book s h.
      let p = step.proceeds book h.fits in
      let next = settled (over new p.later) in
      let same : p.later ≡ book = same_book (has_refused before after) (state_of old.unit book) (state_of new.unit p.later) p.moves.1 in
      made (has_refused before after) before after event.Tick Ticked (record { disk = old; pending = None })
      (record { disk = new; pending = None }) book s tt tt h p.cuts p.later next
      (subst (λ (x : Lagging UnitState). UnitLagStep (has_refused before after) x event.Tick Ticked next) (sym h.is)
      (record { step = p.moves; pending = refl }))
      (record { is = refl; fits = p.fits })
      (subst (λ (b : Book). BookGoesOn ⊥ (is_dead new.unit.store.cached) None None book b) (sym same)
      (stays_on ⊥ (is_dead new.unit.store.cached) None None book (more_held book None)));
  elapses = step.elapses;
  limit_stays = step.limit_stays;
  packets_stay = step.packets_stay;
  layout_stays = step.few.layout_stays;
  keeps_stays = step.few.keeps_stays;
  dead_stays = λ dead. (step.few.faulted dead).1;
}
