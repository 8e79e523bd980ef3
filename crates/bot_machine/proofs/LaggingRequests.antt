-- Control requests where the device may be behind: a class reset drops what is pending, and no other changes it.
use Rattle.std.proofs.Common.{◌≡◌, ◌⊎◌, ℕ, false, List, length, Some, None, Option, arith, refl, sym, ap, ◌∙◌, subst, inl, inr}
use Rattle.medium.{specs.Medium.{State, IsSound}, proofs.Moments.started}
use Rattle.logical_blocks.specs.{Blocks.Write, Book.{Book, with_progress}}
use Rattle.scsi.specs.Rules.{UnitState, CarriesOut, Ticks}
use Rattle.spec.specs.{declared.event.Answer.Answer, declared.event.Answer.TheVariants.Ack}
use Rattle.spec.specs.declared.event.Event.TheVariants as event
use Rattle.spec.specs.Requests.{Request, setup_packet, mass_storage_reset, get_max_lun, clear_halt, get_status}
use Rattle.spec.specs.{Exchange.{Line, Script, finished, taking, sending, after_request, request_answer}, Conversation.SetupStep}
use Rattle.spec.specs.{UnitConversation.{Intends, on_line}, Lagging.{Lagging, settled, PacketDropped, Drops}, Disks.pending_write}
use Rattle.spec.specs.declared.case.Endpoint.TheVariants as endpoint
use Rattle.scsi_unit.specs.{Background.is_dead, Books.MayFind, Serving.has_refused, UnitValue.{UnitValue, state_of}}
use Rattle.transport_laws.proofs.StruckTicks.{one_request}
use Rattle.bot_machine.specs.declared.exchange.Exchange.{Exchange}
use Rattle.bot_machine.specs.declared.pending.{Pending.Pending, Wanted.Wanted}
use Rattle.bot_machine.specs.{Disk.DiskValue, LaggingDisk.{StandsPending, IsLagStep, held_write}}
use Rattle.bot_machine.specs.LaggingParts.{AwaitsDevice, PendsOnDisk, PendsOnLine}
use Rattle.bot_machine.proofs.{BooksGoOn.drops_on, LaggingEvents.{at_packet, at_rest, facts, fits_held, held_now, idle, idle_settled, made}}

-- ---- a class reset

-- the packet asks for one, and nothing else is done
reset_only : (packet : List ℕ) (old : Line) (answer : Answer) (new : Line) → SetupStep packet old answer new
    → packet ≡ setup_packet mass_storage_reset → (answer ≡ Ack) × (new ≡ after_request mass_storage_reset old)
reset_only packet old answer new (inl asked) is =
    let same : asked.0 ≡ mass_storage_reset = one_request asked.0 mass_storage_reset (sym asked.1.spelled ∙ is) in (
      asked.1.answered ∙ ap (λ (r : Request). request_answer r old) same,
      asked.1.after ∙ ap (λ (r : Request). after_request r old) same,
    )
reset_only packet old answer new (inr refused) is = absurd (refused.unknown mass_storage_reset is)

-- what it leaves of the unit
drops_as : {M : Type 0} (unit : UnitValue M) (s : Lagging UnitState) (packet : List ℕ) (book : Book) (held : Option Write)
    → s.now.unit ≡ state_of unit book → s.pending ≡ Some packet → (held ≡ None) ⊎ (held ≡ pending_write s.pending s.now)
    → Drops s.now packet (state_of unit (with_progress book held))
drops_as unit s packet book held is pending (inl none) = inl (rw (none, is) refl)
drops_as unit s packet book held is pending (inr same) =
    let here = same ∙ ap (λ (p : Option (List ℕ)). pending_write p s.now) pending in
    inr (rw here (subst (λ (u : UnitState). state_of unit (with_progress book (pending_write (Some packet) s.now))
    ≡ record u { book = with_progress u.book (pending_write (Some packet) s.now) }) (sym is) refl))

module _ {M : Type 0} {Promises : Type 0} (m : State) (sound : IsSound m) (disk : DiskValue M) (pending : Pending)
    (awaits : AwaitsDevice disk (Some pending)) (packet : List ℕ) (answer : Answer) (line : Line)
    (request : SetupStep packet disk.line answer line) where
  pub drops : packet ≡ setup_packet mass_storage_reset
      → IsLagStep Promises m m (record { disk = disk; pending = Some pending }) (event.Setup packet) answer
      (record { disk = record disk { line = line }; pending = None })
  drops is =
      let only = reset_only packet disk.line answer line request is in
      let held = held_write (Some pending) disk.line.left in
      record {
        proceeds = λ book s h.
            let f = facts m disk pending book s awaits h in
            let next = settled (on_line line (state_of disk.unit (with_progress book held))) in
            let dropping : PacketDropped Intends CarriesOut Ticks Drops (has_refused m m) f.packet packet s answer next = record {
              spelled = is;
              answered = only.0;
              line = only.1 ∙ subst (λ (l : Line). after_request mass_storage_reset disk.line ≡ after_request mass_storage_reset l)
                  (sym f.line_is) refl;
              unit = drops_as disk.unit s f.packet book held f.unit_is f.pending_is (held_now m disk (Some pending) book s awaits h);
              after = refl;
            } in
            made (has_refused m m) m m (event.Setup packet) answer (record { disk = disk; pending = Some pending })
            (record { disk = record disk { line = line }; pending = None }) book s awaits tt h
            (λ ours. started (MayFind m.size (with_progress book held)) m sound (at_rest m disk (Some pending) book s awaits h ours))
            (with_progress book held) next
            (at_packet (has_refused m m) s next (event.Setup packet) answer f.packet f.pending_is (inr dropping))
            (record { is = refl; fits = fits_held m disk (Some pending) book s awaits h })
            (drops_on Promises (is_dead disk.unit.store.cached) held book);
        elapses = record { failures_stay = omega arith; size_stays = refl };
        limit_stays = refl;
        packets_stay = ap (λ (l : Line). l.packet_size) only.1;
        layout_stays = refl;
        keeps_stays = refl;
        dead_stays = λ dead. dead;
      }

-- ---- any other request

-- each answers as it did, whatever is left of an exchange
same_answer : (r : Request) (line : Line) (left : Script) → request_answer r line ≡ request_answer r (record line { left = left })
same_answer mass_storage_reset line left = refl
same_answer get_max_lun line left = refl
same_answer (clear_halt end) line left = refl
same_answer (get_status endpoint.In) line left = refl
same_answer (get_status endpoint.Out) line left = refl

-- and leaves it
keeps_left : (r : Request) (line : Line) (left : Script) → (r ≡ mass_storage_reset → ⊥)
    → (record (after_request r line) { left = left } ≡ after_request r (record line { left = left }))
    × ((after_request r line).left ≡ line.left)
keeps_left mass_storage_reset line left not = absurd (not refl)
keeps_left get_max_lun line left not = (refl, refl)
keeps_left (clear_halt end) line left not = grind arith
keeps_left (get_status end) line left not = (refl, refl)

-- Bulk-Out does not come to be halted
unhalted_on : (r : Request) (line : Line) → line.out_halted ≡ false → (after_request r line).out_halted ≡ false
unhalted_on r line halted = grind (arith, halted)

-- on a line with something else left
other_left : (packet : List ℕ) (old : Line) (answer : Answer) (new : Line) → SetupStep packet old answer new
    → (packet ≡ setup_packet mass_storage_reset → ⊥) → (left : Script)
    → SetupStep packet (record old { left = left }) answer (record new { left = left }) × (new.left ≡ old.left)
    × (old.out_halted ≡ false → new.out_halted ≡ false)
other_left packet old answer new (inl asked) not left =
    let r = asked.0 in
    let other : r ≡ mass_storage_reset → ⊥ = λ is. not (asked.1.spelled ∙ ap setup_packet is) in
    let keeps = keeps_left r old left other in (
      inl (
        r,
        record {
          spelled = asked.1.spelled;
          answered = asked.1.answered ∙ same_answer r old left;
          after = ap (λ (l : Line). record l { left = left }) asked.1.after ∙ keeps.0;
        },
      ),
      ap (λ (l : Line). l.left) asked.1.after ∙ keeps.1,
      (λ halted. ap (λ (l : Line). l.out_halted) asked.1.after ∙ unhalted_on r old halted),
    )
other_left packet old answer new (inr refused) not left = (
  inr (record {
    unknown = refused.unknown;
    answered = refused.answered;
    after = ap (λ (l : Line). record l { left = left })
        refused.after;
  }),
  ap (λ (l : Line). l.left) refused.after,
  (λ halted. ap (λ (l : Line). l.out_halted) refused.after ∙ halted),
)

-- what is pending stands for the same packet on the new line
stands_at : {M : Type 0} (m : State) (disk : DiskValue M) (line : Line) (wanted : Wanted) (book : Book) (s : Lagging UnitState)
    → line.packet_size ≡ disk.line.packet_size → line.left ≡ disk.line.left → (wrapper : Option Exchange) (at : Script)
    → at ≡ disk.line.left → StandsPending wrapper at m disk wanted book s
    → StandsPending wrapper at m (record disk { line = line }) wanted book
    (record { now = on_line (record line { left = s.now.line.left }) s.now.unit; pending = s.pending })
stands_at m disk line wanted book s size left (Some e) at is h = record {
  packet = h.packet;
  spelled = h.spelled;
  is = subst (λ (x : Lagging UnitState). (let y : Lagging UnitState = record {
    now = on_line (record line { left = x.now.line.left }) x.now.unit;
    pending = x.pending;
  } in y)
      ≡ record { now = on_line line (state_of disk.unit book); pending = Some h.packet }) (sym h.is)
      (ap (λ (l : Script). record { now = on_line (record line { left = l }) (state_of disk.unit book); pending = Some h.packet })
      (sym left));
  fits = h.fits;
}
stands_at m disk line wanted book s size left None finished is h = absurd h
stands_at m disk line wanted book s size left None (taking case command intended taken due) is h = record {
  packet = h.packet;
  bytes = h.bytes;
  few = rw size h.few;
  taken_is = h.taken_is;
  is = subst (λ (x : Lagging UnitState). (let y : Lagging UnitState = record {
    now = on_line (record line { left = x.now.line.left }) x.now.unit;
    pending = x.pending;
  } in y)
      ≡ record {
        now = on_line (record line { left = taking case command intended h.bytes (length h.packet) }) (state_of disk.unit book);
        pending = Some h.packet;
      }) (sym h.is) refl;
  fits = h.fits;
}
stands_at m disk line wanted book s size left None (sending packets halt status) is h = absurd h

stands_on : {M : Type 0} (m : State) (disk : DiskValue M) (line : Line) (wanted : Wanted) (book : Book) (s : Lagging UnitState)
    → line.packet_size ≡ disk.line.packet_size → line.left ≡ disk.line.left → (wrapper : Option Exchange)
    → StandsPending wrapper disk.line.left m disk wanted book s
    → StandsPending wrapper disk.line.left m (record disk { line = line }) wanted book
    (record { now = on_line (record line { left = s.now.line.left }) s.now.unit; pending = s.pending })
stands_on m disk line wanted book s size left wrapper h = stands_at m disk line wanted book s size left wrapper disk.line.left refl h

-- it pends on the new line as on the old
pends_by : {M : Type 0} (disk : DiskValue M) (line : Line) (wanted : Wanted) (left : Script) → PendsOnLine left disk wanted
    → PendsOnLine left (record disk { line = line }) wanted
pends_by disk line wanted finished p = absurd p
pends_by disk line wanted (taking case command intended bytes due) p = p
pends_by disk line wanted (sending packets halt status) p = absurd p

pends_at : {M : Type 0} (disk : DiskValue M) (line : Line) (wanted : Wanted) (new old : Script) → new ≡ old
    → PendsOnLine old disk wanted → PendsOnLine new (record disk { line = line }) wanted
pends_at disk line wanted new old same p =
    subst (λ (l : Script). PendsOnLine l (record disk { line = line }) wanted) (sym same) (pends_by disk line wanted old p)

pends_on : {M : Type 0} (disk : DiskValue M) (line : Line) (wanted : Wanted) → line.left ≡ disk.line.left → (wrapper : Option Exchange)
    → PendsOnDisk wrapper disk wanted → PendsOnDisk wrapper (record disk { line = line }) wanted
pends_on disk line wanted left (Some e) p = record {
  expected = left ∙ p.expected;
  is_at_once = p.is_at_once;
  intended = p.intended;
  pends = p.pends;
}
pends_on disk line wanted left None p = pends_at disk line wanted line.left disk.line.left left p

-- it is awaited on the new line too
pub still_awaits : {M : Type 0} (disk : DiskValue M) (pending : Pending) → AwaitsDevice disk (Some pending) → (packet : List ℕ)
    (answer : Answer) (line : Line) → SetupStep packet disk.line answer line → (packet ≡ setup_packet mass_storage_reset → ⊥)
    → AwaitsDevice (record disk { line = line }) (Some pending)
still_awaits disk pending awaits packet answer line request not =
    let o = other_left packet disk.line answer line request not disk.line.left in
    (o.2 awaits.0, pends_on disk line pending.wanted o.1 pending.wrapper awaits.1)

module _ {M : Type 0} {Promises : Type 0} (m : State) (sound : IsSound m) (disk : DiskValue M) (pending : Pending)
    (awaits : AwaitsDevice disk (Some pending)) (packet : List ℕ) (answer : Answer) (line : Line)
    (request : SetupStep packet disk.line answer line) (not : packet ≡ setup_packet mass_storage_reset → ⊥) where
  pub asks_on : line.packet_size ≡ disk.line.packet_size
      → IsLagStep Promises m m (record { disk = disk; pending = Some pending }) (event.Setup packet) answer
      (record { disk = record disk { line = line }; pending = Some pending })
  asks_on size =
      let same = (other_left packet disk.line answer line request not disk.line.left).1 in
      idle m sound disk.unit disk.line line (Some pending) (event.Setup packet) answer awaits
      (still_awaits disk pending awaits packet answer line request not)
      (ap (λ (l : Script). held_write (Some pending) l) (sym same)) size (λ book s h.
      let f = facts m disk pending book s awaits h in
      let o = other_left packet disk.line answer line request not s.now.line.left in
      let next : Lagging UnitState = record {
        now = on_line (record line { left = s.now.line.left }) s.now.unit;
        pending = s.pending;
      } in (
        next,
        at_packet (has_refused m m) s next (event.Setup packet) answer f.packet f.pending_is (inl (
          not,
          record {
            step = (subst (λ (l : Line). SetupStep packet l answer next.now.line) (sym f.line_is) o.0, refl);
            pending = refl;
          },
        )),
        subst (λ (l : Script). StandsPending pending.wrapper l m (record disk { line = line }) pending.wanted book next) (sym same)
            (stands_on m disk line pending.wanted book s size same pending.wrapper h),
      ))

-- ---- whether something is pending or not

module _ {M : Type 0} {Promises : Type 0} (m : State) (sound : IsSound m) (disk : DiskValue M) (packet : List ℕ) (answer : Answer)
    (line : Line) (request : SetupStep packet disk.line answer line) (size : line.packet_size ≡ disk.line.packet_size) where
  asks_settled : IsLagStep Promises m m (record { disk = disk; pending = None }) (event.Setup packet) answer
      (record { disk = record disk { line = line }; pending = None })
  asks_settled =
      idle_settled m sound disk.unit disk.line line (event.Setup packet) answer size
      (λ book. record { step = (request, refl); pending = refl })

  pub resets : packet ≡ setup_packet mass_storage_reset → (pending : Option Pending) → AwaitsDevice disk pending
      → IsLagStep Promises m m (record { disk = disk; pending = pending }) (event.Setup packet) answer
      (record { disk = record disk { line = line }; pending = None })
  resets is None awaits = asks_settled
  resets is (Some pending) awaits = drops m sound disk pending awaits packet answer line request is

  pub asks : (packet ≡ setup_packet mass_storage_reset → ⊥) → (pending : Option Pending) → AwaitsDevice disk pending
      → IsLagStep Promises m m (record { disk = disk; pending = pending }) (event.Setup packet) answer
      (record { disk = record disk { line = line }; pending = pending })
  asks not None awaits = asks_settled
  asks not (Some pending) awaits = asks_on m sound disk pending awaits packet answer line request not size
