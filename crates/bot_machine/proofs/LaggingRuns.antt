-- Runs of packets where the device may be behind: each is an event of its own. And a medium that is armed: what is pending stands for
-- what it stood for.
use Rattle.std.proofs.Common.{◌≡◌, ◌<◌, ◌≤◌, ◌-◌, ◌*◌, ◌/◌, ◌∙◌, ℕ, suc, Bool, true, false, List, [], length, drop, Some, None, Option}
use Rattle.std.proofs.{Common.{arith, refl, sym, ap, subst, inl, inr, length-drop}, lemmas.{List.length-take, Bool.cases_lt}}
use Rattle.std.proofs.Math.Nat.{zero-div}
use Rattle.medium.specs.Medium.{State, IsSound}
use Rattle.logical_blocks.specs.Book.{Book}
use Rattle.scsi.specs.{declared.command.Command.Command, Rules.UnitState}
use Rattle.spec.specs.{declared.case.Case.Case, declared.wrapper.Cbw.Cbw, declared.way.Way.Way}
use Rattle.spec.specs.{Exchange.{Script, finished, taking, sending}, Lagging.Lagging}
use Rattle.spec.specs.declared.event.Answer.TheVariants.{Ack}
use Rattle.spec.specs.declared.event.Event.TheVariants as event
use Rattle.scsi_unit.specs.{Pending.FitsPending, UnitValue.{UnitValue, unit_limit, FitsUnit}, declared.progress.Want.Want}
use Rattle.scsi_unit.specs.declared.progress.Want.TheVariants as want
use Rattle.bot_machine.specs.declared.exchange.Exchange.{Exchange}
use Rattle.bot_machine.specs.declared.pending.{Pending.Pending, Wanted.Wanted}
use Rattle.bot_machine.specs.{Disk.{DiskValue, IsRearmed}, PacketRuns.{GivesRun, TakesRun, after_first, after_tokens, packet_of}}
use Rattle.bot_machine.specs.PacketRuns.{due_in, packets_amid}
use Rattle.bot_machine.specs.LaggingDisk.{GivesLagRun, TakesLagRun, IsLagStep, StandsPending, StandsWith}
use Rattle.bot_machine.specs.LaggingParts.{AwaitsDevice, PendsFor, PendsOnDisk, PendsOnLine}
use Rattle.bot_machine.proofs.{LaggingEvents.{awaits_behind, idle_settled, token}, PacketRuns.{amid, left_behind, within}}

-- ---- from Bulk-In

pub gives_on : {M : Type 0} {state : M → State} → ((m : M) → IsSound (state m)) → (disk : DiskValue M) (pending : Option Pending)
    → AwaitsDevice disk pending → (room : List ℕ) (new : DiskValue M) (filled : List ℕ) (count : ℕ) → GivesRun disk room new filled count
    → GivesLagRun state (record { disk = disk; pending = pending }) room (record { disk = new; pending = pending }) filled count
gives_on {M} {state} sound disk pending awaits room new filled count gives = record {
  gives = gives;
  pending = refl;
  steps = λ number low. token (state disk.unit.store.medium) (sound disk.unit.store.medium)
      (record disk { line = after_tokens number disk.line }) pending (awaits_behind disk pending awaits number);
}

-- ---- to Bulk-Out

-- where nothing is due there is no packet
none_due : (size due room count : ℕ) → count ≡ packets_amid size due room → due ≤ 0 → count ≤ 0
none_due size due room count is none =
    let nothing : due - 1 ≡ 0 = omega (arith, none) in
    let few : count ≤ (due - 1) / size = omega (arith, is) in
    omega (arith, few, ap (λ (n : ℕ). n / size) nothing, zero-div size)

-- no more data is due of a command that is pending
none_more : {M : Type 0} (disk : DiskValue M) (wanted : Wanted) (left : Script) → PendsOnLine left disk wanted → due_in left ≤ 0
none_more disk wanted finished p = absurd p
none_more disk wanted (taking case command intended taken due) p = omega (arith, p.0)
none_more disk wanted (sending packets halt status) p = absurd p

none_left : {M : Type 0} (disk : DiskValue M) (wanted : Wanted) (wrapper : Option Exchange) → PendsOnDisk wrapper disk wanted
    → due_in disk.line.left ≤ 0
none_left disk wanted None p = none_more disk wanted disk.line.left p
none_left disk wanted (Some e) p = rw p.expected (omega arith)

none_taken : {M : Type 0} (disk : DiskValue M) (pending : Pending) → AwaitsDevice disk (Some pending) → (bytes : List ℕ)
    (new : DiskValue M) (count : ℕ) → TakesRun disk bytes new count → count ≡ 0
none_taken disk pending awaits bytes new count takes =
    let none = none_left disk pending.wanted pending.wrapper awaits.1 in
    let is : count ≡ packets_amid disk.line.packet_size (due_in disk.line.left) (length bytes) = rw awaits.0 at takes.count_is in
    omega (arith, none_due disk.line.packet_size (due_in disk.line.left) (length bytes) count is none)

pub awaits_taken : {M : Type 0} (disk : DiskValue M) (pending : Option Pending) → AwaitsDevice disk pending → (bytes : List ℕ)
    (new : DiskValue M) (count : ℕ) → TakesRun disk bytes new count → AwaitsDevice new pending
awaits_taken disk None awaits bytes new count takes = tt
awaits_taken disk (Some pending) awaits bytes new count takes =
    rw (takes.after, none_taken disk pending awaits bytes new count takes) awaits

module _ {M : Type 0} {state : M → State} (sound : (m : M) → IsSound (state m)) (disk : DiskValue M) (bytes : List ℕ) (new : DiskValue M)
    (count : ℕ) (takes : TakesRun disk bytes new count) where
  abbrev most : ℕ
  most = disk.line.packet_size

  abbrev left_at : ℕ → Script
  left_at number = after_first most bytes number disk.line.left

  abbrev disk_at : ℕ → DiskValue M
  disk_at number = record disk { line = record disk.line { left = left_at number } }

  abbrev Taken : ℕ → Type 0
  Taken number = IsLagStep ⊥ (state disk.unit.store.medium) (state disk.unit.store.medium)
      (record { disk = disk_at number; pending = None }) (event.Out (record { items = packet_of most bytes number })) Ack
      (record { disk = disk_at (suc number); pending = None })

  -- a packet behind which more data is due
  one_taken : (number : ℕ) (case : Case) (command : Cbw) (intended : Way) (came : List ℕ) (due : ℕ) → disk.line.out_halted ≡ false
      → left_at number ≡ taking case command intended came due → most < due → length (packet_of most bytes number) ≡ most → Taken number
  one_taken number case command intended came due halted left more size =
      idle_settled (state disk.unit.store.medium) (sound disk.unit.store.medium) disk.unit (disk_at number).line (disk_at (suc number)).line
      (event.Out (record { items = packet_of most bytes number })) Ack refl (λ book. inl (record {
        step = rw (halted, left) (refl, inl (record { size = size; more = more; unit = refl; after = refl }));
        pending = refl;
      }))

  by_line : (halted : Bool) (left : Script) → disk.line.out_halted ≡ halted → disk.line.left ≡ left → (number : ℕ) → number < count
      → Taken number
  by_line true left h l number low =
      absurd (omega (arith, low, none_due most 0 (length bytes) count (rw h at takes.count_is) (omega arith)))
  by_line false finished h l number low =
      absurd (omega (arith, low, none_due most 0 (length bytes) count (rw (h, l) at takes.count_is) (omega arith)))
  by_line false (sending packets halt status) h l number low =
      absurd (omega (arith, low, none_due most 0 (length bytes) count (rw (h, l) at takes.count_is) (omega arith)))
  by_line false (taking case command intended came due) h l number low =
      let is : count ≡ packets_amid most due (length bytes) = rw (h, l) at takes.count_is in
      let before = left_behind most bytes case command intended came due number in
      let left : left_at number ≡ taking case command intended before.0 (due - number * most)
      = ap (λ (s : Script). after_first most bytes number s) l ∙ before.1 in
      elim (cases_lt 0 due) [
        | inr none ↦ absurd (omega (arith, low, none_due most due (length bytes) count is none))
        | inl some ↦
            let bound = amid most due (length bytes) some in
            let all = ap (λ (n : ℕ). n * most) is in
            let inside = within number count most low in
            one_taken number case command intended before.0 (due - number * most) h left (omega (arith, bound, all, inside))
            (omega (arith, bound, all, inside, length-take most (drop (number * most) bytes), length-drop (number * most) bytes))
      ]

pub takes_on : {M : Type 0} {state : M → State} → ((m : M) → IsSound (state m)) → (disk : DiskValue M) (pending : Option Pending)
    → AwaitsDevice disk pending → (bytes : List ℕ) (new : DiskValue M) (count : ℕ) → TakesRun disk bytes new count
    → TakesLagRun state (record { disk = disk; pending = pending }) bytes (record { disk = new; pending = pending }) count
takes_on sound disk None awaits bytes new count takes = record {
  takes = takes;
  pending = refl;
  steps = by_line sound disk bytes new count takes disk.line.out_halted disk.line.left refl refl;
}
takes_on sound disk (Some pending) awaits bytes new count takes = record {
  takes = takes;
  pending = refl;
  steps = λ number low. absurd (omega (arith, low, none_taken disk pending awaits bytes new count takes));
}

-- ---- the medium is armed, or lets go of a call

module _ {M : Type 0} (disk : DiskValue M) (medium : M) where
  -- the unit over that medium
  abbrev armed_unit : UnitValue M
  armed_unit = record disk.unit { store = record disk.unit.store { medium = medium } }

  abbrev armed : DiskValue M
  armed = record disk { unit = armed_unit }

  armed_for : (e : Exchange) (taken : List ℕ) (wanted : Wanted) (room : ℕ) → PendsFor disk.unit e taken wanted room
      → PendsFor armed_unit e taken wanted room
  armed_for e taken wanted room p = record {
    is_case = p.is_case;
    sends = p.sends;
    parsed = p.parsed;
    can = record { supported = p.can.supported; taken_all = p.can.taken_all; wanted = p.can.wanted };
    room = p.room;
    live = p.live;
  }

  armed_line : (wanted : Wanted) (left : Script) → PendsOnLine left disk wanted → PendsOnLine left armed wanted
  armed_line wanted finished p = absurd p
  armed_line wanted (taking case command intended taken due) p =
      (p.0, p.1, armed_for (record { case = case; command = command; intended = intended }) taken wanted 0 p.2)
  armed_line wanted (sending packets halt status) p = absurd p

  armed_on : (wanted : Wanted) (wrapper : Option Exchange) → PendsOnDisk wrapper disk wanted → PendsOnDisk wrapper armed wanted
  armed_on wanted None p = armed_line wanted disk.line.left p
  armed_on wanted (Some e) p = record {
    expected = p.expected;
    is_at_once = p.is_at_once;
    intended = p.intended;
    pends = armed_for e [] wanted (512 * unit_limit disk.unit) p.pends;
  }

  awaits_still : (pending : Option Pending) → AwaitsDevice disk pending → AwaitsDevice armed pending
  awaits_still None awaits = tt
  awaits_still (Some p) awaits = (awaits.0, armed_on p.wanted p.wrapper awaits.1)

  module _ (m after : State) (fits : (book : Book) → FitsUnit m disk.unit book → FitsUnit after armed_unit book) where
    fits_still : (command : Command) (taken : List ℕ) (wanted : Want) (book : Book) → FitsPending m disk.unit command taken wanted book
        → FitsPending after armed_unit command taken wanted book
    fits_still command taken want.Room book f = fits book f
    fits_still command taken want.Commit book f = record { fits = fits _ f.fits; live = f.live }
    fits_still command taken want.Read book f = record { fits = fits book f.fits; written = f.written }

    stands_pending : (wrapper : Option Exchange) (left : Script) (wanted : Wanted) (book : Book) (s : Lagging UnitState)
        → StandsPending wrapper left m disk wanted book s → StandsPending wrapper left after armed wanted book s
    stands_pending (Some e) left wanted book s h =
        record { packet = h.packet; spelled = h.spelled; is = h.is; fits = fits_still wanted.command [] wanted.want book h.fits }
    stands_pending None finished wanted book s h = absurd h
    stands_pending None (taking case command intended taken due) wanted book s h = record {
      packet = h.packet;
      bytes = h.bytes;
      few = h.few;
      taken_is = h.taken_is;
      is = h.is;
      fits = fits_still wanted.command taken wanted.want book h.fits;
    }
    stands_pending None (sending packets halt status) wanted book s h = absurd h

    stands_still : (pending : Option Pending) (book : Book) (s : Lagging UnitState) → StandsWith pending m disk book s
        → StandsWith pending after armed book s
    stands_still None book s h = record { is = h.is; fits = fits book h.fits }
    stands_still (Some p) book s h = stands_pending p.wrapper disk.line.left p.wanted book s h

module _ {M : Type 0} (old new : DiskValue M) (others : IsRearmed old new) (pending : Option Pending) where
  pub awaits_armed : AwaitsDevice old pending → AwaitsDevice new pending
  awaits_armed awaits =
      subst (λ (d : DiskValue M). AwaitsDevice d pending) (sym others) (awaits_still old new.unit.store.medium pending awaits)

  pub stands_armed : (m after : State) → ((book : Book) → FitsUnit m old.unit book → FitsUnit after new.unit book) → (book : Book)
      (s : Lagging UnitState) → StandsWith pending m old book s → StandsWith pending after new book s
  stands_armed m after fits book s h =
      subst (λ (d : DiskValue M). StandsWith pending after d book s) (sym others)
      (stands_still old new.unit.store.medium m after (λ b f. subst (λ (d : DiskValue M). FitsUnit after d.unit b) others (fits b f))
      pending book s h)
