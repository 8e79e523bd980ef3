-- A disk over a file that was ready is ready again, and what an event reads is in sight.
use Rattle.std.proofs.Common.{◌≡◌, ◌⊎◌, ◌≤◌, ◌+◌, ◌/◌, ℕ, true, List, length, inl, inr, arith, refl, sym, ◌∙◌, ap, subst}
use Rattle.std.{proofs.lemmas.Bool.{cases_Bool, cases_lt}, specs.Prelude.{Option, Some, None}}
use Rattle.medium.specs.Sent.{sent}
use Rattle.journal.{specs.{Places.Shape, Standing.HasShape}, proofs.SectorNumbers.IsSuper-one}
use Rattle.spec.specs.declared.{case.Case.{Case, TheVariants.{C5, C6}}, wrapper.Cbw.Cbw, event.{Event.Event, Answer.Answer}}
use Rattle.bot_machine.{proofs.Wrappers.one_wrapper, specs.{Device.Device, Disk.{IsStep, IsRearmed}, Opening.IsOpened, Reading.ReadsHome}}
use Rattle.bot_machine.specs.Reading.{ReadsAt, sectors_in, sectors_for}
use Rattle.window.specs.{Window.{Window, state_of, is_in_sight, ComesAfter, IsServed}, Looks.{near_in_sight, shown_in_sight, none_refused}}
use Rattle.window.specs.{Looks.none_kept_out, Sight.AreMissing, declared.call.DeviceCall.DeviceCall}
use Rattle.scsi_unit.specs.{Reading.ReadsBack, declared.reading.HomeSectors.HomeSectors}
use Rattle.device_file.specs.{Asked.Told, declared.fault.FileFault.FileFault}
use Rattle.usbdisk.specs.live.Ready.{room_of, RefusesNone, KeepsAll, IsReadyToStart, HasRoomToStart, layout_on, IsReady, SeesHome}
use Rattle.usbdisk.specs.live.Missing.{DiskOn}
use Rattle.usbdisk.specs.live.Missing.{medium_of, window_of, Wants, WantsNone}
use Rattle.usbdisk.specs.live.Playing.{SeesRead, Prepares, PlaysReady, Plays, MissesNothing}
use Rattle.usbdisk.specs.{live.FileWindows.{Carries, is_well}, live.Starting.Starts, declared.live.file.FileWindow.FileWindow}
use Rattle.usbdisk.proofs.Rooms.{enough}
use Rattle.window.specs.Story as story
use Rattle.spec.specs.declared.event.Event.TheVariants as event

well_none : (why : Option FileFault) → is_well why ≡ true → why ≡ None
well_none None good = refl
well_none (Some fault) good = cc

-- what a disk keeps of being ready while calls wait
record IsFit {D : Type 0} (disk : DiskOn D) : Type 0 where
  log : (layout_on disk).home ≤ (window_of disk).near
  room : room_of (layout_on disk).format (layout_on disk).slots ≤ (window_of disk).room
  span : 240 ≤ (window_of disk).span

-- the room of a start is that of the image
room_by : (size room : ℕ) (content : ℕ → List ℕ) (layout : Shape) → HasRoomToStart size content room → HasShape size layout content
    → room_of layout.format layout.slots ≤ room
room_by size room content layout (inl (shape, has, enough_room)) is =
    subst (λ (s : Shape). room_of s.format s.slots ≤ room) (IsSuper-one shape layout (content 0) has.super is.super) enough_room
room_by size room content layout (inr (none, _)) is = absurd (none layout is)

-- a sector that is read in one case alone
in_case : (case : Case) (wanted : Option HomeSectors) (home : HomeSectors) → sectors_in case wanted ≡ Some home → wanted ≡ Some home
in_case C5 wanted home is = is
in_case C6 wanted home is = is
in_case _ wanted home is = absurd (cc is)

-- a window has no more sectors than the bytes of the device make
size_most : (w : Window) → (state_of w).size ≤ length w.seen.told.opening / 512
size_most w = elim (cases_Bool (story.are_whole (story.given w.seen.told.asked))) [
  | inl whole ↦ rw whole (omega arith)
  | inr not ↦ rw not (omega arith)
]

module _ {D : Type 0} where
  fit_started : (first : Window) (started : DiskOn D) (device : Device) → IsReadyToStart first
      → IsOpened (state_of first) (state_of (window_of started)) device started → ComesAfter first (window_of started) → IsFit started
  fit_started first started device ready opened follows =
      let stood = opened.store.stood in
      let has : HasShape (state_of first).size (layout_on started) (state_of first).content =
      record { super = stood.keeps.super; fits = stood.fits } in record {
        log = rw follows.near_stays (ready.log.log (layout_on started) has);
        room = rw follows.room_stays (room_by (state_of first).size first.room (state_of first).content (layout_on started) ready.room has);
        span = rw follows.span_stays ready.span;
      }

  fit_played : (old played : DiskOn D) → IsReady old → ComesAfter (window_of old) (window_of played)
      → layout_on played ≡ layout_on old → IsFit played
  fit_played old played ready follows layout = record {
    log = rw (layout, follows.near_stays) ready.log;
    room = rw (layout, follows.room_stays) ready.room;
    span = rw follows.span_stays ready.span;
  }

  ready_carried : (told : D → Told) {at_once : D → List DeviceCall → D → Type 0} (played new : DiskOn D) → IsFit played
      → Carries told at_once (medium_of played) (medium_of new) → IsRearmed played new → (medium_of new).fault ≡ None → IsReady new
  ready_carried told played new fit carries others well =
      let is = carries.carried.lets_go.is in
      let layout = ap (λ (d : DiskOn D). layout_on d) others in
      record { empty = carries.all well; log = rw (layout, is) fit.log; room = rw (layout, is) fit.room; span = rw is fit.span }

  -- a disk that started, and whose file carried out all
  pub ready_started : {told : D → Told} {at_once : D → List DeviceCall → D → Type 0} {most : ℕ} {medium : FileWindow D} {new : DiskOn D}
      → Starts told at_once most medium new → IsReadyToStart medium.window → (medium_of new).fault ≡ None → IsReady new
  ready_started {told} {medium} {new} s ready well =
      ready_carried told s.started new (fit_started medium.window s.started _ ready s.opens s.follows.follows) s.carried s.others well

  -- so behind an event
  pub ready_again : (told : D → Told) {at_once : D → List DeviceCall → D → Type 0} (old played new : DiskOn D)
      → ComesAfter (window_of old) (window_of played) → layout_on played ≡ layout_on old
      → Carries told at_once (medium_of played) (medium_of new) → IsRearmed played new
      → IsReady old → (medium_of new).fault ≡ None → IsReady new
  ready_again told old played new follows layout carries others ready well =
      ready_carried told played new (fit_played old played ready follows layout) carries others well

  -- ---- an event

  few : (old played : DiskOn D) (event : Event) (answer : Answer)
      → IsStep (state_of (window_of old)) (state_of (window_of played)) old event answer played → IsReady old
      → length (window_of old).outbox + sent (state_of (window_of played)) ≤ sent (state_of (window_of old)) + (window_of old).room
  few old played event answer step ready =
      omega (arith, step.few.sent, enough (layout_on old).format (layout_on old).slots, ready.room, ap (λ l. length l) ready.empty)

  named_in_sight : (old : DiskOn D) (event : Event) → IsReady old → SeesHome old event → (s : ℕ)
      → ReadsBack old.unit s ⊎ ReadsAt old event s → is_in_sight (window_of old) s ≡ true
  named_in_sight old event ready home s (inl low) = near_in_sight (window_of old) s (omega (arith, low.1, ready.log))
  named_in_sight old (event.Out packet) ready home s (inr at) = home at.0 at.1 s at.2.0 at.2.1
  named_in_sight old _ ready home s (inr at) = absurd at

  pub event_kept : (old played : DiskOn D) (event : Event) (answer : Answer)
      → IsStep (state_of (window_of old)) (state_of (window_of played)) old event answer played
      → ComesAfter (window_of old) (window_of played) → IsReady old → KeepsAll (window_of old) (window_of played)
  event_kept old played event answer step follows ready = none_kept_out (window_of old) (window_of played) follows
      (few old played event answer step ready)

  pub event_served : (old played : DiskOn D) (event : Event) (answer : Answer)
      → IsStep (state_of (window_of old)) (state_of (window_of played)) old event answer played
      → IsServed (window_of old) (window_of played) → IsReady old → SeesHome old event
      → RefusesNone (window_of old) (window_of played)
  event_served old played event answer step served ready home =
      none_refused (λ s. ReadsBack old.unit s ⊎ ReadsAt old event s) (window_of old) (window_of played) served
      (named_in_sight old event ready home) step.looks (few old played event answer step ready)

  -- ---- sectors are shown before a packet

  -- a packet has the same blocks read, whatever lies in memory
  same_home : (old new : DiskOn D) → IsRearmed old new → (packet : List ℕ) (home : HomeSectors) → ReadsHome new packet home
      → ReadsHome old packet home
  same_home old new others packet home reads =
      let back = subst (λ (d : DiskOn D). ReadsHome d packet home) others reads in
      let w = back.wrapper in record {
        unhalted = back.unhalted;
        expected = back.expected;
        wrapper = record { command = w.command; spelled = w.spelled; case = w.case; is_case = w.is_case; reads = w.reads };
      }

  -- and no others
  one_home : (disk : DiskOn D) (packet : List ℕ) (a b : HomeSectors) → ReadsHome disk packet a → ReadsHome disk packet b → a ≡ b
  one_home disk packet a b first second =
      let f = first.wrapper in
      let s = second.wrapper in
      let same = one_wrapper packet f.command s.command f.spelled s.spelled in
      let one : Some a ≡ Some b = sym (in_case f.case (sectors_for disk.unit f.command.block.items) a f.reads)
      ∙ ap (λ (c : Cbw). sectors_for disk.unit c.block.items) same
      ∙ in_case s.case (sectors_for disk.unit s.command.block.items) b s.reads in
      cc

  module _ (told : D → Told) (at_once : D → List DeviceCall → D → Type 0) (holds : D → ℕ → List ℕ → Type 0)
      (refuses : D → ℕ → ℕ → Type 0) where
    taken_if : (old new : DiskOn D) (home : HomeSectors) (first count : ℕ) → IsReady old
        → AreMissing (window_of old) home.first home.count first count
        → (sees : SeesRead told at_once holds refuses old first count new) → sees.taken ≡ true
    taken_if old new home first count ready missing sees = sees.shown.shown.fits.1 (
      omega (arith, sees.whole),
      omega (arith, sees.whole, missing.few, ready.span),
      omega (arith, missing.begin),
      omega (arith, sees.whole, missing.on_device, size_most (window_of old)),
    )

    ready_shown : (old new : DiskOn D) (first count : ℕ) → SeesRead told at_once holds refuses old first count new → IsReady old
        → IsReady new
    ready_shown old new first count sees ready =
        let is = sees.shown.shown.others in
        let layout = ap (λ (d : DiskOn D). layout_on d) sees.others in
        record { empty = rw is ready.empty; log = rw (layout, is) ready.log; room = rw (layout, is) ready.room; span = rw is ready.span }

    -- all that the packet has read is in sight then
    shown_sees : (old new : DiskOn D) (packet : List ℕ) (first count : ℕ) → IsReady old → Wants old packet first count
        → SeesRead told at_once holds refuses old first count new → WantsNone new packet
    shown_sees old new packet first count ready (home, reads, missing) sees = λ other others s low high.
        let same = one_home old packet home other reads (same_home old new sees.others packet other others) in
        let there = sees.shown.shown.there (taken_if old new home first count ready missing sees) in
        let near = ap (λ (w : Window). w.near) sees.shown.shown.others in
        let begins = ap (λ (h : HomeSectors). h.first) same in
        let many = ap (λ (h : HomeSectors). h.count) same in
        elim (cases_lt s (window_of new).near) [
          | inl below ↦ near_in_sight (window_of new) s below
          | inr behind ↦ shown_in_sight (window_of new) s
              (omega (arith, there.0, missing.begin, near, behind, low, begins))
              (omega (arith, there.0, there.1, sees.whole, missing.end, high, begins, many))
        ]

    ready_prepared : (old : DiskOn D) (event : Event) (new : DiskOn D) → Prepares told at_once holds refuses old event new
        → IsReady old → IsReady new
    ready_prepared old (event.Out packet) new (inl (none, same)) ready = rw same ready
    ready_prepared old (event.Out packet) new (inr (first, count, wants, inl sees)) ready = ready_shown old new first count sees ready
    ready_prepared old (event.Out packet) new (inr (first, count, wants, inr misses)) ready = rw misses.1 ready
    ready_prepared old _ new same ready = rw same ready

    misses_nothing : (old : DiskOn D) (event : Event) (answer : Answer) (ready new : DiskOn D)
        → Prepares told at_once holds refuses old event ready
        → (plays : PlaysReady told at_once holds refuses ready event answer new) → IsReady old
        → MissesNothing told at_once holds refuses old event ready plays.played
    misses_nothing old (event.Out packet) answer ready new (inl (none, same)) plays was =
        record { kept = plays.kept (rw same was); seen = inl (plays.served (rw same was) (rw same none)) }
    misses_nothing old (event.Out packet) answer ready new (inr (first, count, wants, inl sees)) plays was =
        let again = ready_shown old ready first count sees was in
        record { kept = plays.kept again; seen = inl (plays.served again (shown_sees old ready packet.items first count was wants sees)) }
    misses_nothing old (event.Out packet) answer ready new (inr (first, count, wants, inr misses)) plays was =
        record { kept = plays.kept (rw misses.1 was); seen = inr (first, count, wants, misses) }
    misses_nothing old _ answer ready new same plays was =
        record { kept = plays.kept (rw same was); seen = inl (plays.served (rw same was) tt) }

    -- an event is played by a disk that was made ready for it
    pub plays_prepared : (old : DiskOn D) (event : Event) (answer : Answer) (ready new : DiskOn D) (why : Option FileFault)
        → Prepares told at_once holds refuses old event ready → PlaysReady told at_once holds refuses ready event answer new
        → (medium_of new).fault ≡ why → Plays told at_once holds refuses old event answer (is_well why) new
    plays_prepared old event answer ready new why prepares plays fault = record {
      ready = ready;
      prepares = prepares;
      plays = plays;
      is_good = ap is_well fault;
      misses = misses_nothing old event answer ready new prepares plays;
      again = λ was good. plays.again (ready_prepared old event ready prepares was) (fault ∙ well_none why good);
    }
