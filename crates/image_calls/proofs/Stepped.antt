-- A machine whose calls a device carries out in runs is carried on, step by step.
use Rattle.std.proofs.Common.{◌≡◌, ◌+◌, ◌-◌, ◌*◌, ◌/◌, ◌<◌, ◌≤◌, ℕ, Bool, true, false, List, [], ◌∷◌, length, inl, inr, refl, sym, ◌∙◌, ap}
use Rattle.std.proofs.Common.{subst, arith, Ok, Err, Result, add-one, add-zero, length-take, take}
use Rattle.medium.specs.{Medium.{Image, Holds}, Moments.EachCut, Tally.{Tally, of_all}, Machine.GoesOn, Writes.sector_of}
use Rattle.medium.specs.{declared.medium_call.Call.Call, Inlet.AreHeld}
use Rattle.medium.proofs.Driving.{driven_call, fewer_left}
use Rattle.window.specs.{Story.{given, are_whole}, declared.call.DeviceCall.DeviceCall, Window.{Window, state_of, mirror_of, reads, gives}}
use Rattle.window.specs.{declared.done_fault.DoneFault.DoneFault, declared.ask.DeviceAsk.DeviceAsk}
use Rattle.window.proofs.OutboxCalls.{given_none, given_some, whole_more}
use Rattle.image_calls.specs.Carried.{IsCarried, Tells, Reaches, Runs, StaysCarried, told, HearsRead, EndsRead, ended_by, IsHonest}
use Rattle.image_calls.specs.{Carried.{IsCarriedOn, Hears, IsAsked}, Runs.{HoldsOf, HoldsRead, LetsGo, IsHeld, held_at}}
use Rattle.image_calls.specs.Running.{IsRunning, IsAtRest, Hands, GathersOn, HasGiven, HandedOut, HasGathered, RunAsks, Settles, AsksNext}
use Rattle.image_calls.specs.{Running.IsRunOn, Stepping.{Answers, Puts, TellsNone, IsAnswered, WritesTo}, declared.asked.Asked.Asked}
use Rattle.image_calls.specs.{declared.carried.Carried.Carried, declared.run.Run.Run, declared.running.Running.Running}
use Rattle.window.specs.{Runs.writes_of}
use Rattle.image_calls.proofs.Carrying.{asked_more, gave_more, whole_write}
use Rattle.image_calls.proofs.Handing.{handed_none, handed_read, handed_more, handed_on, handed_through, writes_more, held_read}
use Rattle.image_calls.proofs.{Handing.{held_written, held_flushed, held_anew}, Performing.{read_performed, write_performed}}
use Rattle.medium.specs.declared.fault.MediumFault.TheVariants as kind
use Rattle.medium.specs.declared.medium_call.Call.TheVariants as call
use Rattle.window.specs.declared.call.DeviceCall.TheVariants as device
use Rattle.window.proofs.OutboxCalls as mirror
use Rattle.window.specs.declared.ask.DeviceAsk.TheVariants as ask
use Rattle.image_calls.specs.declared.asked.Asked.TheVariants as asked

module _ {S V : Type 0} (fits : S → ℕ → Type 0) (holds : S → List ℕ → Window → V → Type 0) (may : V → Image → Type 0)
    (reads_to ends : S → ℕ) (cost : S → Tally) (Exact : Type 0) (Due : S → Type 0) (After : S → List ℕ → S → Type 0)
    (Gone : S → S → Type 0)
    (leaves : (s : S) (had : List ℕ) (m : Window) (view : V) → holds s had m view → EachCut (may view) (state_of m))
    (goes : (a b : S) (bytes : List ℕ) → Due a → After a bytes b → GoesOn fits reads_to ends a b) where
  abbrev Is : S → List ℕ → Window → Carried S → Window → Type 0
  Is first began m s n = IsCarried fits holds may reads_to ends cost Exact Due After Gone first began m s n

  abbrev InRun : S → List ℕ → Window → Running S → Window → Type 0
  InRun first began m s n = IsRunning fits holds may reads_to ends cost Exact Due After Gone first began m s n

  abbrev Next : S → List ℕ → Call → List ℕ → Type 0
  Next machine had next bytes = Tells fits holds may reads_to ends cost Exact Due After Gone machine had next bytes

  abbrev Hand : List DeviceCall → Running S → Running S → Type 0
  Hand calls old new = Hands fits holds may reads_to ends cost Exact Due After Gone calls old new

  module _ (first : S) (began : List ℕ) (m n : Window) (machine : S) (sector : List ℕ) where
    abbrev At : Asked → Type 0
    At at = Reaches fits holds may reads_to ends cost Exact Due After Gone first began m machine sector at n

    abbrev Run_so_far : Type 0
    Run_so_far = Runs fits holds may reads_to ends cost Exact Due After Gone first began m (Ok tt) machine sector n

    -- of a device at rest all that it was told is made
    so_far : (at : Asked) → IsAtRest at → At at → Run_so_far
    so_far asked.Nothing rests run = run
    so_far (asked.At (call.Read place)) rests run = absurd rests
    so_far (asked.At (call.Write place)) rests run = run
    so_far (asked.At call.Flush) rests run = absurd rests
    so_far (asked.Refused kind) rests run = absurd rests

    rests_again : (at : Asked) → IsAtRest at → Run_so_far → At at
    rests_again asked.Nothing rests run = run
    rests_again (asked.At (call.Read place)) rests run = absurd rests
    rests_again (asked.At (call.Write place)) rests run = run
    rests_again (asked.At call.Flush) rests run = absurd rests
    rests_again (asked.Refused kind) rests run = absurd rests

  module _ (first : S) (began : List ℕ) (m n : Window) (s : Carried S) (is : Is first began m s n) (rests : IsAtRest s.asked) where
    -- a read is answered by what is held
    read_answered : (place : ℕ) (bytes got : List ℕ) (next : S) → got ≡ (state_of n).content place
        → Next s.machine s.sector (call.Read place) bytes → After s.machine got next
        → Is first began m (record { machine = next; sector = got; asked = s.asked }) (reads n place)
    read_answered place bytes got next honest tells after = record {
      fit = is.fit;
      reaches = rests_again first began m (reads n place) next got s.asked rests
          (driven_call leaves is.fit (so_far first began m n s.machine s.sector s.asked rests is.reaches) tells
          (read_performed n place bytes got honest) refl next after goes);
      follows = asked_more (mirror_of m) (mirror_of n) (mirror_of (reads n place)) is.follows refl refl refl;
      opening_stays = is.opening_stays;
      whole = ap are_whole (given_none n.seen.told.asked) ∙ is.whole;
    }

    -- a write is made
    write_put : (place : ℕ) (bytes : List ℕ) (next : S) → length bytes ≡ 512
        → Next s.machine s.sector (call.Write place) bytes → After s.machine bytes next
        → Is first began m (record { machine = next; sector = bytes; asked = s.asked })
        (gives n (device.Write (record { sector = place; block = bytes })))
    write_put place bytes next long tells after =
        let one = device.Write (record { sector = place; block = bytes }) in
        let whole = whole_write place bytes long in record {
          fit = is.fit;
          reaches = rests_again first began m (gives n one) next bytes s.asked rests
              (driven_call leaves is.fit (so_far first began m n s.machine s.sector s.asked rests is.reaches) tells
              (write_performed n place bytes is.whole whole) refl next after goes);
          follows = gave_more (mirror_of m) (mirror_of n) one is.follows;
          opening_stays = is.opening_stays;
          whole = ap are_whole (given_some n.seen.told.asked one) ∙ whole_more (given n.seen.told.asked) one is.whole whole;
        }

  -- a sector that is held is what the medium has there
  held_there : (run : Run) (image : Image) (place : ℕ) → HoldsOf run image → IsHeld run place → held_at run place ≡ image place
  held_there run image place held there =
      held (place - run.first) (omega (arith, there.0, there.1))
      ∙ ap image (omega (arith, there.0))

  pub answers_on : (start old new : Running S) → new.run ≡ old.run → IsAtRest old.carried.asked
      → Answers fits holds may reads_to ends cost Exact Due After Gone old.run old.carried true new.carried
      → Hand [] start old → Hand [] start new
  answers_on start old new same rests (place, bytes, there, tells, after, is_new) hands first began m n is =
      let had = hands first began m n is in
      let k = had.0 in
      let got = held_at old.run place in (
        reads k place,
        record {
          carried = subst (λ (c : Carried S). Is first began m c (reads k place)) (sym is_new)
              (read_answered first began m k old.carried had.1.carried rests place bytes got new.carried.machine
              (held_there old.run (state_of k).content place had.1.held there) tells after);
          held = subst (λ (r : Run). HoldsOf r (state_of (reads k place)).content) (sym same)
              (held_read old.run k place had.1.held);
        },
        handed_read [] n k place had.2,
      )

  -- nothing was handed out yet
  pub hands_none : (s : Running S) → Hand [] s s
  hands_none s first began m n is = (n, is, handed_none n)

  -- reads that were answered change nothing of what was gathered
  pub gathers_through : (sector count : ℕ) (bytes : List ℕ) (old new : Running S) → Hand [] old new
      → GathersOn fits holds may reads_to ends cost Exact Due After Gone sector count bytes old count bytes new
  gathers_through sector count bytes old new hands first began m n given =
      let had = hands first began m given.0 given.1 in
      (had.0, had.1, handed_on (writes_of count sector bytes) n given.0 had.0 given.2 had.2)

  -- one write more is gathered
  pub gathers_more : (sector count : ℕ) (was filled : List ℕ) (old new : Running S) → IsAtRest old.carried.asked
      → Puts fits holds may reads_to ends cost Exact Due After Gone (sector + count) old.run old.carried true new.run new.carried
      → Holds count new.carried.sector (sector_of was) (sector_of filled)
      → GathersOn fits holds may reads_to ends cost Exact Due After Gone sector count was old (count + 1) filled new
  gathers_more sector count was filled old new rests (tells, after, long, is_new, go) stored first began m n given =
      let k = given.0 in
      let bytes = new.carried.sector in
      let one = device.Write (record { sector = sector + count; block = bytes }) in (
        gives k one,
        record {
          carried = subst (λ (c : Carried S). Is first began m c (gives k one)) (sym is_new)
              (write_put first began m k old.carried given.1.carried rests (sector + count) bytes new.carried.machine long tells after);
          held = held_written old.run new.run (sector + count) bytes (state_of k).content (state_of (gives k one)).content given.1.held
              (mirror.written (mirror_of k) (sector + count) bytes) go;
        },
        subst (λ (l : List DeviceCall). HandedOut l n (gives k one))
            (writes_more count sector was filled bytes stored
            ∙ ap (λ (c : ℕ). writes_of c sector filled) (sym (add-one count)))
            (handed_more (writes_of count sector was) n k one given.2),
      )

  -- ---- as the calls say it

  pub fewer_calls : (run : Run) (old new : Carried S)
      → Answers fits holds may reads_to ends cost Exact Due After Gone run old true new
      → of_all (cost new.machine) < of_all (cost old.machine)
  fewer_calls run old new (place, bytes, there, tells, after, is_new) =
      fewer_left kind.Read tells.pays (tells.rests (held_at run place) new.machine after)

  pub asked_same : (run : Run) (old new : Carried S)
      → Answers fits holds may reads_to ends cost Exact Due After Gone run old true new → new.asked ≡ old.asked
  asked_same run old new (place, bytes, there, tells, after, is_new) = ap (λ (c : Carried S). c.asked) is_new

  -- the run ends
  pub run_ends : (sector : ℕ) (run kept : Run) (old new : Carried S)
      → Puts fits holds may reads_to ends cost Exact Due After Gone sector run old false kept new
      → TellsNone fits holds may reads_to ends cost Exact Due After Gone (IsAnswered run) old
      → TellsNone fits holds may reads_to ends cost Exact Due After Gone (IsAnswered kept) new
      × TellsNone fits holds may reads_to ends cost Exact Due After Gone (WritesTo sector) new
  run_ends sector run kept old new (none_to, same, stays) answered = (
    subst (λ (r : Run). TellsNone fits holds may reads_to ends cost Exact Due After Gone (IsAnswered r) new) (sym stays)
        (subst (λ (c : Carried S). TellsNone fits holds may reads_to ends cost Exact Due After Gone (IsAnswered run) c) (sym same)
        answered),
    subst (λ (c : Carried S). TellsNone fits holds may reads_to ends cost Exact Due After Gone (WritesTo sector) c) (sym same) none_to,
  )

  -- the same, where the device is to read other sectors than before
  pub same_run : (first : S) (began : List ℕ) (m n : Window) (s t : Running S) → t.carried ≡ s.carried → t.run ≡ s.run
      → InRun first began m s n → InRun first began m t n
  same_run first began m n s t carried run is = record {
    carried = subst (λ (c : Carried S). Is first began m c n) (sym carried) is.carried;
    held = subst (λ (r : Run). HoldsOf r (state_of n).content) (sym run) is.held;
  }

  pub gathers_still : (sector count : ℕ) (bytes : List ℕ) (old mid new : Running S) → Hand [] old mid → new.carried ≡ mid.carried
      → new.run ≡ mid.run → GathersOn fits holds may reads_to ends cost Exact Due After Gone sector count bytes old count bytes new
  gathers_still sector count bytes old mid new hands carried run first began m n given =
      let had = gathers_through sector count bytes old mid hands first began m n given in
      (had.0, same_run first began m had.0 mid new carried run had.1, had.2)

  pub hands_through : (calls : List DeviceCall) (a b c : Running S) → Hand [] a b → Hand calls b c → Hand calls a c
  hands_through calls a b c f g first began m n is =
      let had = f first began m n is in
      let more = g first began m had.0 had.1 in
      (more.0, more.1, handed_through [] calls n had.0 more.0 had.2 more.2)

  pub hands_same : (s t : Running S) → t.carried ≡ s.carried → t.run ≡ s.run → Hand [] s t
  hands_same s t carried run first began m n is = (n, same_run first began m n s t carried run is, handed_none n)

  -- a flush is handed out
  pub hands_flush : (s t : Running S)
      → StaysCarried fits holds may reads_to ends cost Exact Due After Gone s.carried t.carried (told ask.Flush t.carried.sector)
      → t.run ≡ s.run → Hand (device.Flush ∷ []) s t
  hands_flush s t stays run first began m n is = (
    gives n device.Flush,
    record {
      carried = stays first began m n is.carried;
      held = subst (λ (r : Run). HoldsOf r (state_of (gives n device.Flush)).content) (sym run) (held_flushed s.run n is.held);
    },
    handed_more [] n n device.Flush (handed_none n),
  )

  -- the first write lies at the front
  pub first_write : (sector : ℕ) (room filled : List ℕ) (s t : Running S)
      → StaysCarried fits holds may reads_to ends cost Exact Due After Gone s.carried t.carried
      (told (ask.Write sector 1) t.carried.sector)
      → Holds 0 t.carried.sector (sector_of room) (sector_of filled) → LetsGo sector s.run t.run
      → (first : S) (began : List ℕ) (m n : Window) → InRun first began m s n
      → HasGiven fits holds may reads_to ends cost Exact Due After Gone sector 1 filled first began m n t
  first_write sector room filled s t stays stored go first began m n is =
      let bytes = t.carried.sector in
      let one = device.Write (record { sector = sector; block = bytes }) in (
        gives n one,
        record {
          carried = stays first began m n is.carried;
          held = held_written s.run t.run sector bytes (state_of n).content (state_of (gives n one)).content is.held
              (mirror.written (mirror_of n) sector bytes) go;
        },
        subst (λ (l : List DeviceCall). HandedOut l n (gives n one))
            (ap (λ (at : ℕ). device.Write (record { sector = at; block = bytes }) ∷ []) (sym (add-zero sector))
            ∙ writes_more 0 sector room filled bytes stored)
            (handed_more [] n n one (handed_none n)),
      )

  -- behind the first write as many lie as have room
  pub gathered_in : (sector count : ℕ) (room between filled block : List ℕ) (t : Running S) → length between ≡ length room
      → Holds 0 block (sector_of room) (sector_of between)
      → HasGathered fits holds may reads_to ends cost Exact Due After Gone sector count between t filled
      → HasGathered fits holds may reads_to ends cost Exact Due After Gone sector count room t filled
  gathered_in sector count room between filled block t long stored g = record {
    some = g.some;
    most = omega (arith, g.most, long);
    asked_is = g.asked_is;
    behind = λ i le. g.behind i le ∙ stored.elsewhere i (omega (arith, le, g.some));
    ends_there = elim g.ends_there [
      | inl full ↦ inl (full ∙ ap (λ (k : ℕ). k / 512) long)
      | inr ends ↦ inr ends
    ];
  }

  -- sectors are to be read
  pub hands_read : (s t : Running S) (mid : Carried S)
      → StaysCarried fits holds may reads_to ends cost Exact Due After Gone s.carried mid (λ n. n) → t.carried ≡ mid
      → t.run ≡ s.run → Hand [] s t
  hands_read s t mid stays carried run first began m n is = (
    n,
    record {
      carried = subst (λ (c : Carried S). Is first began m c n) (sym carried) (stays first began m n is.carried);
      held = subst (λ (r : Run). HoldsOf r (state_of n).content) (sym run) is.held;
    },
    handed_none n,
  )

  -- a good read of a sector
  good_read : (old new : Carried S) (bytes : List ℕ) (result : Result (Unit {0}) DoneFault) → length bytes ≡ 512
      → HearsRead fits holds may reads_to ends cost Exact Due After Gone old true bytes result new
      → (result ≡ Ok tt) × EndsRead fits holds may reads_to ends cost Exact Due After Gone old true bytes new
  good_read old new bytes result long (inl short) = absurd (short.1 long)
  good_read old new bytes result long (inr good) = good

  -- where the device was at a read
  read_told : (place : ℕ) (old new : Carried S) (bytes : List ℕ) (result : Result (Unit {0}) DoneFault)
      → old.asked ≡ asked.At (call.Read place)
      → Hears fits holds may reads_to ends cost Exact Due After Gone old.asked old true bytes result new
      → HearsRead fits holds may reads_to ends cost Exact Due After Gone old true bytes result new
  read_told place old new bytes result at heard =
      subst (λ (a : Asked). Hears fits holds may reads_to ends cost Exact Due After Gone a old true bytes result new) at heard

  -- the first sector of a read is told
  pub first_told : (place count : ℕ) (old new : Carried S) (bytes : List ℕ) (result : Result (Unit {0}) DoneFault)
      → old.asked ≡ asked.At (call.Read place) → length bytes ≡ 512 * count → 1 ≤ count
      → Hears fits holds may reads_to ends cost Exact Due After Gone old.asked old true (take 512 bytes) result new
      → (result ≡ Ok tt) × EndsRead fits holds may reads_to ends cost Exact Due After Gone old true (take 512 bytes) new
  first_told place count old new bytes result at long some heard =
      good_read old new (take 512 bytes) result (omega (arith, length-take 512 bytes, long, some))
      (read_told place old new (take 512 bytes) result at heard)

  -- of one that is asked for nothing nothing changes
  pub asked_nothing : (at : Asked) (old new : Carried S) (buffer filled : List ℕ)
      → IsAsked fits holds may reads_to ends cost Exact Due After Gone at old buffer ask.Nothing new filled → new ≡ old
  asked_nothing asked.Nothing old new buffer filled asks = asks.0.1
  asked_nothing (asked.At next) old new buffer filled asks = asks.1
  asked_nothing (asked.Refused kind) old new buffer filled asks = asks.1

  -- what ended leaves what is held
  held_ended : (run : Run) (at : Asked) (ok : Bool) (result : Result (Unit {0}) DoneFault) (n : Window)
      → HoldsOf run (state_of n).content → HoldsOf run (state_of (ended_by result at ok n)).content
  held_ended run at ok (Err why) n held = held
  held_ended run asked.Nothing true (Ok done) n held = held
  held_ended run asked.Nothing false (Ok done) n held = held
  held_ended run (asked.At (call.Read place)) true (Ok done) n held = held_read run n place held
  held_ended run (asked.At (call.Read place)) false (Ok done) n held = held_read run n place held
  held_ended run (asked.At (call.Write place)) true (Ok done) n held = held
  held_ended run (asked.At (call.Write place)) false (Ok done) n held = held
  held_ended run (asked.At call.Flush) true (Ok done) n held = held
  held_ended run (asked.At call.Flush) false (Ok done) n held = held
  held_ended run (asked.Refused kind) true (Ok done) n held = held
  held_ended run (asked.Refused kind) false (Ok done) n held = held

  -- where no bytes are looked at
  pub run_on : (s t : Running S) (ok : Bool) (bytes : List ℕ) (result : Result (Unit {0}) DoneFault)
      → ((n : Window) → IsHonest s.carried.asked ok bytes n) → t.run ≡ s.run
      → IsCarriedOn fits holds may reads_to ends cost Exact Due After Gone s.carried ok bytes result t.carried
      → IsRunOn fits holds may reads_to ends cost Exact Due After Gone s ok bytes result t
  run_on s t ok bytes result none_read run on first began m n honest is = record {
    carried = on first began m n (none_read n) is.carried;
    held = subst (λ (r : Run). HoldsOf r (state_of (ended_by result s.carried.asked ok n)).content) (sym run)
        (held_ended s.run s.carried.asked ok result n is.held);
  }

  -- a call that was refused gave none
  pub none_read : (at : Asked) (bytes : List ℕ) (n : Window) → IsHonest at false bytes n
  none_read asked.Nothing bytes n = tt
  none_read (asked.At (call.Read place)) bytes n = tt
  none_read (asked.At (call.Write place)) bytes n = tt
  none_read (asked.At call.Flush) bytes n = tt
  none_read (asked.Refused kind) bytes n = tt

  -- where they are held from now on
  pub read_on : (s t : Running S) (place : ℕ) (bytes sector : List ℕ) (result : Result (Unit {0}) DoneFault)
      → s.carried.asked ≡ asked.At (call.Read place) → result ≡ Ok tt → sector ≡ sector_of bytes 0
      → length bytes ≡ 512 * s.reading → 1 ≤ s.reading → HoldsRead place bytes s.run t.run
      → IsCarriedOn fits holds may reads_to ends cost Exact Due After Gone s.carried true sector result t.carried
      → IsRunOn fits holds may reads_to ends cost Exact Due After Gone s true bytes result t
  read_on s t place bytes sector result at good front long some read on first began m n honest is =
      let all : AreHeld (state_of n).content place s.reading bytes = rw at at honest in
      let here : sector ≡ (state_of n).content place = front ∙ all 0 some ∙ ap (state_of n).content (add-zero place) in
      let carried = on first began m n (rw at here) is.carried in
      rw good (rw at (record {
        carried = rw good at (rw at at carried);
        held = held_anew s.run t.run place s.reading bytes (state_of (reads n place)).content read long
            (λ i lt. all i lt ∙ sym (mirror.quiet_content (mirror_of n) (place + i)));
      }))

  -- where it is at this
  pub settled : (at real : Asked) (s : Running S) → at ≡ real
      → Settles fits holds may reads_to ends cost Exact Due After Gone real s s
      → Settles fits holds may reads_to ends cost Exact Due After Gone at s s
  settled at real s is same =
      subst (λ (a : Asked). Settles fits holds may reads_to ends cost Exact Due After Gone a s s) (sym is) same

  -- it is at none, and refused none
  pub asks_next : (until : ℕ) (at : Asked) (s new : Running S) (room filled : List ℕ) (what : DeviceAsk) → at ≡ asked.Nothing
      → AsksNext fits holds may reads_to ends cost Exact Due After Gone until s room what new filled
      → RunAsks fits holds may reads_to ends cost Exact Due After Gone until at s room what new filled
  asks_next until at s new room filled what is asks =
      subst (λ (a : Asked). RunAsks fits holds may reads_to ends cost Exact Due After Gone until a s room what new filled) (sym is) asks

  -- it is at a call, or refused one
  pub asks_nothing : (until : ℕ) (at : Asked) (s : Running S) (room : List ℕ) → ¬ (at ≡ asked.Nothing)
      → RunAsks fits holds may reads_to ends cost Exact Due After Gone until at s room ask.Nothing s room
  asks_nothing until asked.Nothing s room not = absurd (not refl)
  asks_nothing until (asked.At next) s room not = (refl, refl, refl)
  asks_nothing until (asked.Refused kind) s room not = (refl, refl, refl)
