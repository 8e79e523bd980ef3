-- A machine whose calls a device carries out, one at a time, and the device behind it.
use Rattle.std.specs.Prelude.{◌≡◌, ◌≢◌, ◌⊎◌, ◌≤◌, ℕ, Bool, true, false, List, length, Result, Ok}
use Rattle.std.specs.Prelude.{Err, Option, Some, None}
use Rattle.medium.specs.{Medium.{Image, Holds}, Writes.sector_of, Moments.LeavesOnly}
use Rattle.medium.specs.{Tally.{Tally, none}, Machine.{TellsCall, Driven}}
use Rattle.medium.specs.{declared.medium_call.Call.Call, declared.fault.MediumFault.MediumFault}
use Rattle.window.specs.{Story.{given, are_whole}, OutboxMedium.{sent, DeviceLeaves, ComesAfter}}
use Rattle.window.specs.Window.{Window, state_of, mirror_of, reads, misses, gives}
use Rattle.window.specs.{declared.ask.DeviceAsk.DeviceAsk, declared.done_fault.DoneFault.DoneFault}
use Rattle.image_calls.specs.{declared.asked.Asked.Asked, declared.carried.Carried.Carried}
use Rattle.medium.specs.declared.medium_call.Call.TheVariants as call
use Rattle.medium.specs.declared.fault.MediumFault.TheVariants as kind
use Rattle.window.specs.declared.call.DeviceCall.TheVariants as device
use Rattle.window.specs.declared.ask.DeviceAsk.TheVariants as ask
use Rattle.window.specs.declared.done_fault.DoneFault.TheVariants as fault
use Rattle.image_calls.specs.declared.asked.Asked.TheVariants as asked

-- ---- the device, as a medium to which each call is given when the device is told it

-- it is told this, where a write is of these bytes
abbrev pub told : DeviceAsk → List ℕ → Window → Window
told ask.Nothing bytes n = n
told (ask.Write first count) bytes n =
    gives n (device.Write (record { sector = first; block = bytes }))
told ask.Flush bytes n = gives n device.Flush
told (ask.Read read) bytes n = n

-- the bytes of a write are the first sector of the buffer, and of no other call it changes
abbrev pub IsFilled : DeviceAsk → List ℕ → List ℕ → List ℕ → Type 0
IsFilled ask.Nothing bytes buffer filled = filled ≡ buffer
IsFilled (ask.Write first count) bytes buffer filled =
    Holds 0 bytes (sector_of buffer) (sector_of filled)
IsFilled ask.Flush bytes buffer filled = filled ≡ buffer
IsFilled (ask.Read read) bytes buffer filled = filled ≡ buffer

-- what it was at has ended, good or not: of a write and a flush it says nothing new
abbrev pub ended : Asked → Bool → Window → Window
ended (asked.At (call.Read place)) true n = reads n place
ended (asked.At (call.Read place)) false n = misses n place
ended at ok n = n

-- where what it told is taken
abbrev pub ended_by : Result (Unit {0}) DoneFault → Asked → Bool → Window → Window
ended_by (Ok done) at ok n = ended at ok n
ended_by (Err why) at ok n = n

-- the bytes of a sector that it read are those that it holds
abbrev pub IsHonest : Asked → Bool → List ℕ → Window → Type 0
IsHonest (asked.At (call.Read place)) true bytes n = bytes ≡ (state_of n).content place
IsHonest at ok bytes n = Unit {0}

-- what the device is at then
abbrev pub rests_at : Bool → MediumFault → Asked
rests_at true kind = asked.Nothing
rests_at false kind = asked.Refused kind

-- the kind of the call that it refused
abbrev pub refusal_of : Asked → Option MediumFault
refusal_of asked.Nothing = None
refusal_of (asked.At next) = None
refusal_of (asked.Refused kind) = Some kind

-- how the last call of a machine ended that is not told any more
abbrev pub end_of : MediumFault → Result (Unit {0}) MediumFault
end_of kind.Read = Err kind.Read
end_of kind.Write = Ok tt
end_of kind.Flush = Ok tt

-- what a machine of a medium says of itself: the ghost members of its trait
module _ {S V : Type 0} (fits : S → ℕ → Type 0) (holds : S → List ℕ → Window → V → Type 0)
    (may : V → Image → Type 0) (reads ends : S → ℕ) (cost : S → Tally) (Exact : Type 0)
    (Due : S → Type 0) (After : S → List ℕ → S → Type 0) (Gone : S → S → Type 0) where
  -- this is its next call, and with it go these bytes
  abbrev pub Tells : S → List ℕ → Call → List ℕ → Type 0
  Tells machine had next bytes =
      TellsCall state_of fits holds reads ends cost Exact Due After Gone machine had next bytes

  -- ---- what it and the device have come to

  -- its calls were made on this medium, from that one on, and the last of them ended so
  abbrev pub Runs : S → List ℕ → Window → Result (Unit {0}) MediumFault → S → List ℕ → Window
      → Type 0
  Runs first began m result machine sector n =
      Driven state_of fits holds may reads ends cost Exact first began m result machine sector n

  -- A read is told it when it has ended. A write and a flush are made as soon as the device is told
  -- them: of the medium that the device is then, it has carried out all, or all but the last call.
  abbrev pub Reaches : S → List ℕ → Window → S → List ℕ → Asked → Window → Type 0
  Reaches first began m machine sector asked.Nothing n =
      Runs first began m (Ok tt) machine sector n
  Reaches first began m machine sector (asked.At (call.Read place)) n = (had : List ℕ)
      × Runs first began m (Ok tt) machine had n × Tells machine had (call.Read place) sector
  Reaches first began m machine sector (asked.At (call.Write place)) n =
      Runs first began m (Ok tt) machine sector n
  Reaches first began m machine sector (asked.At call.Flush) n =
      Runs first began m (Ok tt) machine sector n
  Reaches first began m machine sector (asked.Refused kind) n =
      Runs first began m (end_of kind) machine sector n

  -- This machine was begun on that medium, and the device has come to this one.
  pub record IsCarried (first : S) (began : List ℕ) (m : Window) (s : Carried S) (n : Window)
      : Type 0 where
    pub fit : fits first (state_of m).size
    pub reaches : Reaches first began m s.machine s.sector s.asked n
    pub follows : ComesAfter (mirror_of m) (mirror_of n)
    pub opening_stays : n.seen.told.opening ≡ m.seen.told.opening
    pub whole : are_whole (given n.seen.told.asked) ≡ true

  -- so it is of a machine of which the device was asked nothing, on a medium that was given whole
  -- sectors alone
  abbrev pub BeginsCarried : S → Carried S → Type 0
  BeginsCarried machine s = (m : Window) → fits machine (state_of m).size
      → are_whole (given m.seen.told.asked) ≡ true → IsCarried machine s.sector m s m

  -- so it is again, once the device has come on
  abbrev pub StaysCarried : Carried S → Carried S → (Window → Window) → Type 0
  StaysCarried old new on = (first : S) (began : List ℕ) (m n : Window)
      → IsCarried first began m old n → IsCarried first began m new (on n)

  -- so it is once the device has told what it was at, where the bytes that it read are honest
  abbrev pub IsCarriedOn : Carried S → Bool → List ℕ → Result (Unit {0}) DoneFault → Carried S
      → Type 0
  IsCarriedOn old ok bytes result new = (first : S) (began : List ℕ) (m n : Window)
      → IsHonest old.asked ok bytes n → IsCarried first began m old n
      → IsCarried first began m new (ended_by result old.asked ok n)

  -- Wherever in what it was told the device is, which had nothing to carry out when the machine was
  -- begun: what a loss of power leaves of it, a cut of the medium could leave at some moment of the
  -- machine's calls. So it is what the machine may leave.
  abbrev pub LeavesWhatItMay : Carried S → Type 0
  LeavesWhatItMay s = (first : S) (began : List ℕ) (m n : Window) (count : ℕ) (image : Image)
      → IsCarried first began m s n → given m.seen.told.asked ≡ sent (mirror_of m)
      → length (sent (mirror_of m)) ≤ count → DeviceLeaves (mirror_of n) count image
      → (state_of n).left_since (state_of m).calls image
      × ((view : V) → holds first began m view → may view image)

  -- The machine and that medium hold what they are to hold between two calls, and at each moment of
  -- them a cut left what it may.
  abbrev pub HoldsOn : Carried S → Type 0
  HoldsOn s = (first : S) (began : List ℕ) (m n : Window) (view : V) → IsCarried first began m s n
      → holds first began m view
      → LeavesOnly (may view) (state_of m) (state_of n)
      × (had : List ℕ) × holds s.machine had n view

  -- ---- what the device is asked for, and what it tells

  -- this is the next call of the machine, if it has one
  abbrev pub AsksFor : Carried S → DeviceAsk → Carried S → Type 0
  AsksFor old ask.Nothing new = (cost old.machine ≡ none) × (new ≡ old)
  AsksFor old (ask.Write first count) new = (count ≡ 1)
      × (new.asked ≡ asked.At (call.Write first))
      × Tells old.machine old.sector (call.Write first) new.sector
      × After old.machine new.sector new.machine
  AsksFor old ask.Flush new = (new.asked ≡ asked.At call.Flush)
      × Tells old.machine old.sector call.Flush new.sector
      × After old.machine new.sector new.machine
  AsksFor old (ask.Read read) new = (read.count ≡ 1)
      × (new ≡ record old { sector = new.sector; asked = asked.At (call.Read read.first) })
      × Tells old.machine old.sector (call.Read read.first) new.sector

  -- Nothing is, as long as it is at a call, or where it refused one. The bytes of a write lie at
  -- the front of the buffer.
  abbrev pub IsAsked : Asked → Carried S → List ℕ → DeviceAsk → Carried S → List ℕ → Type 0
  IsAsked asked.Nothing old buffer what new filled =
      AsksFor old what new × IsFilled what new.sector buffer filled
  IsAsked (asked.At next) old buffer what new filled =
      (what ≡ ask.Nothing) × (new ≡ old) × (filled ≡ buffer)
  IsAsked (asked.Refused kind) old buffer what new filled =
      (what ≡ ask.Nothing) × (new ≡ old) × (filled ≡ buffer)

  -- of a machine that has no call left nothing but what the device is at changes
  abbrev pub IsIdle : Carried S → Carried S → Type 0
  IsIdle old new = new ≡ record old { sector = new.sector; asked = asked.Nothing }

  -- a read has ended, good or not: the machine goes on, if it has a call left
  abbrev pub EndsRead : Carried S → Bool → List ℕ → Carried S → Type 0
  EndsRead old true bytes new = ((cost old.machine ≡ none) × IsIdle old new)
      ⊎ (After old.machine bytes new.machine × (new.sector ≡ bytes)
      × (new.asked ≡ asked.Nothing))
  EndsRead old false bytes new = ((cost old.machine ≡ none) × IsIdle old new)
      ⊎ (Gone old.machine new.machine × (new.asked ≡ asked.Refused kind.Read))

  -- a good one with bytes that are no sector changes nothing
  abbrev pub HearsRead : Carried S → Bool → List ℕ → Result (Unit {0}) DoneFault → Carried S
      → Type 0
  HearsRead old ok bytes result new =
      ((ok ≡ true) × (length bytes ≢ 512) × (result ≡ Err fault.BadLength) × (new ≡ old))
      ⊎ ((result ≡ Ok tt) × EndsRead old ok bytes new)

  -- a write or a flush has ended: where the device refused it, it is asked for nothing more
  abbrev pub EndsSend : MediumFault → Carried S → Bool → Carried S → Type 0
  EndsSend kind old ok new = new ≡ record old { asked = rests_at ok kind }

  -- what the device was asked for last has ended, good or not
  abbrev pub Hears : Asked → Carried S → Bool → List ℕ → Result (Unit {0}) DoneFault → Carried S
      → Type 0
  Hears asked.Nothing old ok bytes result new =
      (result ≡ Err fault.NothingAsked) × (new ≡ old)
  Hears (asked.At (call.Read place)) old ok bytes result new = HearsRead old ok bytes result new
  Hears (asked.At (call.Write place)) old ok bytes result new =
      (result ≡ Ok tt) × EndsSend kind.Write old ok new
  Hears (asked.At call.Flush) old ok bytes result new =
      (result ≡ Ok tt) × EndsSend kind.Flush old ok new
  Hears (asked.Refused kind) old ok bytes result new =
      (result ≡ Err fault.NothingAsked) × (new ≡ old)

  -- ---- its end

  -- of a device that is at no call, and refused none: a call is left, or none
  abbrev pub EndsWith : Carried S → Option (Result (Unit {0}) MediumFault) → Type 0
  EndsWith s None = Due s.machine
  EndsWith s (Some (Ok done)) = cost s.machine ≡ none
  EndsWith s (Some (Err kind)) = ⊥

  abbrev pub EndsAs : Asked → Carried S → Option (Result (Unit {0}) MediumFault) → Type 0
  EndsAs asked.Nothing s result = EndsWith s result
  EndsAs (asked.At next) s result = result ≡ None
  EndsAs (asked.Refused kind) s result = result ≡ Some (Err kind)
