-- A machine whose calls a device carries out, neighbouring sectors together.
use Rattle.std.specs.Prelude.{◌≡◌, ◌≢◌, ◌⊎◌, ◌≤◌, ◌+◌, ◌-◌, ◌*◌, ◌/◌, ℕ, Bool, true, false, List}
use Rattle.std.specs.Prelude.{[], ◌∷◌, length, take, min, max, Result, Ok, Err}
use Rattle.medium.specs.{Medium.Image, Tally.{Tally, none}, Writes.sector_of, Inlet.AreHeld}
use Rattle.window.specs.{OutboxMedium.ComesAfter, Story.{given, are_whole}}
use Rattle.window.specs.{declared.call.DeviceCall.DeviceCall, Window.{Window, state_of, mirror_of}}
use Rattle.window.specs.{declared.ask.DeviceAsk.DeviceAsk, declared.ask.DeviceRead.DeviceRead}
use Rattle.window.specs.{declared.done_fault.DoneFault.DoneFault}
use Rattle.window.specs.{Runs.writes_of}
use Rattle.image_calls.specs.Carried.{IsCarried, AsksFor, Hears, EndsRead, ended_by}
use Rattle.image_calls.specs.{Runs.{HoldsOf, HoldsRead}, Stepping.{TellsNone, IsAnswered, WritesTo}}
use Rattle.image_calls.specs.{declared.asked.Asked.Asked, declared.carried.Carried.Carried}
use Rattle.image_calls.specs.{declared.running.Running.Running}
use Rattle.medium.specs.declared.medium_call.Call.TheVariants as call
use Rattle.window.specs.declared.call.DeviceCall.TheVariants as device
use Rattle.window.specs.declared.ask.DeviceAsk.TheVariants as ask
use Rattle.window.specs.declared.done_fault.DoneFault.TheVariants as fault
use Rattle.image_calls.specs.declared.asked.Asked.TheVariants as asked

-- ---- what the device is handed

-- it is to write or to flush this, where these bytes lie at the front of the buffer
abbrev pub handed : DeviceAsk → List ℕ → List DeviceCall
handed ask.Nothing bytes = []
handed (ask.Write first count) bytes = writes_of count first bytes
handed ask.Flush bytes = device.Flush ∷ []
handed (ask.Read read) bytes = []

-- Calls of a medium alone come between the two, and these are what they gave to the device.
pub record HandedOut (calls : List DeviceCall) (n k : Window) : Type 0 where
  pub follows : ComesAfter (mirror_of n) (mirror_of k)
  pub gave : given follows.since ≡ calls
  pub opening_stays : k.seen.told.opening ≡ n.seen.told.opening

-- the bytes of the sectors that it read are those that it holds
abbrev pub AreHonest : Asked → ℕ → Bool → List ℕ → Window → Type 0
AreHonest (asked.At (call.Read place)) count true bytes n =
    AreHeld (state_of n).content place count bytes
AreHonest at count ok bytes n = Unit {0}

-- it is at no call, or at a write, which says nothing new
abbrev pub IsAtRest : Asked → Type 0
IsAtRest asked.Nothing = Unit {0}
IsAtRest (asked.At (call.Read place)) = ⊥
IsAtRest (asked.At (call.Write place)) = Unit {0}
IsAtRest (asked.At call.Flush) = ⊥
IsAtRest (asked.Refused kind) = ⊥

-- it is at a read
abbrev pub IsReading : Asked → Type 0
IsReading asked.Nothing = ⊥
IsReading (asked.At (call.Read place)) = Unit {0}
IsReading (asked.At (call.Write place)) = ⊥
IsReading (asked.At call.Flush) = ⊥
IsReading (asked.Refused kind) = ⊥

-- so many sectors lie in these bytes
abbrev pub HasSectors : ℕ → List ℕ → Type 0
HasSectors count bytes = 512 * count ≤ length bytes

-- there is room for a sector, and the device is at no call
pub record MayAsk {S : Type 0} (s : Running S) (buffer : List ℕ) : Type 0 where
  pub room : 512 ≤ length buffer
  pub rests : s.carried.asked ≡ asked.Nothing

-- there is room for so many, and the device is at a write from this sector on
pub record MayGather {S : Type 0} (first count : ℕ) (s : Running S) (buffer : List ℕ)
    : Type 0 where
  pub room : 512 * count ≤ length buffer
  pub writes : s.carried.asked ≡ asked.At (call.Write first)

-- how many sectors are read from this one on: as many as there is room for, 64 at most, and none
-- from `until` on but the first
abbrev pub count_from : ℕ → ℕ → ℕ → ℕ
count_from first until room = max (min (until - first) (min room 64)) 1

-- so many sectors are to be read from this one on
pub record AsksOneRead {S : Type 0} (first until room : ℕ) (read : DeviceRead)
    (old new : Running S) : Type 0 where
  pub first_is : read.first ≡ first
  pub count_is : read.count ≡ count_from first until room
  pub reading_is : new.reading ≡ read.count
  pub carried_stays : new.carried ≡ old.carried
  pub run_stays : new.run ≡ old.run

-- how many were gathered, where one more was or not
abbrev pub gathered : ℕ → Bool → ℕ
gathered count true = count + 1
gathered count false = count

module _ {S V : Type 0} (fits : S → ℕ → Type 0) (holds : S → List ℕ → Window → V → Type 0)
    (may : V → Image → Type 0) (reads ends : S → ℕ) (cost : S → Tally) (Exact : Type 0)
    (Due : S → Type 0) (After : S → List ℕ → S → Type 0) (Gone : S → S → Type 0) where
  -- This machine was begun on that medium, and the device has come to this one. What is held of it
  -- is what it holds.
  pub record IsRunning (first : S) (began : List ℕ) (m : Window) (s : Running S) (n : Window)
      : Type 0 where
    pub carried : IsCarried fits holds may reads ends cost Exact Due After Gone first began m
        s.carried n
    pub held : HoldsOf s.run (state_of n).content

  -- of a machine of which the device was asked nothing
  pub record BeginsRunning (machine : S) (s : Running S) : Type 0 where
    pub machine_is : s.carried.machine ≡ machine
    pub asked_is : s.carried.asked ≡ asked.Nothing
    pub begins : (m : Window) → fits machine (state_of m).size
        → are_whole (given m.seen.told.asked) ≡ true
        → IsRunning machine s.carried.sector m s m

  -- The device came on by calls of a medium that handed it these, in order.
  abbrev pub Hands : List DeviceCall → Running S → Running S → Type 0
  Hands calls old new = (first : S) (began : List ℕ) (m n : Window)
      → IsRunning first began m old n
      → (k : Window) × IsRunning first began m new k × HandedOut calls n k

  -- it is told this
  abbrev pub HandsFor : Running S → DeviceAsk → Running S → List ℕ → Type 0
  HandsFor old what new filled = Hands (handed what filled) old new

  -- so many writes were gathered since that medium
  abbrev pub HasGiven : ℕ → ℕ → List ℕ → S → List ℕ → Window → Window → Running S → Type 0
  HasGiven sector count bytes first began m n s = (k : Window) × IsRunning first began m s k
      × HandedOut (writes_of count sector bytes) n k

  abbrev pub GathersOn : ℕ → ℕ → List ℕ → Running S → ℕ → List ℕ → Running S → Type 0
  GathersOn sector at room old count filled new = (first : S) (began : List ℕ) (m n : Window)
      → HasGiven sector at room first began m n old
      → HasGiven sector count filled first began m n new

  -- so it is once the device has told what it was at, where the bytes that it read are honest
  abbrev pub IsRunOn : Running S → Bool → List ℕ → Result (Unit {0}) DoneFault → Running S
      → Type 0
  IsRunOn old ok bytes result new = (first : S) (began : List ℕ) (m n : Window)
      → AreHonest old.carried.asked old.reading ok bytes n → IsRunning first began m old n
      → IsRunning first began m new (ended_by result old.carried.asked ok n)

  -- ---- what the device is asked for

  -- the next call is no read of a sector that is held
  abbrev pub HasAnswered : Running S → Running S → Type 0
  HasAnswered old new = (new.run ≡ old.run) × (new.reading ≡ old.reading)
      × (new.carried.asked ≡ old.carried.asked)
      × TellsNone fits holds may reads ends cost Exact Due After Gone (IsAnswered new.run)
      new.carried

  -- and no write to this sector
  abbrev pub EndsRun : ℕ → Running S → Type 0
  EndsRun sector s =
      TellsNone fits holds may reads ends cost Exact Due After Gone (IsAnswered s.run) s.carried
      × TellsNone fits holds may reads ends cost Exact Due After Gone (WritesTo sector) s.carried

  -- one more write lies behind so many, or none is to the sector behind theirs
  abbrev pub PutsNext : ℕ → ℕ → List ℕ → List ℕ → Bool → Running S → Running S → Type 0
  PutsNext sector count room filled true old new = (new.carried.asked ≡ old.carried.asked)
      × ((i : ℕ) → i ≢ count → sector_of filled i ≡ sector_of room i)
  PutsNext sector count room filled false old new = (new.carried.asked ≡ old.carried.asked)
      × (filled ≡ room) × EndsRun (sector + count) new

  -- As many writes lie one behind the other as come in a row and have room.
  pub record HasGathered (sector count : ℕ) (room : List ℕ) (new : Running S) (filled : List ℕ)
      : Type 0 where
    pub some : 1 ≤ count
    pub most : count ≤ length room / 512
    pub asked_is : new.carried.asked ≡ asked.At (call.Write sector)
    pub behind : (i : ℕ) → count ≤ i → sector_of filled i ≡ sector_of room i
    pub ends_there : (count ≡ length room / 512) ⊎ EndsRun (sector + count) new

  -- This is the next call of the machine, if it has one: of a write, and those that follow it on
  -- the device, as many as have room, the bytes lie at the front of the buffer.
  abbrev pub AsksNext : ℕ → Running S → List ℕ → DeviceAsk → Running S → List ℕ → Type 0
  AsksNext until old room ask.Nothing new filled =
      (cost old.carried.machine ≡ none) × (new.carried ≡ old.carried) × (filled ≡ room)
  AsksNext until old room (ask.Write first count) new filled =
      ((one : Carried S) × AsksFor fits holds may reads ends cost Exact Due After Gone old.carried
      (ask.Write first 1) one)
      × HasGathered first count room new filled
  AsksNext until old room ask.Flush new filled =
      AsksFor fits holds may reads ends cost Exact Due After Gone old.carried ask.Flush new.carried
      × (filled ≡ room)
  AsksNext until old room (ask.Read read) new filled =
      ((one : DeviceRead) × (one.first ≡ read.first)
      × AsksFor fits holds may reads ends cost Exact Due After Gone old.carried (ask.Read one)
      new.carried)
      × (read.count ≡ count_from read.first until (length room / 512))
      × (new.reading ≡ read.count) × (filled ≡ room)

  -- Nothing is, as long as it is at a call, or where it refused one.
  abbrev pub RunAsks : ℕ → Asked → Running S → List ℕ → DeviceAsk → Running S → List ℕ → Type 0
  RunAsks until asked.Nothing old room what new filled = AsksNext until old room what new filled
  RunAsks until (asked.At next) old room what new filled =
      (what ≡ ask.Nothing) × (new ≡ old) × (filled ≡ room)
  RunAsks until (asked.Refused kind) old room what new filled =
      (what ≡ ask.Nothing) × (new ≡ old) × (filled ≡ room)

  -- ---- what the device tells

  -- what it was at has ended, and nothing else of it changes
  abbrev pub HearsAlone : Running S → Bool → List ℕ → Result (Unit {0}) DoneFault → Running S
      → Type 0
  HearsAlone old ok bytes result new = (new.run ≡ old.run) × (new.reading ≡ old.reading)
      × Hears fits holds may reads ends cost Exact Due After Gone old.carried.asked old.carried ok
      bytes result new.carried

  -- A good read of these sectors has ended: they are held, and the machine is told the first. With
  -- bytes that are not as many as those of the sectors it changes nothing.
  abbrev pub HearsRunRead : ℕ → Running S → Bool → List ℕ → Result (Unit {0}) DoneFault
      → Running S → Type 0
  HearsRunRead first old true bytes result new = ((length bytes ≢ 512 * old.reading)
      × (result ≡ Err fault.BadLength) × (new ≡ old))
      ⊎ ((length bytes ≡ 512 * old.reading) × (result ≡ Ok tt)
      × EndsRead fits holds may reads ends cost Exact Due After Gone old.carried true
      (take 512 bytes) new.carried
      × HoldsRead first bytes old.run new.run × (new.reading ≡ old.reading))
  HearsRunRead first old false bytes result new = HearsAlone old false bytes result new

  -- what the device was asked for last has ended, good or not
  abbrev pub RunHears : Asked → Running S → Bool → List ℕ → Result (Unit {0}) DoneFault
      → Running S → Type 0
  RunHears asked.Nothing old ok bytes result new = HearsAlone old ok bytes result new
  RunHears (asked.At (call.Read place)) old ok bytes result new =
      HearsRunRead place old ok bytes result new
  RunHears (asked.At (call.Write place)) old ok bytes result new =
      HearsAlone old ok bytes result new
  RunHears (asked.At call.Flush) old ok bytes result new = HearsAlone old ok bytes result new
  RunHears (asked.Refused kind) old ok bytes result new = HearsAlone old ok bytes result new

  -- where the device is at no call, the next call of the machine is no read of what is held
  abbrev pub Settles : Asked → Running S → Running S → Type 0
  Settles asked.Nothing old new = HasAnswered old new
  Settles (asked.At next) old new = new ≡ old
  Settles (asked.Refused kind) old new = new ≡ old

  -- and the device is handed nothing
  abbrev pub SettlesBy : Running S → Running S → Type 0
  SettlesBy old new = Settles old.carried.asked old new × Hands [] old new

  -- what was told is taken, and then the reads of what is held are made
  abbrev pub RunEnds : Running S → Bool → List ℕ → Result (Unit {0}) DoneFault → Running S
      → Type 0
  RunEnds old ok bytes result new = (mid : Running S)
      × RunHears old.carried.asked old ok bytes result mid × IfTaken result mid new
    where
      IfTaken : Result (Unit {0}) DoneFault → Running S → Running S → Type 0
      IfTaken (Ok done) mid new = Settles mid.carried.asked mid new
      IfTaken (Err why) mid new = new ≡ mid

  -- So the device has come on, where the bytes that it read are honest. It is handed nothing.
  abbrev pub RunsOn : Running S → Bool → List ℕ → Result (Unit {0}) DoneFault → Running S
      → Type 0
  RunsOn old ok bytes result new = (first : S) (began : List ℕ) (m n : Window)
      → AreHonest old.carried.asked old.reading ok bytes n → IsRunning first began m old n
      → (k : Window) × IsRunning first began m new k
      × HandedOut [] (ended_by result old.carried.asked ok n) k
