-- How a disk over a file goes through events.
use Rattle.std.specs.Prelude.{◌≡◌, ◌⊎◌, ℕ, ◌*◌, ◌/◌, Bool, true, false, List, [], ◌∷◌, length, None}
use Rattle.medium.specs.Inlet.{AreHeld}
use Rattle.window.specs.{Window.CoversDevice, declared.call.DeviceCall.DeviceCall}
use Rattle.logical_blocks.specs.Book.{Book}
use Rattle.spec.specs.declared.event.{Event.Event, Answer.Answer}
use Rattle.bot_machine.specs.Disk.{FitsDisk, IsStep, IsRearmed}
use Rattle.device_file.specs.{Asked.Told, Reads.AreRead}
use Rattle.usbdisk.specs.live.FileWindows.{state_of, is_well, GoesOn, Shows, Carries}
use Rattle.usbdisk.specs.live.Missing.{DiskOn, medium_of, window_of, Wants, WantsNone}
use Rattle.usbdisk.specs.live.Ready.{IsReady, SeesHome, CoversParts, RefusesNone, KeepsAll}
use Rattle.spec.specs.declared.event.Event.TheVariants as event

-- What a file was asked, what its reads gave, and which of them it refused.
module _ {D : Type 0} (told : D → Told) (at_once : D → List DeviceCall → D → Type 0)
    (holds : D → ℕ → List ℕ → Type 0) (refuses : D → ℕ → ℕ → Type 0) where
  -- Of the file count sectors were read, and exactly what it gave was shown to the window. Where
  -- that is what the medium holds, the disk fits what it fitted.
  pub record SeesRead (old : DiskOn D) (first count : ℕ) (new : DiskOn D) : Type 0 where
    pub bytes : List ℕ
    pub whole : length bytes ≡ 512 * count
    pub read : AreRead (holds (medium_of old).file) first bytes
    pub taken : Bool
    pub shown : Shows first bytes taken (medium_of old) (medium_of new)
    pub others : IsRearmed old new
    pub fits : AreHeld (state_of (medium_of old)).content first (length bytes / 512) bytes
        → (book : Book) → FitsDisk (state_of (medium_of old)) old book
        → FitsDisk (state_of (medium_of new)) new book

  -- the file refused to read them, and nothing was shown
  abbrev pub MissesRead : DiskOn D → ℕ → ℕ → DiskOn D → Type 0
  MissesRead old first count new = refuses (medium_of old).file first count × (new ≡ old)

  -- before a packet to Bulk-Out: the sectors that it wants are read and shown, and no others
  abbrev pub PreparesPacket : DiskOn D → List ℕ → DiskOn D → Type 0
  PreparesPacket old packet new = (WantsNone old packet × (new ≡ old))
      ⊎ ((first : ℕ) × (count : ℕ) × Wants old packet first count
      × (SeesRead old first count new ⊎ MissesRead old first count new))

  -- before any other event nothing happens
  abbrev pub Prepares : DiskOn D → Event → DiskOn D → Type 0
  Prepares old (event.Out packet) new = PreparesPacket old packet.items new
  Prepares old other new = new ≡ old

  -- An event is played, in which the file is asked for nothing. Then it is asked for exactly what
  -- waits, in order: it carries that out, or refuses a call, behind which it is asked for nothing.
  pub record PlaysReady (old : DiskOn D) (event : Event) (answer : Answer) (new : DiskOn D)
      : Type 0 where
    pub played : DiskOn D
    pub step : IsStep (state_of (medium_of old)) (state_of (medium_of played)) old event answer
        played
    pub follows : GoesOn (medium_of old) (medium_of played)
    -- wherever among these calls the file is, a cut of it leaves what a cut at some moment could,
    pub covers : CoversDevice (window_of old) (window_of played)
    -- whichever of the writes behind its last synchronising it has carried out
    pub parts : CoversParts (window_of old) (window_of played)
    -- of a disk that is ready no write and no flush is refused,
    pub kept : IsReady old → KeepsAll (window_of old) (window_of played)
    -- and no call at all where the blocks that the event reads are in sight
    pub served : IsReady old → SeesHome old event → RefusesNone (window_of old) (window_of played)
    pub carried : Carries told at_once (medium_of played) (medium_of new)
    pub others : IsRearmed played new
    -- it is ready again once all is carried out
    pub again : IsReady old → (medium_of new).fault ≡ None → IsReady new

  -- the file refused to read the blocks that the event reads
  abbrev pub IsUnread : DiskOn D → Event → DiskOn D → Type 0
  IsUnread old (event.Out packet) new = (first : ℕ) × (count : ℕ)
      × Wants old packet.items first count × MissesRead old first count new
  IsUnread old other new = ⊥

  -- No event misses: no write and no flush of it is refused, and no read where the file gave the
  -- blocks that it reads.
  pub record MissesNothing (old : DiskOn D) (event : Event) (ready played : DiskOn D) : Type 0 where
    pub kept : KeepsAll (window_of ready) (window_of played)
    pub seen : RefusesNone (window_of ready) (window_of played) ⊎ IsUnread old event ready

  -- one event, and whether the file carried out all that waited behind it
  pub record Plays (old : DiskOn D) (event : Event) (answer : Answer) (good : Bool)
      (new : DiskOn D) : Type 0 where
    pub ready : DiskOn D
    pub prepares : Prepares old event ready
    pub plays : PlaysReady ready event answer new
    pub is_good : is_well (medium_of new).fault ≡ good
    -- a disk that was ready misses nothing, and is ready again
    pub misses : IsReady old → MissesNothing old event ready plays.played
    pub again : IsReady old → good ≡ true → IsReady new

  -- Each event is played, and all that it sent was carried out before its answer was given.
  abbrev pub AnswersThrough : DiskOn D → List Event → List Answer → DiskOn D → Type 0
  AnswersThrough old [] [] new = new ≡ old
  AnswersThrough old (event ∷ events) (answer ∷ answers) new =
      (mid : DiskOn D) × Plays old event answer true mid × AnswersThrough mid events answers new
  AnswersThrough old events answers new = ⊥

  -- an event has no answer: the file refused a call that it sent
  abbrev pub IsUnanswered : DiskOn D → Event → DiskOn D → Type 0
  IsUnanswered old event new = (answer : Answer) × Plays old event answer false new
