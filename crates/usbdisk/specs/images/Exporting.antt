-- The blocks of an image are copied to a plain file.
use Rattle.std.specs.Prelude.{◌≡◌, ◌⊎◌, ◌≤◌, ℕ, List, [], ◌∷◌, ◌++◌, length, Option, Some, None}
use Rattle.window.specs.declared.call.DeviceCall.{DeviceCall}
use Rattle.window.specs.declared.call.DeviceCall.TheVariants.{Flush}
use Rattle.window.specs.Window.{Window, state_of, ComesAfter}
use Rattle.journal.specs.declared.super_sector.Super.{Super}
use Rattle.recovery.specs.{Causes.IsDeviceFault, Calls.most_start_sends}
use Rattle.recovery.specs.Recovered.{IsRecoveredFrom, IsRecoveryRefusal}
use Rattle.recovery.specs.declared.recovered.Recovered.{Recovered}
use Rattle.recovery.specs.declared.start_fault.StartFault.{StartFault}
use Rattle.device_file.specs.{Asked.{Told, asked_for}, Reads.AreReadFrom}
use Rattle.device_file.specs.Copied.{some_writes, moved_calls, asked_until, MissesNext}
use Rattle.device_file.specs.{InRuns.IsAskedInRuns, declared.copying.CopyFault.CopyFault}
use Rattle.device_file.specs.declared.opening.FirstSectors.{FirstSectors}
use Rattle.usbdisk.specs.images.Opened.{IsWindowOver, HaveImage}
use Rattle.usbdisk.specs.declared.console.refusal.Refusal.{Refusal}
use Rattle.device_file.specs.declared.copying.CopyFault.TheVariants as stopped
use Rattle.device_file.specs.declared.fault.FileCall.TheVariants as call
use Rattle.usbdisk.specs.declared.console.refusal.Refusal.TheVariants as refused

-- as many writes and flushes as a recovery makes at most; one flush comes before a super is sought
abbrev pub recovery_room : Option Super → ℕ
recovery_room (Some sizes) = most_start_sends sizes.format sizes.slots
recovery_room None = 1

-- the image over these first sectors, with these bytes behind them, was recovered in a window over
-- its file
pub record IsRecoveredIn (first : FirstSectors) (device : List ℕ) (sizes : Super)
    (after : Window) : Type 0 where
  pub window : Window
  pub over : IsWindowOver first device (recovery_room first.sizes) window
  pub answer : Recovered
  pub sizes_are : sizes ≡ answer.sizes
  pub recovered : IsRecoveredFrom (state_of window) (state_of after) answer
  pub follows : ComesAfter window after

-- The image has a fault. Where it has a super, and the file all of its sectors, the fault is that
-- of no call.
pub record HasFaultIn (first : FirstSectors) (device : List ℕ) (refusal : Refusal)
    : Type 0 where
  pub window : Window
  pub over : IsWindowOver first device (recovery_room first.sizes) window
  pub after : Window
  pub fault : StartFault
  pub cause : IsRecoveryRefusal (state_of window) (state_of after) fault
  pub follows : ComesAfter window after
  pub by_image : (sizes : Super) → HaveImage first sizes → ¬ IsDeviceFault fault
  pub refused_is : refusal ≡ refused.Image fault

-- it was not recovered in a window
abbrev pub IsNotRecoveredIn : FirstSectors → List ℕ → Refusal → Type 0
IsNotRecoveredIn first device refusal =
    (refusal ≡ refused.NoMemory) ⊎ HasFaultIn first device refusal

-- What a plain file is asked for: the blocks as they lie at home, but those of zeros; then, of what
-- waits in the window, the writes that go home, in order; and a flush.
abbrev pub exporting : Super → List (List ℕ) → List DeviceCall → List DeviceCall
exporting sizes blocks waiting =
    (some_writes 0 blocks ++ moved_calls sizes.home sizes.blocks waiting) ++ Flush ∷ []

-- all of it, with the blocks as a read of the image gave them
pub record HasBlocks (holds : ℕ → List ℕ → Type 0) (sizes : Super) (waiting : List DeviceCall)
    (old new : Told) : Type 0 where
  pub blocks : List (List ℕ)
  pub count_is : length blocks ≡ sizes.blocks
  pub were_read : AreReadFrom holds sizes.home blocks
  pub told_is : new ≡ asked_for (exporting sizes blocks waiting) old

-- where it was the file that is read, a read is named
abbrev pub NamesRead : CopyFault → Type 0
NamesRead (stopped.From why) = why.call ≡ call.Read
NamesRead (stopped.To why) = Unit {0}

-- A first part of it, with as many blocks as were read; where a call was refused, it is the last.
-- Else the image refused a read of the blocks that come next.
pub record HasSomeBlocks (holds : ℕ → List ℕ → Type 0) (refuses : ℕ → ℕ → Type 0) (sizes : Super)
    (waiting : List DeviceCall) (old new : Told) (why : CopyFault) : Type 0 where
  pub blocks : List (List ℕ)
  pub count_is : length blocks ≤ sizes.blocks
  pub were_read : AreReadFrom holds sizes.home blocks
  pub part : List DeviceCall
  pub rest : List DeviceCall
  pub parts : exporting sizes blocks waiting ≡ part ++ rest
  pub told_is : new ≡ asked_until why part old
  pub misses : MissesNext refuses sizes.home sizes.blocks (length blocks) why
  pub named : NamesRead why

-- what is asked behind the blocks
abbrev pub going_home : Super → List DeviceCall → List DeviceCall
going_home sizes waiting = moved_calls sizes.home sizes.blocks waiting ++ Flush ∷ []

-- It was asked in runs, and behind them to synchronise, or for nothing.
pub record GoesInRuns {D : Type 0} (told : D → Told) (at_once : D → List DeviceCall → D → Type 0)
    (old new : D) : Type 0 where
  pub between : D
  pub runs : IsAskedInRuns told at_once old between
  pub ends : (new ≡ between) ⊎ at_once between (Flush ∷ []) new

-- It was asked in runs for the blocks as they lie, and then so for what waits and goes home; or for
-- nothing more.
pub record ExportsInRuns {D : Type 0} (told : D → Told)
    (at_once : D → List DeviceCall → D → Type 0) (old new : D) : Type 0 where
  pub copied : D
  pub blocks : IsAskedInRuns told at_once old copied
  pub home : (new ≡ copied) ⊎ GoesInRuns told at_once copied new
