-- Calls of a machine that are made while the device is at none of them.
use Rattle.std.specs.Prelude.{◌≡◌, ◌⊎◌, ℕ, Bool, true, false, List, length}
use Rattle.medium.specs.{Medium.Image, Tally.{Tally, none}, declared.medium_call.Call.Call}
use Rattle.window.specs.{Window.Window}
use Rattle.image_calls.specs.{Carried.Tells, Runs.{IsHeld, held_at, LetsGo}}
use Rattle.image_calls.specs.{declared.carried.Carried.Carried, declared.run.Run.Run}
use Rattle.medium.specs.declared.medium_call.Call.TheVariants as call

-- this call reads a sector that is held
abbrev pub IsAnswered : Run → Call → Type 0
IsAnswered run (call.Read place) = IsHeld run place
IsAnswered run (call.Write place) = ⊥
IsAnswered run call.Flush = ⊥

-- this call writes that sector
abbrev pub WritesTo : ℕ → Call → Type 0
WritesTo sector (call.Read place) = ⊥
WritesTo sector (call.Write place) = place ≡ sector
WritesTo sector call.Flush = ⊥

module _ {S V : Type 0} (fits : S → ℕ → Type 0) (holds : S → List ℕ → Window → V → Type 0)
    (may : V → Image → Type 0) (reads ends : S → ℕ) (cost : S → Tally) (Exact : Type 0)
    (Due : S → Type 0) (After : S → List ℕ → S → Type 0) (Gone : S → S → Type 0) where
  abbrev Told : Carried S → Call → List ℕ → Type 0
  Told s next bytes = Tells fits holds may reads ends cost Exact Due After Gone s.machine s.sector
      next bytes

  -- no call is left, or the machine tells one that is none of these
  abbrev pub TellsNone : (Call → Type 0) → Carried S → Type 0
  TellsNone These s = (cost s.machine ≡ none)
      ⊎ ((next : Call) × (bytes : List ℕ) × Told s next bytes × (¬ These next))

  -- The next call is made, where it reads a sector that is held: the machine is told its bytes.
  abbrev pub Answers : Run → Carried S → Bool → Carried S → Type 0
  Answers run old true new = (place : ℕ) × (bytes : List ℕ) × IsHeld run place
      × Told old (call.Read place) bytes × After old.machine (held_at run place) new.machine
      × (new ≡ record old { machine = new.machine; sector = held_at run place })
  Answers run old false new = TellsNone (IsAnswered run) old × (new ≡ old)

  -- The next call is made, where it writes this sector: the lent sector has its bytes, and no held
  -- sector from this one on stays held.
  abbrev pub Puts : ℕ → Run → Carried S → Bool → Run → Carried S → Type 0
  Puts sector run old true kept new = Told old (call.Write sector) new.sector
      × After old.machine new.sector new.machine × (length new.sector ≡ 512)
      × (new ≡ record old { machine = new.machine; sector = new.sector }) × LetsGo sector run kept
  Puts sector run old false kept new =
      TellsNone (WritesTo sector) old × (new ≡ old) × (kept ≡ run)
