-- A medium of sectors: what a read gives, and what a loss of power may leave.
use Rattle.std.specs.Prelude.{◌≡◌, ◌≢◌, ◌⊎◌, ◌<◌, ◌≤◌, ℕ, ◌+◌, List, length, Result, IfErr, is_ok}
use Rattle.std.specs.Prelude.{if◌then◌else◌, All, ◌++◌}
use Rattle.medium.specs.declared.fault.MediumFault.{MediumFault}
use Rattle.medium.specs.declared.fault.MediumFault.TheVariants.{Read}

-- the bytes of every sector, by its number
abbrev pub Image : Type 0
Image = ℕ → List ℕ

-- the contents that a cut may leave in each sector
abbrev pub Sets : Type 1
Sets = ℕ → List ℕ → Type 0

-- a medium at one moment
pub record State : Type 1 where
  -- how many sectors there are
  pub size : ℕ
  -- what a read of a sector gives
  pub content : Image
  -- what a cut now may leave in a sector
  pub may_leave : Sets
  -- the whole images that a cut at some moment since then may have left
  pub left_since : ℕ → Image → Type 0
  -- how many calls there were, which is also the moment
  pub calls : ℕ
  -- how many of each kind, refused ones too
  pub made : MediumFault → ℕ
  -- how many calls were refused
  pub failures : ℕ
  -- how many calls of each kind were refused
  pub refused : MediumFault → ℕ
  -- the sectors that reads named, in order, of a medium that keeps account of them, else none
  pub looked : List ℕ

-- a cut may leave this image: each sector by itself
abbrev pub CutLeaves : Sets → Image → Type 0
CutLeaves sets image = (s : ℕ) → sets s (image s)

-- each sector holds what it held
abbrev pub Stays : Image → Image → Type 0
Stays old new = (s : ℕ) → new s ≡ old s

-- sector s holds these bytes, and each other sector what it held
pub record Holds (s : ℕ) (bytes : List ℕ) (old new : Image) : Type 0 where
  pub here : new s ≡ bytes
  pub elsewhere : (t : ℕ) → t ≢ s → new t ≡ old t

-- each of these sets is a part of that one
abbrev pub Within : Sets → Sets → Type 0
Within parts wholes = (s : ℕ) (c : List ℕ) → parts s c → wholes s c

-- the set of sector s gains these bytes at most, and no other set gains anything
abbrev pub Gains : ℕ → List ℕ → Sets → Sets → Type 0
Gains s bytes old new = (t : ℕ) (c : List ℕ) → new t c → old t c ⊎ ((t ≡ s) × (c ≡ bytes))

-- each set has the one content at most
abbrev pub Only : Image → Sets → Type 0
Only image sets = (s : ℕ) (c : List ℕ) → sets s c → c ≡ image s

-- a call of this kind passes
pub record Passes (fault : MediumFault) (result : Result (Unit {0}) MediumFault)
    (old new : State) : Type 0 where
  pub calls_are : new.calls ≡ old.calls + 1
  pub made_is : new.made fault ≡ old.made fault + 1
  -- no other kind is made
  pub others_made : (kind : MediumFault) → kind ≢ fault → new.made kind ≡ old.made kind
  pub failures_are : new.failures ≡ (if is_ok result then old.failures else old.failures + 1)
  pub refused_are : new.refused fault
      ≡ (if is_ok result then old.refused fault else old.refused fault + 1)
  -- no other kind is refused
  pub others_stay : (kind : MediumFault) → kind ≢ fault → new.refused kind ≡ old.refused kind
  pub size_stays : new.size ≡ old.size
  -- a refusal names its call
  pub named : IfErr result (λ e. e ≡ fault)
  -- what a cut since t may have left is what it was before the call, or what a cut may leave now
  pub nothing_else : (t : ℕ) (image : Image) → t ≤ old.calls → new.left_since t image
      → old.left_since t image ⊎ CutLeaves new.may_leave image
  -- reads alone name sectors to be read
  pub looked_stays : fault ≢ Read → new.looked ≡ old.looked

-- Reads that each named a sector with P, and any other calls.
pub record LooksOnly (P : ℕ → Type 0) (old new : State) : Type 0 where
  pub looks : List ℕ
  pub looked : new.looked ≡ old.looked ++ looks
  pub only : All P looks

-- what holds of a medium at each moment
pub record IsSound (m : State) : Type 0 where
  -- a cut may leave what a read gives
  pub holds_content : (s : ℕ) → m.may_leave s (m.content s)
  -- this moment is one of those since an earlier one
  pub counts_now : (t : ℕ) (image : Image) → t ≤ m.calls → CutLeaves m.may_leave image
      → m.left_since t image
  -- since this moment there is no other
  pub only_now : (image : Image) → m.left_since m.calls image → CutLeaves m.may_leave image
  -- a sector has 512 bytes, whatever is left of it
  pub sized : (s : ℕ) (c : List ℕ) → s < m.size → m.may_leave s c → length c ≡ 512
