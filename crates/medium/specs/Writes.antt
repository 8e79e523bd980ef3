-- Lists of writes to sectors, and which of them a cut keeps.
use Rattle.std.specs.Prelude.{◌≡◌, ◌⊎◌, ℕ, ◌+◌, ◌*◌, ◌≤◌, Bool, true, false, List, [], ◌∷◌, length}
use Rattle.std.specs.Prelude.{take, drop, if◌then◌else◌, ◌==◌}
use Rattle.std.specs.Int.{bit_at}
use Rattle.std.specs.List.{list_any, list_all, filter, range_with_len}
use Rattle.medium.specs.Medium.{Image}
use Rattle.medium.specs.declared.unflushed.UnflushedWrite.{UnflushedWrite}
use Rattle.medium.specs.declared.kept.Kept.{Kept}
use Rattle.medium.specs.declared.kept.Kept.TheVariants as kept

-- the bytes of sector s
abbrev pub sector_of : List ℕ → Image
sector_of bytes s = take 512 (drop (512 * s) bytes)

-- what sector s holds after these writes, in order, if it held c before
abbrev pub latest : List UnflushedWrite → ℕ → List ℕ → List ℕ
latest [] s c = c
latest (w ∷ ws) s c = latest ws s (if s == w.sector then w.block else c)

-- the image after these writes, in order
abbrev pub applied : List UnflushedWrite → Image → Image
applied ws image s = latest ws s (image s)

-- one of these writes put these bytes into sector s
abbrev pub IsWritten : List UnflushedWrite → ℕ → List ℕ → Type 0
IsWritten [] s c = ⊥
IsWritten (w ∷ ws) s c = ((s ≡ w.sector) × (c ≡ w.block)) ⊎ IsWritten ws s c

-- each of these writes is of a whole sector
abbrev pub are_whole : List UnflushedWrite → Bool
are_whole ws = list_all (λ w. length w.block == 512) ws

-- each of these writes lies within this many bytes
abbrev pub LieWithin : ℕ → List UnflushedWrite → Type 0
LieWithin size [] = Unit {0}
LieWithin size (w ∷ ws) = (512 * (w.sector + 1) ≤ size) × LieWithin size ws

-- the numbers of the bits that are set in a mask, below 64
abbrev pub kept_by : ℕ → List ℕ
kept_by mask = filter (λ number. bit_at mask number == 1) (range_with_len 0 64)

-- whether the write of this number is kept
abbrev pub keeps : Kept → ℕ → Bool
keeps kept.None number = false
keeps kept.All number = true
keeps (kept.These numbers) number = list_any (λ n. n == number) numbers.items
keeps (kept.Mask mask) number = list_any (λ n. n == number) (kept_by mask)

-- the writes that are kept, where the first of these has this number
abbrev pub kept_writes : (ℕ → Bool) → ℕ → List UnflushedWrite → List UnflushedWrite
kept_writes keep number [] = []
kept_writes keep number (w ∷ ws) =
    if keep number then w ∷ kept_writes keep (number + 1) ws else kept_writes keep (number + 1) ws
