-- What one line of a script asks for. `most` is the most bytes of a packet.
use Rattle.std.specs.Prelude.{◌≡◌, ◌⊎◌, ◌<◌, ◌≤◌, ℕ, List, [], ◌∷◌, ◌++◌, All, length, map, codes}
use Rattle.std.specs.Prelude.{decimal, Ok}
use Rattle.hex.specs.Hex.{decode_of}
use Rattle.spec.specs.Packets.{bytes_of}
use Rattle.usbdisk.specs.console.Numbers.{SpellsNumber}
use Rattle.usbdisk.specs.declared.runner.line.ScriptLine.{ScriptLine}
use Rattle.usbdisk.specs.declared.runner.line.ScriptLine.TheVariants.{Skipped, Out, Fill, In, Setup}
use Rattle.usbdisk.specs.declared.runner.line.ScriptLine.TheVariants.{Tick}
use Rattle.usbdisk.specs.declared.runner.line.ScriptLine.TheVariants.{Fuse, Fail, Cut}
use Rattle.usbdisk.specs.declared.runner.line.ScriptKind.{ScriptKind}
use Rattle.usbdisk.specs.declared.runner.line.ScriptKind.TheVariants.{OneLife, Lives}
use Rattle.usbdisk.specs.declared.runner.kept.KeptWrites.{KeptWrites}
use Rattle.usbdisk.specs.declared.runner.kept.KeptWrites.TheVariants as kept
use Rattle.usbdisk.specs.runner.Lines.{words_of}

-- an empty line, or a comment
abbrev pub IsSkipped : List ℕ → Type 0
IsSkipped line = (line ≡ []) ⊎ ((comment : List ℕ) × (line ≡ codes "#" ++ comment))

-- hex digits of either case for a packet of 1 to `most` bytes
pub record SpellsPacket (most : ℕ) (digits packet : List ℕ) : Type 0 where
  pub decoded : decode_of digits ≡ Ok packet
  pub some : 0 < length packet
  pub fits : length packet ≤ most

-- a packet to Bulk-Out: `out` alone is an empty one
abbrev pub SpellsOut : ℕ → List ℕ → List ℕ → Type 0
SpellsOut most line packet = ((line ≡ codes "out") × (packet ≡ []))
    ⊎ ((digits : List ℕ) × (line ≡ codes "out " ++ digits) × SpellsPacket most digits packet)

-- one byte in hex digits, and how many of it, 1 to 131,072
pub record SpellsFill (line : List ℕ) (byte count : ℕ) : Type 0 where
  pub digits : List ℕ
  pub number : List ℕ
  pub parts : line ≡ codes "fill " ++ digits ++ codes " " ++ number
  pub decoded : decode_of digits ≡ Ok (byte ∷ [])
  pub counted : SpellsNumber 1 131072 number count

-- a setup packet of eight bytes
pub record SpellsSetup (line packet : List ℕ) : Type 0 where
  pub digits : List ℕ
  pub parts : line ≡ codes "setup " ++ digits
  pub decoded : decode_of digits ≡ Ok packet
  pub whole : length packet ≡ 8

-- a word with its space, and a number from one limit to another
pub record SpellsCount (word : List ℕ) (least most : ℕ) (line : List ℕ) (count : ℕ) : Type 0 where
  pub number : List ℕ
  pub parts : line ≡ word ++ number
  pub counted : SpellsNumber least most number count

-- 1 to 64 numbers of 0 to 16,383, parted by single spaces
pub record SpellsNumbers (text numbers : List ℕ) : Type 0 where
  pub words : words_of text ≡ map decimal numbers
  pub few : length numbers ≤ 64
  pub small : All (λ number. number ≤ 16383) numbers

-- which of the unflushed writes a cut keeps: none, all, or those with these numbers
abbrev pub SpellsCut : List ℕ → KeptWrites → Type 0
SpellsCut line kept.None = line ≡ codes "cut none"
SpellsCut line kept.All = line ≡ codes "cut all"
SpellsCut line (kept.These numbers) = (text : List ℕ) × (line ≡ codes "cut " ++ text)
    × SpellsNumbers text numbers.items

-- a line that moves no power and lets no call of the medium fail
pub record IsNoSwitch (line : List ℕ) : Type 0 where
  pub no_fuse : (writes : ℕ) → SpellsCount (codes "fuse ") 0 1000000000 line writes → ⊥
  pub no_fail : (call : ℕ) → SpellsCount (codes "fail ") 1 1000000000 line call → ⊥
  pub no_cut : (kept : KeptWrites) → SpellsCut line kept → ⊥

-- the line spells what it asks for, where packets have at most `most` bytes
abbrev pub Spells : ℕ → List ℕ → ScriptLine → Type 0
Spells most line Skipped = IsSkipped line
Spells most line (Out packet) = SpellsOut most line packet.items
Spells most line (Fill byte count size) = SpellsFill line byte count × (bytes_of size ≡ most)
Spells most line In = line ≡ codes "in"
Spells most line (Setup packet) = SpellsSetup line packet
Spells most line (Tick count) = SpellsCount (codes "tick ") 1 1000000 line count
Spells most line (Fuse writes) = SpellsCount (codes "fuse ") 0 1000000000 line writes
Spells most line (Fail call) = SpellsCount (codes "fail ") 1 1000000000 line call
Spells most line (Cut kept) = SpellsCut line kept

-- a script of one life has no line that moves the power, or lets a call of the medium fail
abbrev pub Allows : ScriptKind → ScriptLine → Type 0
Allows OneLife (Fuse writes) = ⊥
Allows OneLife (Fail call) = ⊥
Allows OneLife (Cut kept) = ⊥
Allows OneLife asked = Unit {0}
Allows Lives asked = Unit {0}

-- the line is one of such a script
abbrev pub IsScriptLine : ScriptKind → ℕ → List ℕ → Type 0
IsScriptLine kind most line = (asked : ScriptLine) × Spells most line asked × Allows kind asked
