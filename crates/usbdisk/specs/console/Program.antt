-- Which program arguments are for: three are built as one.
use Rattle.std.specs.Prelude.{◌≡◌, ◌∷◌, ℕ, List, codes, drop}
use Rattle.usbdisk.specs.declared.console.program.Program.{Program}
use Rattle.usbdisk.specs.declared.console.program.Program.TheVariants as program

-- the first word behind the name of the program is this one
abbrev pub FirstWordIs : List (List ℕ) → List ℕ → Type 0
FirstWordIs args word = (name : List ℕ) × (behind : List (List ℕ)) × (args ≡ name ∷ word ∷ behind)

-- arguments are for the program that their first word names, or else for the one that plays scripts
abbrev pub IsNamed : List (List ℕ) → Program → Type 0
IsNamed args program.Scripts =
    (¬ FirstWordIs args (codes "image")) × (¬ FirstWordIs args (codes "live"))
IsNamed args program.Image = FirstWordIs args (codes "image")
IsNamed args program.Live = FirstWordIs args (codes "live")

-- a program's own arguments, of all: a word that names it is its name there
abbrev pub own_arguments : Program → List (List ℕ) → List (List ℕ)
own_arguments program.Scripts args = args
own_arguments _ args = drop 1 args
