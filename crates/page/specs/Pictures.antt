-- What a page is told of a scene.
use Rattle.std.specs.Prelude.{ℕ, ◌*◌, List, [], ◌∷◌, ◌++◌, length, replicate, flat_map}
use Rattle.byteorder.specs.Endian.{little_bytes}
use Rattle.medium.specs.Sim.{Sim, state_of}
use Rattle.medium.specs.declared.unflushed.UnflushedWrite.{UnflushedWrite}
use Rattle.journal.specs.declared.super_sector.Super.{Super}
use Rattle.logical_blocks.specs.Book.{Book, array_of, blocks_at}
use Rattle.page.specs.Standing.{medium_of}
use Rattle.page.specs.declared.place.Place.{Place}
use Rattle.page.specs.declared.place.Place.TheVariants.{Runs, Off, Between}
use Rattle.page.specs.declared.scene.Scene.{Scene}

-- a disk runs, the power is off, or it is on again and no disk runs
abbrev pub place_code : Place → ℕ
place_code (Runs store) = 0
place_code (Off m) = 1
place_code (Between m) = 2

-- the numbers of a scene on an image of these sizes
abbrev pub numbers_of : Scene → Super → List ℕ
numbers_of scene sizes =
    place_code scene.place ∷ (state_of (medium_of scene.place)).size
    ∷ sizes.home ∷ sizes.blocks ∷ length (medium_of scene.place).unflushed
    ∷ scene.life.accepted ∷ scene.life.promised ∷ 0
    ∷ scene.life.accepted_before ∷ scene.life.promised_before ∷ 0 ∷ scene.life.starts
    ∷ 0 ∷ (medium_of scene.place).flushes ∷ 0 ∷ 0 ∷ []

-- the first blocks of a book as a READ gives them, or zeros where no disk runs
abbrev pub served_by : Place → Book → ℕ → List ℕ
served_by (Runs store) book blocks = blocks_at (array_of book) 0 blocks
served_by place book blocks = replicate (512 * blocks) 0

-- an unflushed write: its sector, and the bytes for it
abbrev pub spelled : UnflushedWrite → List ℕ
spelled write = little_bytes 8 write.sector ++ write.block

-- the flushed bytes of a medium, and its unflushed writes in order of issue
abbrev pub medium_bytes : Sim → List ℕ
medium_bytes m = m.flushed ++ flat_map spelled m.unflushed

-- what a disk serves of a book, and what its medium holds
abbrev pub picture : Place → Book → ℕ → List ℕ
picture place book blocks = served_by place book blocks ++ medium_bytes (medium_of place)
