-- Where a disk, its medium and its life stand.
use Rattle.std.specs.Prelude.{◌≡◌, ◌+◌, ◌-◌, ◌^◌, min, Bool}
use Rattle.medium.specs.Sim.{Sim}
use Rattle.logical_blocks.specs.Book.{Book}
use Rattle.blocks.specs.StoreValue.{StoreValue}
use Rattle.page.specs.declared.life.Life.{Life}
use Rattle.page.specs.declared.place.Place.{Place}
use Rattle.page.specs.declared.place.Place.TheVariants.{Runs, Off, Between}
use Rattle.page.specs.declared.scene.Scene.{Scene}

-- a scene, and the book of its life
pub record Standing : Type 0 where
  pub scene : Scene
  pub book : Book

abbrev pub standing : Scene → Book → Standing
standing scene book = record { scene = scene; book = book }

-- the medium of a disk that runs, or that is left
abbrev pub medium_of : Place → Sim
medium_of (Runs store) = store.medium
medium_of (Off m) = m
medium_of (Between m) = m

-- a scene in which this store runs
abbrev pub running : StoreValue Sim → Life → Bool → Scene
running store life ahead = record { place = Runs store; life = life; goes_ahead = ahead }

-- one of which the power was cut, and is on again
abbrev pub between : Sim → Life → Bool → Scene
between m life ahead = record { place = Between m; life = life; goes_ahead = ahead }

-- the place alone may be another one
abbrev pub KeepsOthers : Standing → Standing → Type 0
KeepsOthers old new = new ≡ record old { scene = record old.scene { place = new.scene.place } }

-- ---- the numbers of the lives

-- before the first start
abbrev pub first_life : Life
first_life = record {
  accepted = 0;
  promised = 0;
  accepted_before = 0;
  promised_before = 0;
  starts = 0;
}

-- after one start more, whether a disk runs of it or not
abbrev pub next_life : Life → Life
next_life life = record {
  accepted = 0;
  promised = 0;
  accepted_before = life.accepted;
  promised_before = life.promised;
  starts = min (life.starts + 1) (2 ^ 64 - 1);
}

-- the life before and the number of starts stay
abbrev pub KeepsLives : Life → Life → Type 0
KeepsLives old new = new ≡ record old { accepted = new.accepted; promised = new.promised }
