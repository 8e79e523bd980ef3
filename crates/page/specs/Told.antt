-- What a page is told of a script.
use Rattle.std.specs.Prelude.{◌≡◌, ◌<◌, List, ℕ, ◌++◌, length, drop}
use Rattle.page.specs.Pictures.{numbers_of, picture}
use Rattle.page.specs.Scripts.{IsHead, IsReached}
use Rattle.page.specs.declared.scene.Scene.{Scene}
use Rattle.page.specs.declared.script.Head.{Head}

-- The numbers are those of the scene that its steps reach on a new disk. The bytes are how the
-- steps went, one byte a step, then the blocks served, the flushed bytes and the unflushed writes.
pub record IsTold (script told parts : List ℕ) : Type 0 where
  pub head : Head
  pub is_head : IsHead script head
  pub answers : List ℕ
  pub scene : Scene
  pub reached : IsReached head script answers scene
  pub numbers : told ≡ numbers_of scene head.sizes
  pub bytes : parts ≡ answers ++ picture scene.place reached.reached.book head.sizes.blocks

-- they stand at the front of a room
pub record IsPlayed (script told old new : List ℕ) : Type 0 where
  pub bytes : List ℕ
  pub is_told : IsTold script told bytes
  pub front : new ≡ bytes ++ drop (length bytes) old

-- they do not fit in it
pub record LacksRoom (script told room : List ℕ) : Type 0 where
  pub bytes : List ℕ
  pub is_told : IsTold script told bytes
  pub lacks : length room < length bytes
