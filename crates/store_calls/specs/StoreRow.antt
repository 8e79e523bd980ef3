-- The store that a handle holds.
use denote.RattleType.{RattleType}
use Rattle.blocks.specs.contracts.store.Store as store
use Rattle.window.specs.contracts.window.WindowMedium as medium
use Rattle.window.specs.contracts.window.WindowMediumMedium.TheImpl as impl

abbrev pub store_row : RattleType
store_row = store.the_row medium.the_row impl.ghosts
