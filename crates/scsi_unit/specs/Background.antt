-- The background work of a store, handed on to the layers above, which name no store: what a step
-- works towards and does, how many steps are left at most, and what is true where none is.
pub use Rattle.blocks.specs.declared.work.Work.{Work}
pub use Rattle.blocks.specs.declared.work.Work.TheVariants.{Settle, Ahead, WriteBack}
pub use Rattle.blocks.specs.Work.{IsWork, LeavesBy}
pub use Rattle.blocks.specs.Written.{IsWritten}
pub use Rattle.blocks.specs.Settled.{IsSettled, IsAtHome}
pub use Rattle.blocks.specs.StoreValue.{is_dead, steps_left, HasLimits}
