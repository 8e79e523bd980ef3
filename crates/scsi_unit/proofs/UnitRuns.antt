-- How stores come after one another: handed on to the layers above.
pub use Rattle.blocks.proofs.StoreRuns.{comes_itself, comes_through}
