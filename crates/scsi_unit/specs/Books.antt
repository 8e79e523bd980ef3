-- What may be found of a book after a cut, handed on to the layers above, which know a disk over
-- its lives by it and name no store.
pub use Rattle.blocks.specs.Finding.{StandsAs, MayFind, FoundWith}
