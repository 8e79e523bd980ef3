-- The faults with which a start is refused, handed on to the layers above, which name no recovery.
pub use Rattle.blocks.specs.Opening.{StartFault, NoMemory, Read, Write, Flush, BadSuper, BadVersion}
pub use Rattle.blocks.specs.Opening.{BadSize, BadHead, StampsUsedUp, LogTooSmall}
