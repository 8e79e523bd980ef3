-- A device that loses power while it carries out writes, none of which it has flushed.
pub use Rattle.store_calls.specs.Rooms.{CoversParts}
