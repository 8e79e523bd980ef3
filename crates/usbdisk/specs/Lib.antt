pub mod console
pub mod images
pub mod runner
pub mod live
