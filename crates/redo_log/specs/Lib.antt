pub mod Copies
pub mod Held
pub mod Index
pub mod Value
pub mod Shown
pub mod Told
pub mod Steps
pub mod Halfway
