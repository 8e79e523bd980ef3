pub mod Blocks
pub mod Book
pub mod CrashStates
