pub mod Blocks
pub mod Digits
pub mod Entries
pub mod Index
pub mod Order
pub mod Places
pub mod View
