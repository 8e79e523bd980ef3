pub mod Values
pub mod BegunBehind
