pub mod Striking
pub mod Transfers
pub mod HiddenLag
pub mod KeptLag
pub mod Witnesses
