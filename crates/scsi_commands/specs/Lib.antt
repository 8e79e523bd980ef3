pub mod Codes
pub mod Inquiry
pub mod Mode
pub mod Supported
pub mod Written
