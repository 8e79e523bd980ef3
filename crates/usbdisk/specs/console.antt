pub mod Numbers
pub mod Words
pub mod Streams
pub mod Program
pub mod Status
pub mod Texts
