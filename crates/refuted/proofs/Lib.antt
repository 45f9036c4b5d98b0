pub mod Refuted
pub mod Calls
