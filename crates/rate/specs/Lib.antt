pub mod Checks
pub mod Rate
