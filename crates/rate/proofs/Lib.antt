pub mod Accepts
pub mod Calls
pub mod Clear
