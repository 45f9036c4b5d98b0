pub mod Stated
pub mod Verified
