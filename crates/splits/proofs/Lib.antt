pub mod Suggests
pub mod Covers
pub mod Ways
