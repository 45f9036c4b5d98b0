pub mod Bytes
pub mod Runs
pub mod Texts
pub mod Laws
