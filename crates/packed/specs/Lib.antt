pub mod Packed
pub mod Laws
