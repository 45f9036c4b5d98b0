pub mod Scratch
pub mod Lent
pub mod Laws
