pub mod Begun
pub mod Laws
pub mod Lent
