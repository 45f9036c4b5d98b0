pub mod Kept
pub mod Masks
pub mod Search
pub mod Lent
pub mod Laws
