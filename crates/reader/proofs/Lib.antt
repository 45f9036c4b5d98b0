pub mod Written
pub mod Stored
pub mod Reading
pub mod Laws
pub mod Parts
pub mod Lent
