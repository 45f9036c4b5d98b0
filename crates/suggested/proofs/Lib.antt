pub mod Models
pub mod Appending
pub mod Adding
pub mod Turns
pub mod Lent
