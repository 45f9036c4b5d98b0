pub mod Last
pub mod Lent
