pub mod Ready
pub mod Lent
