pub mod Clean
pub mod Lent
pub mod Rows
