pub mod Held
pub mod Appended
pub mod Lent
