pub mod Passes
pub mod Answer
pub mod Lent
