pub mod Differs
pub mod Counting
