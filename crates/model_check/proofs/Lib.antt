pub mod Bits
pub mod Columns
pub mod FromLines
pub mod Sums
