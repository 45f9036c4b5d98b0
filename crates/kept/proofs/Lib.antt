pub mod Copying
pub mod Kept
pub mod Sums
pub mod Spans
pub mod Written
