pub mod CleanRows
pub mod Cleaned
pub mod Cuts
pub mod Entries
pub mod Rows
