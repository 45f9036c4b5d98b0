pub mod Chains
pub mod Lent
pub mod Rows
pub mod Sharing
pub mod Slices
