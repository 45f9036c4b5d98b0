pub mod Checks
pub mod Sums
pub mod Positions
pub mod Accepted
pub mod Reading
pub mod Lent
pub mod Laws
