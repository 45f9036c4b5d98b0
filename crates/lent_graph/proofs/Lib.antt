pub mod Accepts
pub mod Checks
pub mod Edges
pub mod Laws
