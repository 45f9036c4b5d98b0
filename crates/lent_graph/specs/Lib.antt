pub mod Accepts
pub mod Call
pub mod Graph
pub mod Laws
pub mod Lent
