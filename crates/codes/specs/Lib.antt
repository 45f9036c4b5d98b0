pub mod Codes
pub mod Order
pub mod Limits
pub mod Laws
