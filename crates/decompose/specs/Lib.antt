pub mod Appended
pub mod Call
pub mod Laws
pub mod Lent
pub mod Made
pub mod Started
