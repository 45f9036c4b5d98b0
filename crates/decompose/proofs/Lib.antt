pub mod Appending
pub mod Growing
pub mod Keeps
pub mod Laws
pub mod Starting
