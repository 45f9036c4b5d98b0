pub mod Laws
pub mod Join
pub mod Unseen
