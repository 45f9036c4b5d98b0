pub mod Joining
pub mod Going
pub mod Answers
pub mod Accepted
pub mod Laws
