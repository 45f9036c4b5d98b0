pub mod Last
pub mod Replies
