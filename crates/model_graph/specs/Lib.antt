pub mod Graph
pub mod Answers
pub mod Lent
