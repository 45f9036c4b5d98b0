pub mod Texts
pub mod Outcomes
