pub mod Copies
pub mod Grows
pub mod Start
pub mod Turn
