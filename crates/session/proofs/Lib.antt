pub mod Fronts
pub mod Models
pub mod Shots
pub mod ByKind
pub mod Lines
