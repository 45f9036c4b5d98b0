pub mod Flips
pub mod Meeting
pub mod LowestBit
pub mod Xors
pub mod Judged
