pub mod Put
pub mod Parts
pub mod Laws
pub mod Turns
pub mod Starts
