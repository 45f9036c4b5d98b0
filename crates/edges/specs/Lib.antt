pub mod Compile
pub mod Chains
pub mod Tables
pub mod Lent
pub mod Cases
