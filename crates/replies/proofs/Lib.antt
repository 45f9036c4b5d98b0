pub mod Lines
pub mod Quotient
