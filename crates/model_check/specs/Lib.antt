pub mod BitLaws
pub mod Bits
pub mod Lent
pub mod ModelCheck
