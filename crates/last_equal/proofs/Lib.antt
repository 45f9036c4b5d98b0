pub mod Same
pub mod Chain
