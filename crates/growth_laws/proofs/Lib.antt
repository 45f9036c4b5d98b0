-- The laws of growth, proved: `Proved.growth-laws`. The other modules lead up to it.
pub mod Signs
pub mod Reached
pub mod Takes
pub mod Edges
pub mod Rooms
pub mod Places
pub mod Proved
