-- What the contracts of the shot decoder cite.
pub mod Begin
pub mod Blank
pub mod Lent
pub mod Longer
pub mod Shots
