-- What growth leaves is what peeling and cleaning ask.
-- What peeling leaves is what cleaning asks.
-- What the rounds keep.
pub mod Blank
pub mod DecodeRows
pub mod Decodes
pub mod Ends
pub mod Growing
pub mod Joins
pub mod Lights
pub mod Longer
pub mod RoundRows
pub mod Rounds
