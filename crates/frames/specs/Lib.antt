pub mod Cases
pub mod Counts
pub mod Frames
pub mod Input
pub mod Laws
pub mod LineLaws
