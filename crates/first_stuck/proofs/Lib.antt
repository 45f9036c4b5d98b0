pub mod FirstStuck
pub mod Shut
