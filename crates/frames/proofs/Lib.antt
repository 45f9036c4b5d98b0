pub mod Answers
pub mod Cut
pub mod FrameKinds
pub mod LineLaws
pub mod Long
pub mod ReadTables
pub mod Words
