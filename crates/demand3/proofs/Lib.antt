pub mod Marker
pub mod Decoder
pub mod Verified
pub mod Fixed
