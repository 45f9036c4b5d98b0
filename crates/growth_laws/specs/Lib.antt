-- The laws of growth on accepted weights, and cases of their definitions.
pub mod Laws
pub mod Cases
