pub mod Fed
pub mod Laws
pub mod Long
pub mod Text
