pub mod Looking
pub mod Laws
