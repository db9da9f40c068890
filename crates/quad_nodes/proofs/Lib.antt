pub mod Halving
pub mod Finding
pub mod Squaring
pub mod Looking
pub mod Filling
pub mod Making
