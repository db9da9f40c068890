pub mod Values
pub mod Bounds
pub mod Deciding
