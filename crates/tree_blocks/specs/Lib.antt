pub mod Order
pub mod Levels
