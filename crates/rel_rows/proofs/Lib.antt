pub mod Bits
pub mod Lines
pub mod Steps
pub mod Roots
pub mod Parts
pub mod Corners
