pub mod Leaves
pub mod Remembered
