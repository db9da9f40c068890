pub mod Squares
pub mod Knowing
