pub mod Diagonal
pub mod Keeping
