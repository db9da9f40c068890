pub mod Visiting
pub mod Writing
pub mod Listed
