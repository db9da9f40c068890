pub mod Ascending
pub mod Calling
pub mod Finding
