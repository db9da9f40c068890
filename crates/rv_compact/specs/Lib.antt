pub mod Compacted
pub mod Walks
pub mod Copies
