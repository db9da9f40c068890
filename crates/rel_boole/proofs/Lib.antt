pub mod Cutting
pub mod Combining
pub mod Filled
pub mod Finding
pub mod ByBlocks
pub mod Meeting
