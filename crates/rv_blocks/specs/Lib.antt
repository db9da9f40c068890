pub mod Naming
pub mod Reads
pub mod Changes
