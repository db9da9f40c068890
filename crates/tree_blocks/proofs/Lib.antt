pub mod Opening
pub mod Counting
pub mod Naming
