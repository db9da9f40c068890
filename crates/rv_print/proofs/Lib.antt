pub mod Standing
pub mod Marking
pub mod Explained
pub mod Lines
pub mod Chains
pub mod Left
pub mod Setting
