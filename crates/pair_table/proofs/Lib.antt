pub mod Homing
pub mod Placing
pub mod Probing
pub mod Ruling
pub mod Memoing
pub mod Ways
pub mod Wrapping
