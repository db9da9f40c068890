pub mod Finding
pub mod Halves
pub mod Making
pub mod Noting
