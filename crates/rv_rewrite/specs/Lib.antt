pub mod Applied
pub mod Items
pub mod Marked
pub mod Repeated
pub mod Running
pub mod Steps
