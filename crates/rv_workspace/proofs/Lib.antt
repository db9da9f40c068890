pub mod Picking
pub mod Replaying
pub mod Keeping
pub mod Noting
pub mod Starting
pub mod Changing
