pub mod Images
pub mod Lines
pub mod Listing
pub mod Rooms
