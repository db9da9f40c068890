pub mod Words
pub mod Heaps
pub mod Listing
pub mod Steps
pub mod Rooms
pub mod Roots
