pub mod Given
pub mod Causes
pub mod Empty
pub mod Making
pub mod Reading
pub mod Rooms
