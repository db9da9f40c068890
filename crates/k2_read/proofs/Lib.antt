pub mod Numbers
pub mod Leaves
pub mod Rooms
pub mod Noted
pub mod Making
pub mod Lists
pub mod Sounds
pub mod Answering
