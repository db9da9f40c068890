pub mod Books
pub mod Starts
pub mod Entering
pub mod Committing
pub mod Counting
pub mod Picking
