pub mod Quartering
pub mod Showing
pub mod Visited
pub mod Entering
pub mod Filing
