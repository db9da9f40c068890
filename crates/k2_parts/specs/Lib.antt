pub mod Told
pub mod Tests
pub mod Extents
pub mod Visits
pub mod Roots
