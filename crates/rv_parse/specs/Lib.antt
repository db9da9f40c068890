pub mod Halts
pub mod Readers
pub mod Got
pub mod Openings
pub mod Items
pub mod Stops
