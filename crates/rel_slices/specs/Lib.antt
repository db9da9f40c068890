pub mod Thin
pub mod Ops
pub mod Rooms
pub mod Members
pub mod ValueRooms
pub mod Fits
pub mod Remembering
pub mod Derived
