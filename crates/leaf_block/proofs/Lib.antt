pub mod Bits
pub mod Composes
pub mod Rects
pub mod Sets
pub mod Turns
