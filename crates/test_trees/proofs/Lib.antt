pub mod Later
pub mod Trying
