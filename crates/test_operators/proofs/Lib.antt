pub mod Later
pub mod Listing
