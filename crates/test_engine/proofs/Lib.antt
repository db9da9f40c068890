pub mod Later
pub mod Within
