pub mod Lists
pub mod Strips
