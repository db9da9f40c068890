pub mod Truth
pub mod Lists
pub mod Strips
pub mod Halves
pub mod RowSteps
