pub mod Starts
pub mod Joins
pub mod Reaches
pub mod Postorder
pub mod Columns
pub mod Ordered
