pub mod Printed
pub mod Again
pub mod Plain
pub mod SameTrees
