pub mod Digits
pub mod Lexing
pub mod Rules
pub mod Walking
pub mod Splitting
pub mod Finding
pub mod Cutting
pub mod Sorting
