pub mod Uses
pub mod Parts
pub mod Said
pub mod Shown
pub mod Simple
