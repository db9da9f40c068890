pub mod Behind
pub mod Drawing
