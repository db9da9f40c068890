pub mod Within
pub mod Standing
