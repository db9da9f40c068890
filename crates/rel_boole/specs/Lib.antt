pub mod Cellwise
