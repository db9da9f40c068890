pub mod Probe
pub mod Memos
pub mod Opened
pub mod Rule
pub mod Tells
pub mod Held
pub mod Laws
