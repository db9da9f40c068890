pub mod Rest
pub mod Putting
pub mod Taking
pub mod Wording
pub mod Limits
pub mod Texts
pub mod Lexemes
pub mod SaveNames
