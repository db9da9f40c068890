pub mod Lexing
pub mod Lexemes
pub mod Agreeing
pub mod Naming
mod Tables
