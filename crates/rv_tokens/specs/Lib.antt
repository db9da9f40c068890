pub mod Lexing
pub mod Endings
pub mod LexerAnswers
