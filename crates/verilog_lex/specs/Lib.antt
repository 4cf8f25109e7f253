pub mod Bytes
pub mod Words
pub mod Number
pub mod Element
pub mod Tokens
pub mod Lexeme
pub mod Spelling
pub mod Forms
