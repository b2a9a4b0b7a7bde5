pub mod Bytes
pub mod Signs
pub mod Lexeme
pub mod Text
pub mod Shapes
pub mod OneText
pub mod Head
pub mod Number
