pub mod Alike
pub mod CheckedFunction
pub mod Function
pub mod Index
pub mod Typing
