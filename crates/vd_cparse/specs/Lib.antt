pub mod HeaderLine
pub mod HeaderView
pub mod Section
pub mod Fronts
