pub mod Complete
pub mod Layers
