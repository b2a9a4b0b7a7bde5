pub mod Layers
pub mod Nodes
pub mod Parts
pub mod Substitution
