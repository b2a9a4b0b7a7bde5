pub mod Fitting
pub mod Heads
pub mod Cuts
pub mod Texts
