pub mod Classes
mod Cuts
mod Fitting
mod Owning
