pub mod Listing
pub mod Owning
pub mod Named
pub mod Twice
pub mod Mains
