pub mod Listing
pub mod OneListing
