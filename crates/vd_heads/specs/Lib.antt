pub mod HeadPart
pub mod Declaration
pub mod Closure
pub mod Held
pub mod Assertions
pub mod Least
pub mod Views
pub mod PartSet
