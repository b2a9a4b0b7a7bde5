pub mod DistinctNames
pub mod Functions
pub mod TypedAlike
