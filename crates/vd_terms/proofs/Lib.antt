pub mod Edges
pub mod PlainLemmas
pub mod TypedLemmas
