pub mod NumberLemmas
pub mod PlainRefusals
