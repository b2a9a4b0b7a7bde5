pub mod Tables
pub mod Singles
