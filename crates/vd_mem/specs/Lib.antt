pub mod Kept
pub mod Locks
pub mod Memory
pub mod Tabulate
pub mod Word
