pub mod Runs
pub mod Firsts
pub mod Scanning
pub mod Numbers
