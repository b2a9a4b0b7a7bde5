mod Counting
mod Weights
