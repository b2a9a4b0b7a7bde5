mod Substituting
mod Counting
