pub mod Pairs
pub mod Roots
