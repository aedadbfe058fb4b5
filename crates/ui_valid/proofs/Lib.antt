pub mod Sequence
pub mod Unique
pub mod Eight
