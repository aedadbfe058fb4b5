pub mod Seen
pub mod Nests
pub mod Parts
pub mod Turns
