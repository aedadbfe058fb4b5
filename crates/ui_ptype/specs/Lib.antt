pub mod Seen
pub mod Asked
pub mod Nests
pub mod Parts
pub mod Pointers
pub mod Branches
pub mod Taken
