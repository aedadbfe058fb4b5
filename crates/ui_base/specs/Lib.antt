pub mod Chars
pub mod Entries
pub mod Names
pub mod Paths
pub mod Steps
