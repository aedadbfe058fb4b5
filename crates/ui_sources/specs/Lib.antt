pub mod Sources
pub mod Choosing
