pub mod Needs
pub mod Links
pub mod Cycles
pub mod Views
